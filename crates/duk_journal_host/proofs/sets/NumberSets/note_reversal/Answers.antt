use Rattle.std.proofs.Common.{subst}
use Rattle.duk_host.specs.Used.{IsOneMore}
use Rattle.duk_journal_host.specs.declared.sets.NumberSets.{NumberSets}
use Rattle.duk_journal_host.specs.inner.Index.{IsReversalNoted}
use Rattle.duk_journal_host.proofs.NumbersTaken.{reversal_noted}
use Rattle.duk_journal_host.proofs.sets.NumberSets.note_reversal.Goals as goal

pub returns-clause-noted : goal.returns-clause-noted
returns-clause-noted c =
    let new : NumberSets = record { used = c.use_up.new.self.used; others = c.use_up.new.self.others; reversed = c.insert-2.new.self } in
    let reversed_are = subst (λ before. IsOneMore before c.with_counter-reversed.result c.insert-2.new.self) c.in_ok-use_up.ensures.same c.in_ok-insert-2.ensures.added in
    subst (λ reversed. IsReversalNoted c.args.self.now new c.args.own reversed) c.with_counter-reversed.ensures.value
    (reversal_noted c.args.self.now new c.insert.new.self c.args.own c.with_counter-reversed.result c.in_ok-insert.ensures.added c.in_ok-use_up.ensures.used c.in_ok-use_up.ensures.others reversed_are)
