use Rattle.std.proofs.Common.{arith, refl, ◌≡◌}
use Rattle.duk_journal.specs.declared.entry.Entry.{Entry}
use Rattle.duk_reversal.specs.declared.state.ReversalState.{ReversalState}
use Rattle.duk_journal_host.specs.Judgement.{reversal_entry}
use Rattle.duk_hosts.proofs.Kept.{none_at_all, none_more}
use Rattle.duk_hosts.proofs.settle.state_kept.Goals as goal

pub loop-entry-preserved : goal.loop-entry-preserved
loop-entry-preserved c =
    none_more (λ (entry : Entry). (state : ReversalState) × (entry ≡ reversal_entry c.args.reversal.now state)) c.args.entries.now c.loop-entry.entry-index c.entry-item.result c.loop-entry-test.true c.entry-item.is c.loop-entry.invariant
    (λ found. c.in_default.ensures.none found.0 found.1)

pub returns-clause-none : goal.returns-clause-none
returns-clause-none c = λ state has.
    none_at_all (λ (entry : Entry). (state : ReversalState) × (entry ≡ reversal_entry c.args.reversal.now state)) c.args.entries.now c.loop-entry.entry-index (omega (arith, c.loop-entry-test.false)) c.loop-entry.invariant
    (reversal_entry c.args.reversal.now state) has (state, refl)
