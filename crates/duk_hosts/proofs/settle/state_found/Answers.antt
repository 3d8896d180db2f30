use Rattle.std.proofs.Common.{arith, refl, sym, ◌∙◌}
use Rattle.std.proofs.lemmas.Bool.{false≢true}
use Rattle.duk_frame.specs.declared.code.Code.TheVariants.{Approved}
use Rattle.duk_journal.specs.Standing.{payment_entry}
use Rattle.duk_hosts.specs.inner.Kept.{IsApprovalOf}
use Rattle.duk_hosts.proofs.Kept.{none_at_all, none_more}
use Rattle.duk_hosts.proofs.settle.state_found.Goals as goal

pub loop-entry-preserved : goal.loop-entry-preserved
loop-entry-preserved c =
    none_more (IsApprovalOf c.args.number) c.args.entries.now c.loop-entry.entry-index c.entry-item.result c.loop-entry-test.true c.entry-item.is c.loop-entry.invariant
    (λ is. false≢true (sym c.if-is_approval.false ∙ c.is_approval.ensures.1 is))

pub returns : goal.returns
returns c = λ has.
    none_at_all (IsApprovalOf c.args.number) c.args.entries.now c.loop-entry.entry-index (omega (arith, c.loop-entry-test.false)) c.loop-entry.invariant
    (payment_entry c.args.number has.amount Approved has.mac) has.kept (record { amount = has.amount; entry_is = refl })
