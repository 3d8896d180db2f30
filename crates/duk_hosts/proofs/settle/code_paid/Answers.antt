use Rattle.std.proofs.Common.{arith, refl}
use Rattle.duk_frame.specs.declared.code.Code.{Code}
use Rattle.duk_journal.specs.Standing.{payment_entry}
use Rattle.duk_journal.specs.declared.entry.Entry.{Entry}
use Rattle.duk_hosts.specs.inner.Kept.{IsPaymentOf}
use Rattle.duk_hosts.proofs.Kept.{none_at_all, none_more}
use Rattle.duk_hosts.proofs.settle.code_paid.Goals as goal

pub loop-entry-preserved : goal.loop-entry-preserved
loop-entry-preserved c =
    none_more (λ (entry : Entry). (code : Code) × IsPaymentOf c.args.purchase.now code entry) c.args.entries.now c.loop-entry.entry-index c.entry-item.result c.loop-entry-test.true c.entry-item.is c.loop-entry.invariant
    (λ paid. c.in_default.ensures.none paid.0 paid.1)

pub returns-clause-none : goal.returns-clause-none
returns-clause-none c = λ code has.
    none_at_all (λ (entry : Entry). (code : Code) × IsPaymentOf c.args.purchase.now code entry) c.args.entries.now c.loop-entry.entry-index (omega (arith, c.loop-entry-test.false)) c.loop-entry.invariant
    (payment_entry c.args.purchase.now.number has.amount code c.args.purchase.now.mac) has.kept (code, record { amount = has.amount; entry_is = refl })
