use Rattle.std.proofs.Common.{take}
use Rattle.duk_frame.specs.declared.code.Code.{Code}
use Rattle.duk_journal.specs.declared.entry.Entry.{Entry}
use Rattle.duk_hosts.specs.inner.Kept.{IsPaymentOf}
use Rattle.duk_hosts.proofs.Kept.{NoneIs}
use Rattle.duk_hosts.proofs.settle.code_paid.Given as goal

abbrev pub invariant-loop-entry : goal.invariant-loop-entry
invariant-loop-entry l = NoneIs (λ (entry : Entry). (code : Code) × IsPaymentOf l.purchase code entry) (take l.entry-index l.entries)
