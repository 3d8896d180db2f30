use Rattle.std.proofs.Common.{take}
use Rattle.duk_journal.specs.declared.entry.Entry.{Entry}
use Rattle.duk_hosts.specs.inner.Kept.{IsApprovalOf}
use Rattle.duk_hosts.proofs.Kept.{NoneIs}
use Rattle.duk_hosts.proofs.settle.state_found.Given as goal

abbrev pub invariant-loop-entry : goal.invariant-loop-entry
invariant-loop-entry l = NoneIs (λ (entry : Entry). IsApprovalOf l.number entry) (take l.entry-index l.entries)
