use Rattle.std.proofs.Common.{Contains, take}
use Rattle.duk_journal.specs.Standing.{numbers_in}
use Rattle.duk_journal.specs.declared.entry.Entry.{Entry}
use Rattle.duk_hosts.proofs.Kept.{NoneIs}
use Rattle.duk_hosts.proofs.settle.is_used.Given as goal

abbrev pub invariant-loop-entry : goal.invariant-loop-entry
invariant-loop-entry l = NoneIs (λ (entry : Entry). Contains (numbers_in entry) l.number) (take l.entry-index l.entries)
