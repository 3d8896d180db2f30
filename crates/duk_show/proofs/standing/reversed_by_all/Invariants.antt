use Rattle.std.proofs.Common.{take}
use Rattle.duk_journal.specs.Standing.{reversed_numbers}
use Rattle.duk_show.specs.inner.Journal.{AreThose}
use Rattle.duk_show.proofs.standing.reversed_by_all.Given as goal

-- the numbers that the entries so far reverse
abbrev pub invariant-loop-entry : goal.invariant-loop-entry
invariant-loop-entry l = AreThose (reversed_numbers (take l.entry-index l.entries)) l.reversed
