use Rattle.std.proofs.Common.{drop, take}
use Rattle.duk_show.specs.inner.JournalTallies.{ArePayers}
use Rattle.duk_show.proofs.journal_tallies.payers_of.Given as goal

-- the terminals of the entries so far
abbrev pub invariant-loop-entry : goal.invariant-loop-entry
invariant-loop-entry l =
    ArePayers (take l.entry-index l.entries) (drop l.entry-index l.entries) l.entries l.payers.entries
