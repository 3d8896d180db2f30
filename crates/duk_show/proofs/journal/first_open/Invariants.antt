use Rattle.duk_show.specs.inner.Journal.{AreClosedBetween}
use Rattle.duk_show.proofs.journal.first_open.Given as goal

-- the records so far are closed
abbrev pub invariant-loop-place : goal.invariant-loop-place
invariant-loop-place l = AreClosedBetween l.from l.place l.bytes
