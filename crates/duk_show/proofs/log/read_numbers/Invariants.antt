use Rattle.duk_show.specs.inner.Log.{AreFirstNumbers}
use Rattle.duk_show.proofs.log.read_numbers.Given as goal

-- the numbers of the records so far
abbrev pub invariant-loop-place : goal.invariant-loop-place
invariant-loop-place l = AreFirstNumbers l.place l.bytes l.numbers.items
