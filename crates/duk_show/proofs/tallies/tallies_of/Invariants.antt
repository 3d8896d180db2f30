use Rattle.std.proofs.Common.{drop, take}
use Rattle.duk_show.specs.inner.Tallies.{AreTallies}
use Rattle.duk_show.proofs.tallies.tallies_of.Given as goal

-- the terminals of the numbers so far
abbrev pub invariant-loop-number : goal.invariant-loop-number
invariant-loop-number l =
    AreTallies (take l.number-index l.numbers) (drop l.number-index l.numbers) l.numbers l.tallies.entries
