use Rattle.std.proofs.Common.{◌≡◌, ◌++◌, drop, flat_map}
use Rattle.duk_show.specs.inner.Tallies.{tally_line}
use Rattle.duk_show.proofs.log.push_tallies.Given as goal

-- the lines so far, and those of what is left, are all lines
abbrev pub invariant-loop-tally : goal.invariant-loop-tally
invariant-loop-tally l =
    l.text.items ++ flat_map tally_line (drop l.tally-index l.tallies) ≡ l.fn.text.items ++ flat_map tally_line l.tallies
