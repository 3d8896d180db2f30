use Rattle.std.proofs.Common.{ℕ, List}
use Rattle.duk_block.specs.Optional.{Leaves}
use Rattle.duk_block.proofs.optional.after_optional.Given as goal

-- what is left of the text has the blocks that are left exactly where the text has them all
abbrev pub invariant-loop-left : goal.invariant-loop-left
invariant-loop-left l = record {
  onward : (rest : List ℕ) → Leaves l.left l.rest rest → Leaves l.fn.count l.fn.text rest;
  back : (rest : List ℕ) → Leaves l.fn.count l.fn.text rest → Leaves l.left l.rest rest;
}

abbrev pub decreases-loop-left : goal.decreases-loop-left
decreases-loop-left l = l.left
