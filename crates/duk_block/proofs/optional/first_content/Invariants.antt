use Rattle.std.proofs.Common.{ℕ, List}
use Rattle.duk_block.specs.Optional.{Leaves}
use Rattle.duk_block.proofs.OptionalContent.{Passed}
use Rattle.duk_block.proofs.optional.first_content.Given as goal

-- the blocks that were passed have other ids
abbrev pub invariant-loop-left : goal.invariant-loop-left
invariant-loop-left l = (rest : List ℕ) (leaves : Leaves l.fn.count l.fn.text rest) → Passed leaves.optional_blocks l.fn.id l.rest rest l.left

abbrev pub decreases-loop-left : goal.decreases-loop-left
decreases-loop-left l = l.left
