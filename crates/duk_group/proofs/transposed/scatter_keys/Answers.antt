use Rattle.std.proofs.Common.{ℕ, List, ◌++◌, ap₂, ◌∙◌, arith}
use Rattle.duk_group.specs.Blocks.{block_of}
use Rattle.duk_group.proofs.transposed.scatter_keys.Goals as goal

pub returns : goal.returns
unfolding block_of
returns c = λ i h.
    c.loop-i.invariant.below i (omega arith)
    ∙ ap₂ (λ (left right : List ℕ). left ++ right) (c.scatter_wide-left.ensures i h) (c.scatter_wide-right.ensures i h)
