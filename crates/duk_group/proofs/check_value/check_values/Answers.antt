use Rattle.std.proofs.Common.{ℕ, List, take, ap, ap₂, ◌∙◌, arith}
use Rattle.duk_lanes.specs.Words.{wide_lane}
use Rattle.duk_mac.specs.Chain.{zero_block}
use Rattle.duk_tdes.specs.Tdes.{tdes_encrypted}
use Rattle.duk_group.specs.Blocks.{block_of}
use Rattle.duk_group.proofs.LaneBlocks.{block_of-bits, zeros_are_a_block}
use Rattle.duk_group.proofs.check_value.check_values.Goals as goal

pub returns : goal.returns
unfolding block_of
returns c = λ i h.
    c.loop-i.invariant.below i (omega arith)
    ∙ ap (take 3)
    (c.scatter_wide-blocks.ensures i h
    ∙ c.encrypt.ensures i h
    ∙ ap₂ (λ (key block : List ℕ). tdes_encrypted key block)
    (c.gather_keys.ensures i (omega arith))
    (block_of-bits wide_lane i c.spread_wide.result zero_block zeros_are_a_block (c.spread_wide.ensures i h)))
