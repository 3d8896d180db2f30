use Rattle.duk_lanes.specs.Words.{wide_lane}
use Rattle.std.proofs.Common.{ℕ, List, ◌++◌, ap₂, ◌∙◌}
use Rattle.duk_group.specs.Blocks.{key_of}
use Rattle.duk_group.proofs.JoinedHalves.{half_block, halves_joined}
use Rattle.duk_group.proofs.LaneBlocks.{block_of-bits}
use Rattle.duk_group.proofs.transposed.spread_key.Goals as goal

pub returns : goal.returns
returns c = λ i h.
    ap₂ (λ (left right : List (List ℕ)). key_of wide_lane i left right) c.new.ensures.left c.new.ensures.right
    ∙ ap₂ (λ (left right : List ℕ). left ++ right)
    (block_of-bits wide_lane i c.spread_wide.result c.bytes.result (half_block c.bytes.ensures.key c.bytes.ensures.bytes) (c.spread_wide.ensures i h) ∙ c.bytes.ensures.bytes ∙ c.halves-left.ensures.left)
    (block_of-bits wide_lane i c.spread_wide-2.result c.bytes-2.result (half_block c.bytes-2.ensures.key c.bytes-2.ensures.bytes) (c.spread_wide-2.ensures i h) ∙ c.bytes-2.ensures.bytes ∙ c.halves-left.ensures.right)
    ∙ halves_joined c.args.key.now c.tdes_key.ensures.size
