use Rattle.duk_lanes.specs.Words.{wide_lane}
use Rattle.duk_group.specs.Numbers.{bytes_at}
use Rattle.duk_group.proofs.LaneBlocks.{block_of-bits}
use Rattle.duk_group.proofs.transposed.gather_blocks.Goals as goal

pub returns : goal.returns
returns c = λ i h is_block. block_of-bits wide_lane i c.gather_wide.result (bytes_at c.args.blocks.now i) is_block (c.gather_wide.ensures i h)
