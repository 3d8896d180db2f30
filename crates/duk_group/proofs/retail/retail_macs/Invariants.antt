use Rattle.std.proofs.Common.{◌<◌, ℕ, length}
use Rattle.duk_lanes.specs.Words.{wide_lane}
use Rattle.duk_group.specs.Blocks.{block_of}
use Rattle.duk_group.specs.Numbers.{message_at}
use Rattle.duk_group.proofs.LanesAlong.{HasChain}
use Rattle.duk_group.proofs.retail.retail_macs.Given as goal

abbrev pub invariant-loop-count : goal.invariant-loop-count
invariant-loop-count l = (i : ℕ) → i < length l.messages → HasChain (block_of wide_lane i l.fn.keys.left) (message_at l.messages i) l.count (block_of wide_lane i l.chain)
