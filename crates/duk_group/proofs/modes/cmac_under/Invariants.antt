use Rattle.std.proofs.Common.{◌≡◌, ◌<◌, ℕ}
use Rattle.duk_lanes.specs.Words.{wide_lane}
use Rattle.duk_mac.specs.Cmac.{cmac_of}
use Rattle.duk_tdes.specs.KeyBytes.{bytes_of}
use Rattle.duk_group.specs.Blocks.{block_of, message_in}
use Rattle.duk_group.proofs.LaneMessages.{mac_after}
use Rattle.duk_group.proofs.modes.cmac_under.Given as goal

-- each lane's chain so far, along the blocks that are left, gives the MAC
abbrev pub invariant-loop-block : goal.invariant-loop-block
invariant-loop-block l =
    (i : ℕ) → i < 128
    → mac_after wide_lane i (bytes_of l.key) l.blocks l.block-index (block_of wide_lane i l.chain)
    ≡ cmac_of (bytes_of l.key) (message_in wide_lane i l.blocks)
