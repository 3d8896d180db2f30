use Rattle.std.proofs.Common.{◌≡◌, ◌<◌, ℕ, length}
use Rattle.duk_lanes.specs.Words.{wide_lane}
use Rattle.duk_tdes.specs.Cbc.{cbc_encrypted}
use Rattle.duk_tdes.specs.KeyBytes.{bytes_of}
use Rattle.duk_group.specs.Blocks.{block_of, message_in}
use Rattle.duk_group.proofs.LaneMessages.{ciphers_from}
use Rattle.duk_group.proofs.modes.cbc_under.Given as goal

-- in each lane what is done, and after it what is to be done
abbrev pub invariant-loop-place : goal.invariant-loop-place
invariant-loop-place l = record {
  kept : length l.blocks ≡ length l.fn.blocks;
  same : (i : ℕ) → i < 128
      → ciphers_from wide_lane i (bytes_of l.key) l.place (block_of wide_lane i l.before) l.blocks
      ≡ cbc_encrypted (bytes_of l.key) (block_of wide_lane i l.fn.initial_vector) (message_in wide_lane i l.fn.blocks);
}
