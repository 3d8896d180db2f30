use Rattle.std.proofs.Common.{◌≡◌, ◌<◌, ℕ, length}
use Rattle.duk_block.specs.KeyBlock.{payload_of}
use Rattle.duk_tdes.specs.Cbc.{AreWholeBlocks}
use Rattle.duk_tdes.specs.Tdes.{IsTdesKey}
use Rattle.duk_group.specs.Numbers.{bytes_at}
use Rattle.duk_group.proofs.key_blocks.payloads.Given as goal

abbrev pub invariant-loop-i : goal.invariant-loop-i
invariant-loop-i l = record {
  size : length l.payloads ≡ 128;
  below : (p : ℕ) → p < l.i → bytes_at l.payloads p ≡ payload_of (bytes_at l.keys p) (bytes_at l.padding p);
  whole : (p : ℕ) → p < l.i → AreWholeBlocks (bytes_at l.payloads p);
  keys : (p : ℕ) → p < l.i → IsTdesKey (bytes_at l.keys p);
}
