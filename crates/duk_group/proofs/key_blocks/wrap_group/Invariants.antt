use Rattle.std.proofs.Common.{◌≡◌, ◌<◌, ℕ, length}
use Rattle.duk_block.specs.KeyBlock.{IsWrittenKeyBlock}
use Rattle.duk_tdes.specs.KeyBytes.{bytes_of}
use Rattle.duk_group.specs.Numbers.{bytes_at}
use Rattle.duk_group.proofs.key_blocks.wrap_group.Given as goal

abbrev pub invariant-loop-i : goal.invariant-loop-i
invariant-loop-i l = record {
  size : length l.texts ≡ 128;
  below : (p : ℕ) → p < l.i → IsWrittenKeyBlock (bytes_at l.texts p) (bytes_of l.protection) l.header (bytes_at l.keys p) (bytes_at l.padding p);
}
