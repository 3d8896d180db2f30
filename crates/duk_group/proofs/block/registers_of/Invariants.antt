use Rattle.std.proofs.Common.{◌≡◌, ◌<◌, ℕ, length}
use Rattle.duk_tree.specs.Serial.{low_bytes}
use Rattle.duk_group.specs.Numbers.{bytes_at, number_at}
use Rattle.duk_group.specs.declared.transposed.TheConstants.{WIDTH}
use Rattle.duk_group.proofs.block.registers_of.Given as goal

abbrev pub invariant-loop-i : goal.invariant-loop-i
invariant-loop-i l = record {
  size : length l.blocks ≡ WIDTH;
  below : (p : ℕ) → p < l.i → bytes_at l.blocks p ≡ low_bytes (number_at l.numbers p);
}
