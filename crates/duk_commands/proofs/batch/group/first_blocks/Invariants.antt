use Rattle.std.proofs.Common.{◌≡◌, ◌<◌, ℕ, length, take}
use Rattle.duk_group.specs.declared.transposed.TheConstants.{WIDTH}
use Rattle.duk_group.specs.Numbers.{bytes_at, number_at}
use Rattle.duk_tree.specs.Serial.{iksn_bytes}
use Rattle.duk_commands.proofs.batch.group.first_blocks.Given as goal

-- the blocks below this place are written
abbrev pub invariant-loop-i : goal.invariant-loop-i
invariant-loop-i l = record {
  size : length l.blocks ≡ WIDTH;
  below : (p : ℕ) → p < l.i → bytes_at l.blocks p ≡ take 8 (iksn_bytes (number_at l.numbers p).iksn);
}
