use Rattle.std.proofs.Common.{◌≡◌, ◌<◌, ℕ, length, get_or, take}
use Rattle.duk_tree.specs.Serial.{iksn_bytes}
use Rattle.duk_group.specs.Numbers.{bytes_at}
use Rattle.duk_group.proofs.initial.first_blocks.Given as goal

abbrev pub invariant-loop-i : goal.invariant-loop-i
invariant-loop-i l = record {
  size : length l.blocks ≡ 128;
  below : (p : ℕ) → p < l.i → bytes_at l.blocks p ≡ take 8 (iksn_bytes (get_or l.iksns p 0));
}
