use Rattle.std.proofs.Common.{◌≡◌, ◌<◌, ℕ, length, take}
use Rattle.duk_group.specs.Numbers.{bytes_at}
use Rattle.duk_group.proofs.check_value.check_values.Given as goal

abbrev pub invariant-loop-i : goal.invariant-loop-i
invariant-loop-i l = record {
  size : length l.values ≡ 128;
  below : (p : ℕ) → p < l.i → bytes_at l.values p ≡ take 3 (bytes_at l.blocks p);
}
