use Rattle.std.proofs.Common.{◌≡◌, ◌<◌, ℕ, length}
use Rattle.duk_group.specs.Numbers.{bytes_at}
use Rattle.duk_group.proofs.JoinedHalves.{AreHalvesOf}
use Rattle.duk_group.proofs.transposed.gather_keys.Given as goal

abbrev pub invariant-loop-i : goal.invariant-loop-i
invariant-loop-i l = record {
  left_size : length l.left ≡ 128;
  right_size : length l.right ≡ 128;
  each : (p : ℕ) → p < l.i → AreHalvesOf (bytes_at l.keys p) (bytes_at l.left p) (bytes_at l.right p);
}
