use Rattle.std.proofs.Common.{◌≡◌, ◌<◌, ℕ, List, Ok, length}
use Rattle.duk_group.specs.Numbers.{bytes_at}
use Rattle.duk_group.specs.declared.transposed.TheConstants.{WIDTH}
use Rattle.duk_hsm.specs.inner.Group.{base_at}
use Rattle.duk_hsm.proofs.lanes.keys_of.Given as goal

abbrev pub invariant-loop-i : goal.invariant-loop-i
invariant-loop-i l = record {
  size : length l.keys ≡ WIDTH;
  below : (p : ℕ) → p < l.i → (bdk : List ℕ) → base_at l.bases p ≡ Ok bdk → bytes_at l.keys p ≡ bdk;
}
