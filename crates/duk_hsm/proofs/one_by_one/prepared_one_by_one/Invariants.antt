use Rattle.std.proofs.Common.{◌≡◌, ◌<◌, ℕ, List, Ok, length}
use Rattle.duk_group.specs.Numbers.{number_at}
use Rattle.duk_group.specs.declared.transposed.TheConstants.{WIDTH}
use Rattle.duk_hsm.specs.Group.{numbers_of}
use Rattle.duk_hsm.specs.inner.Group.{IsDerivedKey, base_at, prepared_at}
use Rattle.duk_hsm.proofs.one_by_one.prepared_one_by_one.Given as goal

abbrev pub invariant-loop-i : goal.invariant-loop-i
invariant-loop-i l = record {
  size : length l.prepared ≡ WIDTH;
  below : (p : ℕ) → p < l.i → (bdk : List ℕ) → base_at l.bases p ≡ Ok bdk → IsDerivedKey (number_at (numbers_of l.asked) p) l.zone bdk (prepared_at l.prepared p);
}
