use Rattle.std.proofs.Common.{◌≡◌, ◌<◌, ℕ, length}
use Rattle.duk_group.specs.Numbers.{bytes_at}
use Rattle.duk_group.specs.declared.transposed.TheConstants.{WIDTH}
use Rattle.duk_hsm.specs.inner.Group.{prepared_at}
use Rattle.duk_hsm.proofs.lanes.prepared_in_lanes.Given as goal

abbrev pub invariant-loop-i : goal.invariant-loop-i
invariant-loop-i l = record {
  size : length l.prepared ≡ WIDTH;
  keys : (p : ℕ) → p < l.i → (prepared_at l.prepared p).key ≡ bytes_at l.made.keys p;
  zones : (p : ℕ) → p < l.i → (prepared_at l.prepared p).zone ≡ l.zone;
}
