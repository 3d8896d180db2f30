use Rattle.std.proofs.Common.{◌≡◌, ◌<◌, ℕ, IsOk, length}
use Rattle.duk_group.specs.Numbers.{number_at}
use Rattle.duk_group.specs.declared.transposed.TheConstants.{WIDTH}
use Rattle.duk_hsm.specs.Group.{numbers_of}
use Rattle.duk_hsm.specs.inner.Group.{base_at}
use Rattle.duk_hsm.proofs.lanes.numbers_in.Given as goal

abbrev pub invariant-loop-i : goal.invariant-loop-i
invariant-loop-i l = record {
  size : length l.numbers ≡ WIDTH;
  below : (p : ℕ) → p < l.i → IsOk (base_at l.bases p) → number_at l.numbers p ≡ number_at (numbers_of l.asked) p;
}
