use Rattle.std.proofs.Common.{◌≡◌, ◌<◌, ◌≤◌, ℕ, Err, length}
use Rattle.duk_group.specs.Numbers.{number_at}
use Rattle.duk_group.specs.declared.transposed.TheConstants.{WIDTH}
use Rattle.duk_hsm.specs.Group.{numbers_of}
use Rattle.duk_hsm.specs.inner.Group.{IsBase, base_at}
use Rattle.duk_hsm.specs.declared.fault.HsmFault.TheVariants.{NoKeySet}
use Rattle.duk_hsm.proofs.group.base_keys.Given as goal

abbrev pub invariant-loop-i : goal.invariant-loop-i
invariant-loop-i g l = record {
  size : length l.bases ≡ WIDTH;
  below : (p : ℕ) → p < l.i → IsBase l.hsm (number_at (numbers_of l.asked) p) (base_at l.bases p);
  past : (p : ℕ) → l.i ≤ p → base_at l.bases p ≡ Err NoKeySet;
}
