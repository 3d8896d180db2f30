use Rattle.std.proofs.Common.{◌≡◌, ◌<◌, ℕ, Ok, length}
use Rattle.duk_group.specs.Numbers.{bytes_at}
use Rattle.duk_group.specs.declared.transposed.TheConstants.{WIDTH}
use Rattle.duk_hsm.specs.Group.{place_at}
use Rattle.duk_hsm.specs.TransactionKeys.{TransactionKeys}
use Rattle.duk_hsm.proofs.group.opened_keys.Given as goal

abbrev pub invariant-loop-i : goal.invariant-loop-i
invariant-loop-i l = record {
  size : length l.keys ≡ WIDTH;
  below : (p : ℕ) → p < l.i → (opened : TransactionKeys) → place_at l.places p ≡ Ok opened → bytes_at l.keys p ≡ opened.key;
}
