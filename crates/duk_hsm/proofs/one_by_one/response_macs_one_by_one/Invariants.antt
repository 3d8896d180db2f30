use Rattle.std.proofs.Common.{◌≡◌, ◌<◌, ℕ, length}
use Rattle.duk_group.specs.Numbers.{bytes_at, message_at}
use Rattle.duk_group.specs.declared.transposed.TheConstants.{WIDTH}
use Rattle.duk_mac.specs.Retail.{retail_of}
use Rattle.duk_tree.specs.Derivation.{response_key_of}
use Rattle.duk_hsm.proofs.one_by_one.response_macs_one_by_one.Given as goal

abbrev pub invariant-loop-i : goal.invariant-loop-i
invariant-loop-i l = record {
  size : length l.macs ≡ WIDTH;
  below : (p : ℕ) → p < l.i → 0 < length (message_at l.texts p) → bytes_at l.macs p ≡ retail_of (response_key_of (bytes_at l.keys p)) (message_at l.texts p);
}
