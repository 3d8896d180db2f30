use Rattle.std.proofs.Common.{◌≡◌, ◌<◌, ◌≤◌, ◌*◌, ◌-◌, ℕ, length, drop}
use Rattle.duk_tree.specs.Derivation.{derived_key_of}
use Rattle.duk_tree.specs.Serial.{serial_of_bytes}
use Rattle.duk_calls.specs.Answer.{part_at}
use Rattle.duk_calls.proofs.many_keys.derive_many.Given as goal

abbrev pub invariant-loop-done : goal.invariant-loop-done
invariant-loop-done l = record {
  within : l.done ≤ l.count;
  kept : length l.keys ≡ length l.fn.keys;
  below : (p : ℕ) → p < l.done → part_at 16 l.keys p ≡ derived_key_of l.fn.bdk (serial_of_bytes (part_at 10 l.ksns p));
  behind : drop (16 * l.done) l.keys ≡ drop (16 * l.done) l.fn.keys;
}

abbrev pub decreases-loop-done : goal.decreases-loop-done
decreases-loop-done l = l.count - l.done
