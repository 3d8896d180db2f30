use Rattle.std.proofs.Common.{◌≡◌, ◌<◌, ◌*◌, ℕ, length}
use Rattle.duk_group.specs.Numbers.{bytes_at}
use Rattle.duk_calls.specs.Answer.{part_at}
use Rattle.duk_calls.proofs.many_keys.write_keys.Given as goal

abbrev pub invariant-loop-i : goal.invariant-loop-i
invariant-loop-i l = record {
  kept : length l.bytes ≡ 16 * length l.keys;
  below : (p : ℕ) → p < l.i → part_at 16 l.bytes p ≡ bytes_at l.keys p;
}
