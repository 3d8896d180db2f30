use Rattle.std.proofs.Common.{◌≡◌, ◌<◌, ℕ}
use Rattle.duk_group.specs.Numbers.{number_at}
use Rattle.duk_tree.specs.Serial.{serial_of_bytes}
use Rattle.duk_calls.specs.Answer.{part_at}
use Rattle.duk_calls.proofs.many_keys.serial_numbers.Given as goal

abbrev pub invariant-loop-i : goal.invariant-loop-i
invariant-loop-i l = record {
  below : (p : ℕ) → p < l.i → number_at l.numbers p ≡ serial_of_bytes (part_at 10 l.ksns p);
}
