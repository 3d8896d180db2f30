use Rattle.std.proofs.Common.{◌<◌, ◌≤◌, ◌+◌, ℕ, length, get_or}
use Rattle.duk_lanes.specs.Words.{wide_lane}
use Rattle.duk_group.specs.Blocks.{key_of}
use Rattle.duk_group.specs.Numbers.{number_at}
use Rattle.duk_group.proofs.LanesDown.{HasKey}
use Rattle.duk_group.proofs.derivation.transaction_keys.Given as goal

abbrev pub invariant-loop : goal.invariant-loop
invariant-loop l = record {
  places : (i : ℕ) → i < length l.numbers → get_or l.places i 0 + l.counter ≤ 21;
  keys : (i : ℕ) → i < length l.numbers
      → HasKey (key_of wide_lane i l.fn.initial.left l.fn.initial.right) (number_at l.numbers i) (get_or l.places i 0) (key_of wide_lane i l.keys.left l.keys.right);
}
