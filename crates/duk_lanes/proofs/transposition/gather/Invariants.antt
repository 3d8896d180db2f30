use Rattle.std.proofs.Common.{◌≡◌, ℕ, ◌-◌, ◌<◌, [], length, get_or}
use Rattle.duk_des.specs.Bits.{bits_of_bytes}
use Rattle.duk_lanes.specs.inner.Words.{word_bits}
use Rattle.duk_lanes.proofs.transposition.gather.Given as goal

abbrev pub invariant-loop-i : goal.invariant-loop-i
invariant-loop-i l =
    record {
      length_is : length l.rows ≡ 64;
      read : (k : ℕ) → k < l.i → word_bits (get_or l.rows k 0) ≡ bits_of_bytes (get_or l.blocks (63 - k) []);
    }
