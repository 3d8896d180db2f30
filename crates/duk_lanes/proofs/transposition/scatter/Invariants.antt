use Rattle.std.proofs.Common.{◌≡◌, ℕ, ◌-◌, ◌<◌, [], length, get_or}
use Rattle.duk_des.specs.Bits.{bytes_of_bits}
use Rattle.duk_lanes.specs.inner.Words.{word_bits}
use Rattle.duk_lanes.proofs.transposition.scatter.Given as goal

abbrev pub invariant-loop-i : goal.invariant-loop-i
invariant-loop-i l =
    record {
      length_is : length l.blocks ≡ 64;
      written : (k : ℕ) → k < l.i → get_or l.blocks k [] ≡ bytes_of_bits 8 (word_bits (get_or l.rows (63 - k) 0));
    }
