use Rattle.std.proofs.Common.{◌≡◌, ℕ, ◌*◌, ◌<◌, length, take, drop, get_or}
use Rattle.duk_des.specs.Bits.{number_of}
use Rattle.duk_des.proofs.bits.bytes_of_bits.Given as goal

abbrev pub invariant-loop-i : goal.invariant-loop-i
invariant-loop-i l =
    record {
      length_is : length l.bytes ≡ 8;
      spelled : (k : ℕ) → k < l.i → get_or l.bytes k 0 ≡ number_of (take 8 (drop (8 * k) l.bits));
    }
