use Rattle.std.proofs.Common.{◌≡◌, ℕ, ◌<◌, false, get_or, length}
use Rattle.duk_des.specs.Bits.{bit}
use Rattle.duk_des.proofs.bits.permute.Given as goal

abbrev pub invariant-loop-i : goal.invariant-loop-i
invariant-loop-i g l =
    record {
      length_is : length l.chosen ≡ g.row.M;
      taken : (k : ℕ) → k < l.i → get_or l.chosen k false ≡ bit l.bits (get_or l.places k 0);
    }
