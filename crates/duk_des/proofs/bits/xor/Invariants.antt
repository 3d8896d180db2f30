use Rattle.std.proofs.Common.{◌≡◌, ℕ, ◌<◌, false, get_or, length}
use Rattle.std.specs.Bool.{xor}
use Rattle.duk_des.proofs.bits.xor.Given as goal

abbrev pub invariant-loop-i : goal.invariant-loop-i
invariant-loop-i g l =
    record {
      length_is : length l.sum ≡ g.row.N;
      added : (k : ℕ) → k < l.i → get_or l.sum k false ≡ xor (get_or l.left k false) (get_or l.right k false);
    }
