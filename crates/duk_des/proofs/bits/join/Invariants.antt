use Rattle.std.proofs.Common.{◌≡◌, ℕ, ◌+◌, ◌<◌, false, get_or, length}
use Rattle.duk_des.proofs.bits.join.Given as goal

abbrev pub invariant-loop-i : goal.invariant-loop-i
invariant-loop-i g l =
    record {
      length_is : length l.both ≡ g.row.M;
      from_first : (k : ℕ) → k < l.i → get_or l.both k false ≡ get_or l.first k false;
      from_second : (k : ℕ) → k < l.i → get_or l.both (g.row.N + k) false ≡ get_or l.second k false;
    }
