use Rattle.std.proofs.Common.{◌≡◌, ℕ, ◌<◌, [], length, get_or}
use Rattle.duk_lanes.proofs.wide.paired.Given as goal

abbrev pub invariant-loop-p : goal.invariant-loop-p
invariant-loop-p l =
    record {
      length_is : length l.words ≡ 64;
      firsts : (k : ℕ) → k < l.p → get_or (get_or l.words k []) 0 0 ≡ get_or l.first k 0;
      seconds : (k : ℕ) → k < l.p → get_or (get_or l.words k []) 1 0 ≡ get_or l.second k 0;
    }
