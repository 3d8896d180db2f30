use Rattle.std.proofs.Common.{◌≡◌, ℕ, ◌<◌, ◌≤◌, false, get_or, length}
use Rattle.std.specs.Bool.{xor}
use Rattle.duk_lanes.specs.Lanes.{lane_of}
use Rattle.duk_lanes.proofs.wiring.xor_into.Given as goal

abbrev pub invariant-loop-k : goal.invariant-loop-k
invariant-loop-k g l =
    record {
      length_is : length l.sum ≡ g.row.N;
      added : (i : ℕ) → i < g.L.Lanes.count → (k : ℕ) → k < l.k
          → get_or (lane_of g.L.Lanes.lane i l.sum) k false
          ≡ xor (get_or (lane_of g.L.Lanes.lane i l.fn.sum) k false) (get_or (lane_of g.L.Lanes.lane i l.other) k false);
      left : (i k : ℕ) → l.k ≤ k → get_or (lane_of g.L.Lanes.lane i l.sum) k false ≡ get_or (lane_of g.L.Lanes.lane i l.fn.sum) k false;
    }
