use Rattle.std.proofs.Common.{◌≡◌, ℕ, ◌+◌, ◌<◌, false, get_or, length}
use Rattle.duk_lanes.specs.Lanes.{lane_of}
use Rattle.duk_lanes.proofs.wiring.joined.Given as goal

abbrev pub invariant-loop-k : goal.invariant-loop-k
invariant-loop-k g l =
    record {
      length_is : length l.both ≡ g.row.M;
      from_first : (i k : ℕ) → k < l.k
          → get_or (lane_of g.L.Lanes.lane i l.both) k false ≡ get_or (lane_of g.L.Lanes.lane i l.first) k false;
      from_second : (i k : ℕ) → k < l.k
          → get_or (lane_of g.L.Lanes.lane i l.both) (g.row.N + k) false ≡ get_or (lane_of g.L.Lanes.lane i l.second) k false;
    }
