use Rattle.std.proofs.Common.{◌≡◌, ℕ, ◌<◌, length, drop}
use Rattle.duk_lanes.specs.Lanes.{lane_of}
use Rattle.duk_lanes.specs.inner.Wiring.{xored_at}
use Rattle.duk_lanes.proofs.wiring.xor_at.Given as goal

abbrev pub invariant-loop-k : goal.invariant-loop-k
invariant-loop-k g l =
    record {
      length_is : length l.sum ≡ g.row.N;
      added : (i : ℕ) → i < g.L.Lanes.count
          → xored_at (drop l.k l.places) (drop l.k (lane_of g.L.Lanes.lane i l.words)) (lane_of g.L.Lanes.lane i l.sum)
          ≡ xored_at l.places (lane_of g.L.Lanes.lane i l.words) (lane_of g.L.Lanes.lane i l.fn.sum);
    }
