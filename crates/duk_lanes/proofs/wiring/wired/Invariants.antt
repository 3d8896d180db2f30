use Rattle.std.proofs.Common.{◌≡◌, ℕ, ◌<◌, false, get_or, length}
use Rattle.duk_des.specs.Bits.{bit}
use Rattle.duk_lanes.specs.Lanes.{lane_of}
use Rattle.duk_lanes.proofs.wiring.wired.Given as goal

abbrev pub invariant-loop-k : goal.invariant-loop-k
invariant-loop-k g l =
    record {
      length_is : length l.chosen ≡ g.row.M;
      taken : (i k : ℕ) → k < l.k
          → get_or (lane_of g.L.Lanes.lane i l.chosen) k false ≡ bit (lane_of g.L.Lanes.lane i l.words) (get_or l.places k 0);
    }
