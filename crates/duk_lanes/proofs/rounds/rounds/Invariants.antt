use Rattle.std.proofs.Common.{◌≡◌, ℕ, ◌*◌, ◌<◌, map, drop}
use Rattle.duk_des.specs.Des.{rounds}
use Rattle.duk_lanes.specs.Lanes.{lane_of}
use Rattle.duk_lanes.specs.inner.Schedule.{round_key_at}
use Rattle.duk_lanes.proofs.rounds.rounds.Given as goal

abbrev pub invariant-loop-k : goal.invariant-loop-k
invariant-loop-k g l =
    (i : ℕ) → i < g.L.Lanes.count
    → rounds (drop (2 * l.k) (map (round_key_at (lane_of g.L.Lanes.lane i l.c) (lane_of g.L.Lanes.lane i l.d)) l.totals))
    (record { left = lane_of g.L.Lanes.lane i l.left; right = lane_of g.L.Lanes.lane i l.right })
    ≡ rounds (map (round_key_at (lane_of g.L.Lanes.lane i l.c) (lane_of g.L.Lanes.lane i l.d)) l.totals)
    (record { left = lane_of g.L.Lanes.lane i l.fn.left; right = lane_of g.L.Lanes.lane i l.fn.right })
