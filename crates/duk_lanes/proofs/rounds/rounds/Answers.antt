use Rattle.std.proofs.Common.{◌*◌, ◌+◌, ◌≤◌, get_or, sym, ◌∙◌, arith, rules}
use Rattle.duk_lanes.specs.Lanes.{lane_of}
use Rattle.duk_lanes.proofs.RoundsInLanes.{total_fits, two_rounds, no_rounds}
use Rattle.duk_lanes.proofs.rounds.rounds.Goals as goal

pub add_function-requires : goal.add_function-requires
add_function-requires g c =
    let fits : get_or c.args.totals.now (2 * c.loop-k.k) 0 ≤ 28 = total_fits c.args.totals.now c.requires (2 * c.loop-k.k) in search rules

pub add_function-requires-in-loop-k : goal.add_function-requires-in-loop-k
add_function-requires-in-loop-k g c =
    let fits : get_or c.args.totals.now (2 * c.loop-k.k + 1) 0 ≤ 28 = total_fits c.args.totals.now c.requires (2 * c.loop-k.k + 1) in search rules

pub loop-k-preserved : goal.loop-k-preserved
loop-k-preserved g c =
    λ i h.
    two_rounds (lane_of g.L.Lanes.lane i c.args.c.now) (lane_of g.L.Lanes.lane i c.args.d.now) c.args.totals.now c.loop-k.k
    (lane_of g.L.Lanes.lane i c.loop-k.left) (lane_of g.L.Lanes.lane i c.loop-k.right) (omega arith) (c.add_function.ensures i h)
    (c.add_function-in-loop-k.ensures i h)
    ∙ c.loop-k.invariant i h

pub returns : goal.returns
returns g c =
    λ i h.
    sym (no_rounds (lane_of g.L.Lanes.lane i c.args.c.now) (lane_of g.L.Lanes.lane i c.args.d.now) c.args.totals.now (2 * c.loop-k.k) _ (omega arith))
    ∙ c.loop-k.invariant i h
