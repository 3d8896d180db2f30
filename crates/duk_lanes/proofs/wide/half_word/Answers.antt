use Rattle.std.proofs.Common.{◌==◌, false, get_or, ap, ◌∙◌, below_more, arith}
use Rattle.std.proofs.lemmas.Nat.Bits.{bit_at-zero}
use Rattle.duk_lanes.specs.Words.{word_lane}
use Rattle.duk_lanes.proofs.LanesOfFlags.{lane_below, lane_there, lane_above}
use Rattle.duk_lanes.proofs.wide.half_word.Goals as goal

pub loop-i-init : goal.loop-i-init
unfolding word_lane
loop-i-init c = record { flagged = λ k below. absurd (omega arith); clear = λ k above within. ap (λ n. n == 1) (bit_at-zero k) }

pub loop-i-preserved : goal.loop-i-preserved
loop-i-preserved c =
    let word = c.loop-i.word in
    let place = c.loop-i.i in
    let flag = get_or c.args.flags.now place false in
    record {
      flagged = below_more _ _
          (λ k below. lane_below word c.from.result place flag c.from.ensures (omega arith) k below ∙ c.loop-i.invariant.flagged k below)
          (lane_there word c.from.result place flag c.from.ensures (omega arith) (c.loop-i.invariant.clear place (omega arith) (omega arith)));
      clear = λ k above within. lane_above word c.from.result place flag c.from.ensures (omega arith) k (omega arith) within (c.loop-i.invariant.clear k (omega arith) within);
    }
