use Rattle.std.proofs.Common.{arith}
use Rattle.duk_lanes.proofs.LanesOfPairs.{lanes_of_firsts, lanes_of_seconds}
use Rattle.duk_lanes.proofs.wide.paired.Goals as goal

pub returns-clause-low : goal.returns-clause-low
returns-clause-low c i within =
    lanes_of_firsts c.loop-p.words c.args.first.now i within c.loop-p.invariant.length_is c.told-first (λ p below. c.loop-p.invariant.firsts p (omega arith))

pub returns-clause-high : goal.returns-clause-high
returns-clause-high c i within =
    lanes_of_seconds c.loop-p.words c.args.second.now i within c.loop-p.invariant.length_is c.told-second (λ p below. c.loop-p.invariant.seconds p (omega arith))
