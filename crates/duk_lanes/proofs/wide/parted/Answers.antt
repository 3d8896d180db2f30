use Rattle.std.proofs.Common.{sym, arith}
use Rattle.duk_lanes.proofs.LanesOfPairs.{lanes_of_firsts, lanes_of_seconds}
use Rattle.duk_lanes.proofs.wide.parted.Goals as goal

pub returns-clause-low : goal.returns-clause-low
returns-clause-low c i within =
    sym (lanes_of_firsts c.args.words.now c.loop-p.first i within c.told-words c.loop-p.invariant.first_length (λ p below. c.loop-p.invariant.firsts p (omega arith)))

pub returns-clause-high : goal.returns-clause-high
returns-clause-high c i within =
    sym (lanes_of_seconds c.args.words.now c.loop-p.second i within c.told-words c.loop-p.invariant.second_length (λ p below. c.loop-p.invariant.seconds p (omega arith)))
