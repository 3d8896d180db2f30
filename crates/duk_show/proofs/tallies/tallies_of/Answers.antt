use Rattle.std.proofs.Common.{arith}
use Rattle.duk_show.proofs.TerminalTallies.{in_turn, whole}
use Rattle.duk_show.proofs.tallies.tallies_of.Goals as goal

pub loop-number-preserved : goal.loop-number-preserved
loop-number-preserved c =
    let now = c.in_ok-count_number.ensures in
    in_turn c.args.numbers.now c.loop-number.number-index c.number-item.result c.loop-number.tallies.entries c.count_number.new.tallies.entries
    c.loop-number-test.true c.number-item.is c.loop-number.invariant now.entries now.updates.0 now.unique

pub returns-clause-lines : goal.returns-clause-lines
returns-clause-lines c =
    whole c.args.numbers.now c.loop-number.number-index c.loop-number.tallies.entries (omega (arith, c.loop-number-test.false)) c.loop-number.invariant
