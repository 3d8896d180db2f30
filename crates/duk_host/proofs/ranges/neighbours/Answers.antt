use Rattle.duk_host.proofs.NumbersOfRanges.{HaveOnePath}
use Rattle.duk_host.proofs.NeighbouringRanges.{before_next, none_above_last, none_after_other}
use Rattle.duk_host.proofs.ranges.neighbours.Goals as goal
use Rattle.duk_host.proofs.ranges.neighbours.Goals.{After-paths}

paths : After-paths → HaveOnePath
paths c = record {
  path_of_counter = c.paths.ensures.path_of_counter;
  value = c.paths.ensures.value;
  counter_of_path = c.paths.ensures.counter_of_path;
  only = c.paths.ensures.only;
}

pub returns-in_default-clause-after : goal.returns-in_default-clause-after
returns-in_default-clause-after c = none_above_last c.args.ranges.now c.args.ksn c.requires.ranges c.in_default.ensures.next

pub returns-else-range-next-clause-before : goal.returns-else-range-next-clause-before
returns-else-range-next-clause-before c =
    before_next (paths (goal.at.returns-else-range-next-clause-before c).After-paths) c.args.ranges.now c.args.ksn c.in-Some.ensures.serial c.in-Some.next
    c.requires.ranges c.in-Some.ensures.next c.in-Some-last_up_to.range c.of_terminal.result c.in-Some-last_up_to.ensures.found c.if-range-next.false c.of_terminal.ensures

pub returns-else-range-next-clause-after : goal.returns-else-range-next-clause-after
returns-else-range-next-clause-after c =
    none_after_other (paths (goal.at.returns-else-range-next-clause-after c).After-paths) c.args.ranges.now c.args.ksn c.in-Some.ensures.serial c.in-Some.next
    c.requires.ranges c.in-Some.ensures.next c.in-Some-last_up_to.range c.in-Some-last_up_to.ensures.found c.if-range-next.false
