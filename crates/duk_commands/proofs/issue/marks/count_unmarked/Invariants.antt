use Rattle.std.proofs.Common.{◌≡◌, ◌≤◌, ◌+◌, drop, length}
use Rattle.duk_commands.specs.inner.Marks.{unmarked}
use Rattle.duk_commands.proofs.issue.marks.count_unmarked.Given as goal

-- what is counted, and what is left
abbrev pub invariant-loop-marked : goal.invariant-loop-marked
invariant-loop-marked l = record {
  all : l.count + length (unmarked (drop l.marked-index l.marks) l.marked-index) ≡ length (unmarked l.marks 0);
  few : l.count ≤ l.marked-index;
}
