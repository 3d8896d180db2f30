use Rattle.std.proofs.Common.{◌≡◌, ◌≤◌}
use Rattle.duk_group.specs.inner.Walk.{ones_from}
use Rattle.duk_group.proofs.walk.next_node.Given as goal

abbrev pub invariant-loop-next : goal.invariant-loop-next
invariant-loop-next l = record {
  within : l.next ≤ l.fn.place;
  same : ones_from l.next l.fn.number.counter ≡ ones_from l.fn.place l.fn.number.counter;
}
