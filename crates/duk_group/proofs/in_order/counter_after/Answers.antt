use Rattle.duk_group.proofs.CountersInOrder.{comes_after}
use Rattle.duk_group.proofs.in_order.counter_after.Goals as goal

pub returns : goal.returns
returns c = rw c.unwrap_or.ensures (comes_after c.args.counter c.next_usable.result c.next_usable.ensures.found c.next_usable.ensures.none)
