use Rattle.duk_till.proofs.Spare.{found_after}
use Rattle.duk_till.proofs.checks.has_one_after.Goals as goal

pub returns : goal.returns
returns c = rw c.is_some.ensures (found_after c.next_usable.result c.args.counter c.next_usable.ensures.found c.next_usable.ensures.none)
