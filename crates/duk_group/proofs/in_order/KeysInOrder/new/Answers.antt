use Rattle.std.proofs.Common.{inl}
use Rattle.duk_group.proofs.CountersInOrder.{first_is_usable}
use Rattle.duk_group.proofs.in_order.KeysInOrder.new.Goals as goal

pub invariant_of-result : goal.invariant_of-result
invariant_of-result c = (record { counter_is = inl first_is_usable }, c.none.ensures c.args.initial c.args.iksn)
