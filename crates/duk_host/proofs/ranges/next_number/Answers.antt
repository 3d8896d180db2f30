use Rattle.duk_host.proofs.ranges.next_number.Goals as goal

pub with_counter-requires : goal.with_counter-requires
with_counter-requires c = (c.bits.ensures.usable c.in-Some.next c.in-Some.ensures.found.is_usable).0
