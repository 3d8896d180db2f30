use Rattle.duk_regs.proofs.CounterBounds.{usable_counter}
use Rattle.duk_regs.proofs.registers.Registers.ksn.Goals as goal

pub with_counter-requires : goal.with_counter-requires
with_counter-requires c = (c.bits.ensures.usable c.self.inside.counter (usable_counter c.self.inside.counter c.self.invariant.counter_is c.if-self-eq-SPENT.false)).0
