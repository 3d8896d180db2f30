use Rattle.std.proofs.Common.{arith}
use Rattle.duk_regs.proofs.CounterBounds.{shifted}
use Rattle.duk_regs.proofs.frontier.first_registers.Goals as goal

pub with_counter-requires : goal.with_counter-requires
with_counter-requires c = let one = shifted c.loop-place.place (omega arith) in omega arith
