use Rattle.std.proofs.Common.{arith}
use Rattle.duk_regs.specs.Registers.{RegisterSet}
use Rattle.duk_regs.proofs.CounterBounds.{BitLaws, counter_bounds}
use Rattle.duk_regs.proofs.registers.Registers.image.Goals as goal

pub write_image-requires-clause-counter : goal.write_image-requires-clause-counter
write_image-requires-clause-counter c =
    let laws : BitLaws = record { usable = c.bits.ensures.usable; place = c.bits.ensures.place; ones = c.bits.ensures.ones; lowest = c.bits.ensures.lowest } in
    omega (arith, (counter_bounds laws c.self.inside.counter c.self.invariant.counter_is).1)

pub returns-clause-is_image : goal.returns-clause-is_image
returns-clause-is_image c =
    let set : RegisterSet = record { iksn = c.self.inside.iksn; counter = c.self.inside.counter; registers = c.self.inside.registers; past = c.self.inside.past } in
    rw (c.write_image.ensures.image, c.iksns.ensures.iksns) (c.images.ensures.is_image set c.self.invariant c.write_image.ensures.are_16)

pub returns-clause-read : goal.returns-clause-read
returns-clause-read c =
    let set : RegisterSet = record { iksn = c.self.inside.iksn; counter = c.self.inside.counter; registers = c.self.inside.registers; past = c.self.inside.past } in
    rw (← c.self.view_is, c.write_image.ensures.image, c.iksns.ensures.iksns) (c.images.ensures.read set c.self.invariant c.write_image.ensures.are_16)
