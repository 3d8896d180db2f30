use Rattle.std.proofs.Common.{sym, ap, ◌∙◌, arith}
use Rattle.duk_tree.specs.Serial.{Serial, serial_bytes}
use Rattle.duk_regs.proofs.ImageWrittenAndRead.{present_bytes-set_in}
use Rattle.duk_regs.proofs.image.read_present.Goals as goal

pub returns-then-leaves_empty-clause-written : goal.returns-then-leaves_empty-clause-written
returns-then-leaves_empty-clause-written c =
    let serial = c.from_bytes-serial.ensures in
    let bytes = c.array_of.ensures.bytes in
    present_bytes-set_in c.args.image.now c.requires (λ i. omega (arith, c.type_inv.image i))
    (rw (← bytes) (ap serial_bytes (sym serial.value) ∙ serial.bytes))
    (rw (← bytes) (ap (λ (n : Serial). n.counter) (sym serial.value)) ∙ sym c.counter.ensures.value ∙ c.if-counter-ne0.false)

pub returns-else-leaves_empty-clause-found : goal.returns-else-leaves_empty-clause-found
returns-else-leaves_empty-clause-found c = (
  λ never. absurd (cc),
  λ part. c.if-leaves_empty.ensures.1
      (rw (c.read_registers-registers.ensures, c.read_u24-counter.ensures) part.leaves_empty),
)
