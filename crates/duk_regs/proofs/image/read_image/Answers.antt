use Rattle.std.proofs.Common.{arith}
use Rattle.duk_regs.proofs.CounterBounds.{BitLaws}
use Rattle.duk_regs.proofs.ImageWrittenAndRead.{AreWritable, parts_of_image, writable}
use Rattle.duk_regs.proofs.image.read_image.Goals as goal

pub returns-clause-found : goal.returns-clause-found
returns-clause-found c =
    let laws : BitLaws = record { usable = c.bits.ensures.usable; place = c.bits.ensures.place; ones = c.bits.ensures.ones; lowest = c.bits.ensures.lowest } in
    let are_writable : AreWritable = writable (λ iksn. c.serials.ensures.ten (record { iksn = iksn; counter = 0 }))
    (λ iksn is_iksn. c.serials.ensures.found (record { iksn = iksn; counter = 0 }) (record { iksn_is = is_iksn; counter_fits = omega arith })) laws in
    (c.read_parts.ensures.is_image, λ is_image. c.read_parts.ensures.found.1 (parts_of_image c.args.image.now are_writable is_image))
