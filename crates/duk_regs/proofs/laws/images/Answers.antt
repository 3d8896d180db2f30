use Rattle.std.proofs.Common.{length, ap, ◌∙◌, arith}
use Rattle.duk_regs.proofs.CounterBounds.{BitLaws}
use Rattle.duk_regs.proofs.ImageWrittenAndRead.{AreWritable, IsImage-image_bytes, IsImage-image_bytes_of_version_1, length-image_bytes, length-image_bytes_of_version_1, set_in-image_bytes, set_in-image_bytes_of_version_1, writable}
use Rattle.duk_regs.proofs.laws.images.Goals as goal

pub returns : goal.returns
returns c =
    let laws : BitLaws = record { usable = c.bits.ensures.usable; place = c.bits.ensures.place; ones = c.bits.ensures.ones; lowest = c.bits.ensures.lowest } in
    let are_writable : AreWritable = writable (λ iksn. c.serials.ensures.ten (record { iksn = iksn; counter = 0 }))
    (λ iksn is_iksn. c.serials.ensures.found (record { iksn = iksn; counter = 0 }) (record { iksn_is = is_iksn; counter_fits = omega arith })) laws in
    record {
      length = λ set is_set are_16. length-image_bytes set (are_writable set is_set are_16);
      read = λ set is_set are_16. set_in-image_bytes set (are_writable set is_set are_16);
      is_image = IsImage-image_bytes;
      length_of_version_1 = λ set is_set are_16. length-image_bytes_of_version_1 set (are_writable set is_set are_16);
      read_of_version_1 = λ set is_set are_16. set_in-image_bytes_of_version_1 set (are_writable set is_set are_16);
      is_image_of_version_1 = IsImage-image_bytes_of_version_1;
      length_as_version_2 = λ image is. ap length is.bytes_are ∙ length-image_bytes is.set (are_writable is.set is.set_is is.are_16);
      length_as_version_1 = λ image is. ap length is.bytes_are ∙ length-image_bytes_of_version_1 is.set (are_writable is.set is.set_is is.are_16);
    }
