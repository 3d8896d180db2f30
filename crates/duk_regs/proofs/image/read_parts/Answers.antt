use Rattle.std.proofs.Common.{All, refl, sym, ap, subst, ◌∙◌, arith, inl, inr}
use Rattle.duk_tree.specs.Serial.{IsIksn}
use Rattle.duk_regs.specs.Registers.{IsRegisterSet}
use Rattle.duk_regs.specs.Image.{past_bytes, past_in, present_bytes, set_in}
use Rattle.duk_regs.proofs.ImageWrittenAndRead.{is_version_2, length_of_version_1, length_of_version_2, parts_read, set_of_version_1, set_of_version_2, sixteen_read, version_1_again, version_2_again}
use Rattle.duk_regs.proofs.PastWrittenAndRead.{counted_past, no_past}
use Rattle.duk_regs.proofs.image.read_parts.Goals as goal

pub returns-then-image-eq-VERSION_1-clause-parts : goal.returns-then-image-eq-VERSION_1-clause-parts
returns-then-image-eq-VERSION_1-clause-parts c =
    let image = c.args.image.now in
    let present = c.in_ok-iksn.ensures in
    parts_read image c.in_ok-iksn.iksn c.in_ok-iksn.counter c.in_ok-iksn.registers c.none.result present.iksn present.counter present.registers (c.none.ensures ∙ sym (no_past image c.if-image-eq-VERSION_1.true))

pub returns-then-image-eq-VERSION_1-clause-set : goal.returns-then-image-eq-VERSION_1-clause-set
returns-then-image-eq-VERSION_1-clause-set c =
    let image = c.args.image.now in
    let present = c.in_ok-iksn.ensures in
    let same = parts_read image c.in_ok-iksn.iksn c.in_ok-iksn.counter c.in_ok-iksn.registers c.none.result present.iksn present.counter present.registers (c.none.ensures ∙ sym (no_past image c.if-image-eq-VERSION_1.true)) in
    subst IsRegisterSet (sym same) (set_of_version_1 image (present.found.0 refl) (subst IsIksn present.iksn present.is_iksn) c.if-image-eq-VERSION_1.true)

pub returns-then-image-eq-VERSION_1-clause-version_1 : goal.returns-then-image-eq-VERSION_1-clause-version_1
returns-then-image-eq-VERSION_1-clause-version_1 c = λ version.
    let image = c.args.image.now in
    let is_350 = length_of_version_1 image (c.if-not-has_version.ensures.0 refl) version in
    version_1_again image (present_bytes (set_in image)) is_350 version c.in_ok-iksn.ensures.written

pub returns-then-image-eq-VERSION_1-clause-no_past : goal.returns-then-image-eq-VERSION_1-clause-no_past
returns-then-image-eq-VERSION_1-clause-no_past c = λ version. no_past c.args.image.now version

pub returns-clause-set : goal.returns-clause-set
returns-clause-set c =
    let image = c.args.image.now in
    let present = c.in_ok-iksn.ensures in
    let past = c.in_ok-past.ensures in
    let version = is_version_2 image (c.if-not-has_version.ensures.0 refl) c.if-image-eq-VERSION_1.false in
    let same = parts_read image c.in_ok-iksn.iksn c.in_ok-iksn.counter c.in_ok-iksn.registers c.in_ok-past.past present.iksn present.counter present.registers (past.past ∙ sym (counted_past image version)) in
    subst IsRegisterSet (sym same) (set_of_version_2 image (present.found.0 refl) (subst IsIksn present.iksn present.is_iksn) (past.found.0 refl) (subst (All IsIksn) past.past past.iksns) version)

pub returns-clause-version_2 : goal.returns-clause-version_2
returns-clause-version_2 c = λ version.
    let image = c.args.image.now in
    let is_431 = length_of_version_2 image (c.if-not-has_version.ensures.0 refl) c.if-image-eq-VERSION_1.false in
    version_2_again image (present_bytes (set_in image)) (past_bytes (past_in image)) is_431 version c.in_ok-iksn.ensures.written (ap past_bytes (counted_past image version ∙ sym c.in_ok-past.ensures.past) ∙ c.in_ok-past.ensures.written)

pub returns-then-image-eq-VERSION_1-clause-is_image : goal.returns-then-image-eq-VERSION_1-clause-is_image
returns-then-image-eq-VERSION_1-clause-is_image c = λ some.
    let image = c.args.image.now in
    let present = c.in_ok-iksn.ensures in
    let version = c.if-image-eq-VERSION_1.true in
    let is_350 = length_of_version_1 image (c.if-not-has_version.ensures.0 refl) version in
    inl (record {
      set = set_in image;
      set_is = set_of_version_1 image (present.found.0 refl) (subst IsIksn present.iksn present.is_iksn) version;
      are_16 = sixteen_read image (omega arith);
      none_past = no_past image version;
      bytes_are = sym (version_1_again image (present_bytes (set_in image)) is_350 version present.written);
    })

pub returns-clause-is_image : goal.returns-clause-is_image
returns-clause-is_image c = λ some.
    let image = c.args.image.now in
    let present = c.in_ok-iksn.ensures in
    let past = c.in_ok-past.ensures in
    let known = c.if-not-has_version.ensures.0 refl in
    let version = is_version_2 image known c.if-image-eq-VERSION_1.false in
    let is_431 = length_of_version_2 image known c.if-image-eq-VERSION_1.false in
    inr (record {
      set = set_in image;
      set_is = set_of_version_2 image (present.found.0 refl) (subst IsIksn present.iksn present.is_iksn) (past.found.0 refl) (subst (All IsIksn) past.past past.iksns) version;
      are_16 = sixteen_read image (omega arith);
      bytes_are = sym (version_2_again image (present_bytes (set_in image)) (past_bytes (past_in image)) is_431 version present.written (ap past_bytes (counted_past image version ∙ sym past.past) ∙ past.written));
    })
