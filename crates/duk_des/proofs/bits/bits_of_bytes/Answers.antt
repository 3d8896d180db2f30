use Rattle.std.proofs.Common.{refl, sym, ap, ◌∙◌}
use Rattle.duk_des.specs.Bits.{bits_of_bytes}
use Rattle.duk_des.proofs.SideBySide.{appended}
use Rattle.duk_des.proofs.LiteralLists.{is_spelled}
use Rattle.duk_des.proofs.bits.bits_of_bytes.Goals as goal

pub returns : goal.returns
returns c =
    appended 8 c.bits_of_byte-first.ensures (appended 8 c.bits_of_byte-second.ensures (appended 8 c.bits_of_byte-third.ensures (appended 8 c.bits_of_byte-fourth.ensures
    (appended 8 c.bits_of_byte-fifth.ensures (appended 8 c.bits_of_byte-sixth.ensures (appended 8 c.bits_of_byte-seventh.ensures (appended 8 c.bits_of_byte-eighth.ensures refl)))))))
    ∙ ap bits_of_bytes (sym (is_spelled 0 8 c.args.bytes.now c.told-bytes))
