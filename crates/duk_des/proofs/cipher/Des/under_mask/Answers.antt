use Rattle.std.proofs.Common.{◌≡◌, length, sym, ap, ◌∙◌, arith}
use Rattle.duk_des.specs.Bits.{bits_of_bytes}
use Rattle.duk_des.specs.Des.{round_keys, xor_keys}
use Rattle.duk_des.proofs.SideBySide.{both}
use Rattle.duk_des.proofs.LinearSchedule.{round_keys-xor_bytes}
use Rattle.duk_des.proofs.cipher.Des.under_mask.Goals as goal

pub invariant_of-result : goal.invariant_of-result
invariant_of-result c =
    let key = c.self.inside.key in
    let mask = c.args.mask.now in
    let long : length key ≡ length mask = omega arith in
    c.xor_keys.ensures
    ∙ both xor_keys c.self.invariant c.round_keys.ensures
    ∙ sym (round_keys-xor_bytes key mask long)
    ∙ ap (λ bytes. round_keys (bits_of_bytes bytes)) (sym c.xor_bytes.ensures)
