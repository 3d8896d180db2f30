use Rattle.std.proofs.Common.{◌≡◌, ℕ, ap, refl, replicate, ◌∙◌, arith}
use Rattle.duk_tree.specs.Serial.{Serial, serial_of_bytes}
use Rattle.duk_regs.proofs.past.Past.none.Goals as goal

zero_iksn : (serial_of_bytes (replicate 10 0)).iksn ≡ 0
unfolding serial_of_bytes
zero_iksn = refl

pub invariant_of-result : goal.invariant_of-result
invariant_of-result c =
    let zero : c.iksn.result ≡ 0 = c.iksn.ensures.value ∙ ap (λ (serial : Serial). serial.iksn) c.from_bytes.ensures.value ∙ zero_iksn in
    record { fits = omega arith; used = refl; padded = ap (λ (n : ℕ). replicate 8 n) zero }
