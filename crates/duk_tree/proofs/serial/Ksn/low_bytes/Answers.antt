use Rattle.std.proofs.Common.{◌≡◌, ℕ, zero, suc, ◌+◌, ◌*◌, ◌%◌, ◌^◌, ◌<◌, ◌∷◌, refl, ap, ◌∙◌, arith}
use Rattle.std.specs.Int.{byte_at, bytes_high_first}
use Rattle.duk_tree.specs.Serial.{Serial, serial_bytes, low_bytes}
use Rattle.duk_tree.proofs.serial.Ksn.low_bytes.Goals as goal

-- the lowest eight bytes of a number are those of its lowest 64 bits
low_byte : (i n : ℕ) → i < 8 → byte_at i (n % 2 ^ 64) ≡ byte_at i n
low_byte zero n h = omega arith
low_byte (suc zero) n h = omega arith
low_byte (suc (suc zero)) n h = omega arith
low_byte (suc (suc (suc zero))) n h = omega arith
low_byte (suc (suc (suc (suc zero)))) n h = omega arith
low_byte (suc (suc (suc (suc (suc zero))))) n h = omega arith
low_byte (suc (suc (suc (suc (suc (suc zero)))))) n h = omega arith
low_byte (suc (suc (suc (suc (suc (suc (suc zero))))))) n h = omega arith
low_byte (suc (suc (suc (suc (suc (suc (suc (suc i)))))))) n h = absurd (omega arith)

low_bytes_of : (count n : ℕ) → count < 9 → bytes_high_first count (n % 2 ^ 64) ≡ bytes_high_first count n
low_bytes_of zero n h = refl
low_bytes_of (suc count) n h =
    ap (λ byte. byte ∷ bytes_high_first count (n % 2 ^ 64)) (low_byte count n (omega arith))
    ∙ ap (λ rest. byte_at count n ∷ rest) (low_bytes_of count n (omega arith))

pub returns : goal.returns
unfolding serial_bytes
returns c =
    let serial : Serial = record { iksn = c.self.inside.iksn; counter = c.self.inside.counter } in
    let number = c.iksn.inside.number in
    let is_iksn : number * 2 ^ 21 ≡ serial.iksn = c.iksn.view_is in
    let fits : serial.counter < 2 ^ 21 = c.self.invariant.counter_fits in
    let low : number * 2 ^ 21 % 2 ^ 64 + serial.counter ≡ (serial.iksn + serial.counter) % 2 ^ 64 = omega arith in
    c.to_be_bytes.ensures ∙ ap (bytes_high_first 8) low ∙ low_bytes_of 8 (serial.iksn + serial.counter) (omega arith) ∙ ap low_bytes c.self.view_is
