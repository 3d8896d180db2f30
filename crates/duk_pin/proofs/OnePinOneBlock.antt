-- PIN blocks: one PIN for each under a PAN, and one block for each PIN and PAN.
use Rattle.std.proofs.Common.{◌≡◌, ℕ, suc, ◌+◌, ◌*◌, ◌/◌, ◌%◌, ◌^◌, ◌<◌, List, [], ◌∷◌, length, zero, All, refl, sym, ap, ◌∙◌, arith}
use Rattle.std.proofs.lemmas.List.Elements.{All-nil, All-cons, All-head, All-tail, All-same}
use Rattle.duk_pin.specs.Nibbles.{nibbles, bytes_of_nibbles, xor_nibbles}
use Rattle.duk_pin.specs.Pin.{IsPin}
use Rattle.duk_pin.specs.Pan.{IsPan}
use Rattle.duk_pin.specs.PinBlock.{IsPinBlock, pin_field, account_field, pin_block}
use Rattle.duk_pin.proofs.XorOfNibbles.{xor_twice, xor_is_field, length-nibbles}
use Rattle.duk_pin.proofs.FieldsWrittenAndRead.{pin_field_is_field, account_field_is_field, one_pin_of_field}

-- the exclusive or of a block and the account field is the PIN field
pub field_of_block : (pin pan block : List ℕ) → IsPinBlock pin pan block → xor_nibbles (nibbles block) (account_field pan) ≡ pin_field pin
field_of_block pin pan block is =
    ap (λ l. xor_nibbles l (account_field pan)) is.xor
    ∙ xor_twice (pin_field pin) (account_field pan) ((pin_field_is_field pin is.is_pin).sixteen ∙ sym (account_field_is_field pan is.is_pan).sixteen)

-- under one PAN, a block is the block of at most one PIN
pub one_pin : (pin other pan block : List ℕ) → IsPinBlock pin pan block → IsPinBlock other pan block → pin ≡ other
one_pin pin other pan block is is_other =
    one_pin_of_field pin other is.is_pin is_other.is_pin (sym (field_of_block pin pan block is) ∙ field_of_block other pan block is_other)

bytes_of-nibbles : (bytes : List ℕ) → bytes_of_nibbles (nibbles bytes) ≡ bytes
bytes_of-nibbles [] = refl
bytes_of-nibbles (byte ∷ bytes) =
    let head : 16 * (byte / 16) + byte % 16 ≡ byte = omega arith in
    ap (λ first. first ∷ bytes_of_nibbles (nibbles bytes)) head ∙ ap (λ rest. byte ∷ rest) (bytes_of-nibbles bytes)

nibbles-bytes_of : (count : ℕ) (field : List ℕ) → length field ≡ 2 * count → All (λ nibble. nibble < 16) field → nibbles (bytes_of_nibbles field) ≡ field
nibbles-bytes_of zero [] long fit = refl
nibbles-bytes_of zero (left ∷ field) long fit = absurd (omega arith)
nibbles-bytes_of (suc count) [] long fit = absurd (omega arith)
nibbles-bytes_of (suc count) (left ∷ []) long fit = absurd (omega arith)
nibbles-bytes_of (suc count) (left ∷ right ∷ field) long fit =
    let rest_fit = All-tail (λ nibble. nibble < 16) left (right ∷ field) fit in
    let right_fits : right < 16 = All-head (λ nibble. nibble < 16) right field rest_fit in
    let is_left : (16 * left + right) / 16 ≡ left = omega arith in
    let is_right : (16 * left + right) % 16 ≡ right = omega arith in
    ap (λ n. n ∷ (16 * left + right) % 16 ∷ nibbles (bytes_of_nibbles field)) is_left
    ∙ ap (λ n. left ∷ n ∷ nibbles (bytes_of_nibbles field)) is_right
    ∙ ap (λ rest. left ∷ right ∷ rest) (nibbles-bytes_of count field (omega arith) (All-tail (λ nibble. nibble < 16) right field rest_fit))

-- the bytes are the block of the PIN and the PAN
pub pin_block_is_block : (pin pan : List ℕ) → IsPin pin → IsPan pan → IsPinBlock pin pan (pin_block pin pan)
unfolding pin_block
pin_block_is_block pin pan is_pin is_pan =
    let fields = xor_is_field (pin_field pin) (account_field pan) (pin_field_is_field pin is_pin) (account_field_is_field pan is_pan) in
    record {
      is_pin = is_pin;
      is_pan = is_pan;
      xor = nibbles-bytes_of 8 (xor_nibbles (pin_field pin) (account_field pan)) fields.sixteen fields.nibbles_fit;
    }

-- and the only ones
pub no_other_block : (pin pan block : List ℕ) → IsPinBlock pin pan block → block ≡ pin_block pin pan
unfolding pin_block
no_other_block pin pan block is = sym (bytes_of-nibbles block) ∙ ap bytes_of_nibbles is.xor

bytes_fit : (bytes : List ℕ) → All (λ nibble. nibble < 16) (nibbles bytes) → All (λ byte. byte < 2 ^ 8) bytes
bytes_fit [] fit = All-nil (λ byte. byte < 2 ^ 8)
bytes_fit (byte ∷ bytes) fit =
    let left_fits : byte / 16 < 16 = All-head (λ nibble. nibble < 16) (byte / 16) (byte % 16 ∷ nibbles bytes) fit in
    let rest_fit = All-tail (λ nibble. nibble < 16) (byte % 16) (nibbles bytes) (All-tail (λ nibble. nibble < 16) (byte / 16) (byte % 16 ∷ nibbles bytes) fit) in
    All-cons (λ byte. byte < 2 ^ 8) byte bytes (omega arith) (bytes_fit bytes rest_fit)

-- a block is 8 bytes
pub block_is_eight_bytes : (pin pan block : List ℕ) → IsPinBlock pin pan block → (length block ≡ 8) × All (λ byte. byte < 2 ^ 8) block
block_is_eight_bytes pin pan block is =
    let fields = xor_is_field (pin_field pin) (account_field pan) (pin_field_is_field pin is.is_pin) (account_field_is_field pan is.is_pan) in
    (omega (arith, length-nibbles block, ap length is.xor, fields.sixteen), bytes_fit block (All-same (λ nibble. nibble < 16) _ _ is.xor fields.nibbles_fit))
