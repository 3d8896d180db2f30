-- PIN blocks of ISO 9564-1 format 0: the fields as lists of 16 nibbles, from the left.
use Rattle.std.specs.Prelude.{◌≡◌, ℕ, ◌-◌, Bool, ◌&&◌, ◌==◌, nat_lt, nat_le, if◌then◌else◌, List, [], ◌∷◌, ◌++◌, length, take, drop, replicate, Option, Some, None}
use Rattle.std.specs.List.{list_all}
use Rattle.duk_pin.specs.Digits.{ascii_of, values}
use Rattle.duk_pin.specs.Nibbles.{nibbles, bytes_of_nibbles, xor_nibbles}
use Rattle.duk_pin.specs.Pin.{IsPin}
use Rattle.duk_pin.specs.Pan.{IsPan}

-- the PIN field of a PIN: the control field 0, the length, the digits, and the fill digit F up to
-- 16 nibbles
unfoldable pub pin_field : List ℕ → List ℕ
pin_field pin = 0 ∷ length pin ∷ values pin ++ replicate (14 - length pin) 0xF

-- the digits of a PAN without the check digit, which is its last
abbrev pub without_check_digit : List ℕ → List ℕ
without_check_digit pan = take (length pan - 1) pan

-- the 12 rightmost of those, or all of them where there are fewer
abbrev pub account_digits : List ℕ → List ℕ
account_digits pan = let digits = without_check_digit pan in drop (length digits - 12) digits

-- the account number field of a PAN: 0000, and those digits with zeros on their left up to 12
unfoldable pub account_field : List ℕ → List ℕ
account_field pan =
    let account = account_digits pan in
    replicate 4 0 ++ (replicate (12 - length account) 0 ++ values account)

-- the triples of a PIN, a PAN and their block: each nibble of the block is the exclusive or of the
-- nibbles of the two fields
pub record IsPinBlock (pin pan block : List ℕ) : Type 0 where
  pub is_pin : IsPin pin
  pub is_pan : IsPan pan
  pub xor : nibbles block ≡ xor_nibbles (pin_field pin) (account_field pan)

-- the bytes of that block
unfoldable pub pin_block : List ℕ → List ℕ → List ℕ
pin_block pin pan = bytes_of_nibbles (xor_nibbles (pin_field pin) (account_field pan))

-- the nibbles of a PIN field after the first two: as many decimal digits as the length says, and F
-- up to the end
abbrev pub are_digits_and_fill : ℕ → List ℕ → Bool
are_digits_and_fill count nibbles =
    list_all (λ digit. nat_lt digit 10) (take count nibbles)
    && list_all (λ fill. fill == 0xF) (drop count nibbles)

-- nibbles begin as a PIN field does: with 0 and a length from 4 to 12
abbrev pub is_pin_start : ℕ → ℕ → Bool
is_pin_start control count = (control == 0) && (nat_le 4 count && nat_le count 12)

-- the PIN in a PIN field: the digits, as many as the length says; there is none in other nibbles
abbrev pub pin_in_field : List ℕ → Option (List ℕ)
pin_in_field [] = None
pin_in_field (control ∷ []) = None
pin_in_field (control ∷ count ∷ nibbles) =
    if is_pin_start control count && are_digits_and_fill count nibbles
    then Some (ascii_of (take count nibbles))
    else None

-- the PIN in a block under a PAN, if it is the block of one
abbrev pub pin_in_block : List ℕ → List ℕ → Option (List ℕ)
pin_in_block pan block = pin_in_field (xor_nibbles (nibbles block) (account_field pan))
