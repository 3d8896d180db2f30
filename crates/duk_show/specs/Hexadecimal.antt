-- Where a text stops to be hexadecimal (this project's own).
use Rattle.std.specs.Prelude.{◌≡◌, ◌<◌, ◌≤◌, ℕ, List, false, length, take, slice_index}
use Rattle.std.specs.List.{AllPass}
use Rattle.hex.specs.Hex.{is_hex_digit}

-- the place of the first character that is no hexadecimal digit, or the length of the text where
-- there is none
pub record IsNoDigitAt (text : List ℕ) (place : ℕ) : Type 0 where
  pub within : place ≤ length text
  pub digits_before : AllPass is_hex_digit (take place text)
  pub no_digit : place < length text → is_hex_digit (slice_index text place) ≡ false
