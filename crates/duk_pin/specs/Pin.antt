-- Personal identification numbers, each as the ASCII digits that write it (ISO 9564-1).
use Rattle.std.specs.Prelude.{ℕ, ◌≤◌, List, length, All}
use Rattle.std.specs.Char.{IsAsciiDigit}

-- a text as long as a PIN may be: 4 to 12
pub record HasPinLength (text : List ℕ) : Type 0 where
  pub at_least : 4 ≤ length text
  pub at_most : length text ≤ 12

-- a PIN: 4 to 12 decimal digits
pub record IsPin (text : List ℕ) : Type 0 where
  pub length : HasPinLength text
  pub digits : All IsAsciiDigit text
