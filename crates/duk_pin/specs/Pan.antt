-- Primary account numbers, each as the ASCII digits that write it (ISO/IEC 7812-1). That they have 12
-- digits at least, and that the check digit may be any, is this project's own.
use Rattle.std.specs.Prelude.{ℕ, ◌≤◌, List, length, All}
use Rattle.std.specs.Char.{IsAsciiDigit}

-- a text as long as a PAN may be here: 12 to 19
pub record HasPanLength (text : List ℕ) : Type 0 where
  pub at_least : 12 ≤ length text
  pub at_most : length text ≤ 19

-- a PAN: 12 to 19 decimal digits, the last of them the check digit
pub record IsPan (text : List ℕ) : Type 0 where
  pub length : HasPanLength text
  pub digits : All IsAsciiDigit text
