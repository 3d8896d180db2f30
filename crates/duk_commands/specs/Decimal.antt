-- Numbers that arguments write in decimal (this project's own).
use Rattle.std.specs.Prelude.{◌≡◌, ◌<◌, ◌≤◌, ◌+◌, ◌*◌, ◌-◌, ℕ, List, length, fold, All}
use Rattle.std.specs.Char.{IsAsciiDigit}

-- the number that decimal digits write
abbrev pub number_of_digits : List ℕ → ℕ
number_of_digits text = fold (λ number digit. 10 * number + (digit - 48)) 0 text

-- a text of one or more decimal digits with this value, which is at most `most`
pub record IsDecimal (most : ℕ) (text : List ℕ) (number : ℕ) : Type 0 where
  pub some : 0 < length text
  pub digits : All IsAsciiDigit text
  pub value : number_of_digits text ≡ number
  pub fits : number ≤ most
