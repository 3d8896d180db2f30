-- Text in the front of an array that is longer (this project's own).
use Rattle.std.specs.Prelude.{◌≡◌, ℕ, ◌-◌, ◌≤◌, List, ◌++◌, length, take, replicate, All}
use Rattle.std.specs.Char.{IsAsciiDigit}
use Rattle.duk_pin.specs.declared.digits.Digits.TheInside.{Inside}
use Rattle.duk_pin.specs.declared.digits.TheConstants.{MAX_DIGITS}

-- the digits in use
abbrev pub text_of : Inside → List ℕ
text_of d = take d.len d.ascii

-- the digits in use fill the front of the array, and zeros the rest
pub record IsPadded (d : Inside) : Type 0 where
  pub fits : d.len ≤ MAX_DIGITS
  pub used : length (text_of d) ≡ d.len
  pub padded : d.ascii ≡ text_of d ++ replicate (MAX_DIGITS - d.len) 0
  pub digits : All IsAsciiDigit (text_of d)
