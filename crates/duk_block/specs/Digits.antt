-- Numbers as decimal digits in ASCII, most significant first (ANSI X9.143, key block header).
use Rattle.std.specs.Prelude.{ℕ, ◌+◌, ◌/◌, ◌%◌, List, [], ◌∷◌}

-- the character of a digit
abbrev pub digit_character : ℕ → ℕ
digit_character value = 0x30 + value

-- a number below 10000 as four decimal digits
abbrev pub four_digits : ℕ → List ℕ
four_digits number =
    digit_character (number / 1000)
    ∷ digit_character (number / 100 % 10)
    ∷ digit_character (number / 10 % 10)
    ∷ digit_character (number % 10)
    ∷ []

-- a number below 100 as two decimal digits
abbrev pub two_digits : ℕ → List ℕ
two_digits number = digit_character (number / 10) ∷ digit_character (number % 10) ∷ []
