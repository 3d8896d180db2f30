-- Decimal digits: their values, and the ASCII text that writes them (this project's own).
use Rattle.std.specs.Prelude.{ℕ, ◌+◌, ◌-◌, List, map}

-- the values of ASCII digits
abbrev pub values : List ℕ → List ℕ
values text = map (λ digit. digit - 48) text

-- the ASCII digits with these values
abbrev pub ascii_of : List ℕ → List ℕ
ascii_of numbers = map (λ number. 48 + number) numbers
