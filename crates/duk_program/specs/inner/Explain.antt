-- What only private functions say of explanations: this project's own.
use Rattle.std.specs.Prelude.{◌==◌, ◌&&◌, ◌||◌, ℕ, Bool, List, length, nat_le}
use Rattle.std.specs.Char.{is_ascii_digit, is_ascii_hexdigit}
use Rattle.std.specs.List.{list_all}

-- whether a key of 8, 16 or 24 bytes has so many digits
abbrev pub is_length_of_key : ℕ → Bool
is_length_of_key count = count == 16 || count == 32 || count == 48

-- whether a PIN or a PAN has so many
abbrev pub is_length_of_digits : ℕ → Bool
is_length_of_digits count = nat_le 4 count && nat_le count 19

-- whether a text may be such a secret, written in the place of a path
abbrev pub may_be_secret : List ℕ → Bool
may_be_secret text = (is_length_of_key (length text) && list_all is_ascii_hexdigit text)
    || (is_length_of_digits (length text) && list_all is_ascii_digit text)
