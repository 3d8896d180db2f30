-- What a table of TOML holds at a key, as a configuration reads it: this project's own.
use Rattle.std.specs.Prelude.{ℕ, ℤ, pos, negsuc, ◌&&◌, nat_le, List, Option, Some, None, if◌then◌else◌}
use Rattle.std.specs.Option.{option_and_then}
use Rattle.std.specs.Result.{result_ok}
use Rattle.hex.specs.Hex.{decode_sized}
use Rattle.duk_tdes.specs.KeyText.{double_key_of_text, tdes_key_of_text}
use Rattle.duk_tdes.specs.declared.key.KeyBytes.{KeyBytes}
use Rattle.toml.specs.Data.{Members, as_integer, as_str, get_member}

-- the text at a key
abbrev pub text_at : List ℕ → Members → Option (List ℕ)
text_at name members = option_and_then as_str (get_member name members)

-- the five bytes that a text of ten hexadecimal digits, of either case, writes
abbrev pub prefix_of_text : List ℕ → Option (List ℕ)
prefix_of_text text = result_ok (decode_sized text 5)

-- the prefix that the text at a key writes
abbrev pub prefix_at : List ℕ → Members → Option (List ℕ)
prefix_at name members = option_and_then prefix_of_text (text_at name members)

-- the double-length key that the text at a key writes
abbrev pub double_key_at : List ℕ → Members → Option (List ℕ)
double_key_at name members = option_and_then double_key_of_text (text_at name members)

-- the key of either length that the text at a key writes
abbrev pub tdes_key_at : List ℕ → Members → Option KeyBytes
tdes_key_at name members = option_and_then tdes_key_of_text (text_at name members)

-- the number, if it lies within these bounds
abbrev pub number_within : ℕ → ℕ → ℤ → Option ℕ
number_within least most (pos number) =
    if nat_le least number && nat_le number most then Some number else None
number_within least most (negsuc _) = None

-- the whole number at a key, if it lies within these bounds
abbrev pub number_at : ℕ → ℕ → List ℕ → Members → Option ℕ
number_at least most name members =
    option_and_then (number_within least most)
    (option_and_then as_integer (get_member name members))
