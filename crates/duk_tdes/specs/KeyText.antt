-- Keys of TDES written in hexadecimal (this project's own).
use Rattle.std.specs.Prelude.{ℕ, List, Option}
use Rattle.std.specs.Option.{option_map, option_or}
use Rattle.std.specs.Result.{result_ok}
use Rattle.hex.specs.Hex.{decode_sized}
use Rattle.duk_tdes.specs.declared.key.KeyBytes.{KeyBytes}
use Rattle.duk_tdes.specs.declared.key.KeyBytes.TheVariants.{Double, Triple}

-- the double-length key that a text of 32 hexadecimal digits, of either case, writes
abbrev pub double_key_of_text : List ℕ → Option (List ℕ)
double_key_of_text text = result_ok (decode_sized text 16)

-- the triple-length key that a text of 48 writes
abbrev pub triple_key_of_text : List ℕ → Option (List ℕ)
triple_key_of_text text = result_ok (decode_sized text 24)

-- the key that a text of 32 or 48 writes
abbrev pub tdes_key_of_text : List ℕ → Option KeyBytes
tdes_key_of_text text =
    option_or (option_map Double (double_key_of_text text))
    (option_map Triple (triple_key_of_text text))
