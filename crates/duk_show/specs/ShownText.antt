-- How a text of any bytes is shown on a line of its own (this project's own).
use Rattle.std.specs.Prelude.{◌==◌, ◌&&◌, ℕ, Bool, List, [], ◌∷◌, ◌++◌, codes, flat_map, nat_le, if◌then◌else◌}
use Rattle.hex.specs.Hex.{encode_upper}

-- whether a byte is a printable character of ASCII
abbrev pub is_printable : ℕ → Bool
is_printable byte = nat_le 32 byte && nat_le byte 126

-- a byte as it is shown: the backslash twice, a printable character as it stands, and any other
-- byte as a backslash, an x and its two digits
abbrev pub shown_byte : ℕ → List ℕ
shown_byte byte =
    if byte == 92 then codes "\\\\"
    else if is_printable byte then byte ∷ []
    else codes "\\x" ++ encode_upper (byte ∷ [])

-- a text as it is shown
abbrev pub shown_text : List ℕ → List ℕ
shown_text text = flat_map shown_byte text
