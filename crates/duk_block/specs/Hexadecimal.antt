-- Bytes in hexadecimal, as a key block carries its ciphertext and its MAC (ANSI X9.143).
use Rattle.std.specs.Prelude.{◌≡◌, ℕ, List, Ok}
use Rattle.hex.specs.Hex.{decode_of}

-- the text is these bytes, two digits each, the letters in either case
abbrev pub IsHexadecimal : List ℕ → List ℕ → Type 0
IsHexadecimal text bytes = decode_of text ≡ Ok bytes
