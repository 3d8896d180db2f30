-- Lists of bytes. The words are this project's own.
use Rattle.std.specs.Prelude.{ℕ, List, [], ◌∷◌, bit_xor}

-- each byte xored with the mask's byte at its place
abbrev pub xor_bytes : List ℕ → List ℕ → List ℕ
xor_bytes [] mask = []
xor_bytes bytes [] = bytes
xor_bytes (byte ∷ bytes) (mask ∷ masks) = bit_xor byte mask ∷ xor_bytes bytes masks
