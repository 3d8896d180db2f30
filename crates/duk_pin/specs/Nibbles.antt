-- Lists of nibbles, the halves of bytes, the left half of each byte first (this project's own).
use Rattle.std.specs.Prelude.{ℕ, ◌+◌, ◌*◌, ◌/◌, ◌%◌, List, [], ◌∷◌, bit_xor}

-- the two nibbles of each byte
abbrev pub nibbles : List ℕ → List ℕ
nibbles [] = []
nibbles (byte ∷ bytes) = byte / 16 ∷ byte % 16 ∷ nibbles bytes

-- the bytes with these nibbles, of which there are two for each
abbrev pub bytes_of_nibbles : List ℕ → List ℕ
bytes_of_nibbles [] = []
bytes_of_nibbles (left ∷ []) = []
bytes_of_nibbles (left ∷ right ∷ rest) = (16 * left + right) ∷ bytes_of_nibbles rest

-- two lists of nibbles of one length, xored
abbrev pub xor_nibbles : List ℕ → List ℕ → List ℕ
xor_nibbles [] right = []
xor_nibbles (a ∷ left) [] = []
xor_nibbles (a ∷ left) (b ∷ right) = bit_xor a b ∷ xor_nibbles left right
