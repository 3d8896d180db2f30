-- Lists of bits, and the bytes that they spell. As in NIST SP 800-67 the bits of a block are
-- numbered from 1, from the most significant bit of its first byte on.
use Rattle.std.specs.Prelude.{ℕ, zero, suc, ◌+◌, ◌-◌, ◌*◌, ◌/◌, ◌%◌, ◌^◌, ◌==◌, Bool, true, false, List, [], ◌∷◌, ◌++◌, length, map, take, drop, slice_index_or}
use Rattle.std.specs.Bool.{xor}

-- the bits of two lists of one length, xored
abbrev pub xor_bits : List Bool → List Bool → List Bool
xor_bits [] bs = []
xor_bits (a ∷ rest) [] = []
xor_bits (a ∷ rest) (b ∷ bs) = xor a b ∷ xor_bits rest bs

-- the bit with this number
abbrev pub bit : List Bool → ℕ → Bool
bit bits place = slice_index_or bits (place - 1) false

-- the bits with the numbers of a table, in its order: entry i is the number of the input bit that
-- becomes output bit i
abbrev pub permute : List ℕ → List Bool → List Bool
permute table bits = map (bit bits) table

-- the lowest `count` bits of a number
abbrev pub bits_of : ℕ → ℕ → List Bool
bits_of zero number = []
bits_of (suc count) number = (number / 2 ^ count % 2 == 1) ∷ bits_of count number

-- the bits of each byte in turn
abbrev pub bits_of_bytes : List ℕ → List Bool
bits_of_bytes [] = []
bits_of_bytes (byte ∷ bytes) = bits_of 8 byte ++ bits_of_bytes bytes

-- a bit as a number
abbrev pub digit : Bool → ℕ
digit false = 0
digit true = 1

-- the number that the bits spell
abbrev pub number_of : List Bool → ℕ
number_of [] = 0
number_of (b ∷ bits) = digit b * 2 ^ length bits + number_of bits

-- the bytes that the first `8 * count` bits spell
abbrev pub bytes_of_bits : ℕ → List Bool → List ℕ
bytes_of_bits zero bits = []
bytes_of_bits (suc count) bits = number_of (take 8 bits) ∷ bytes_of_bits count (drop 8 bits)
