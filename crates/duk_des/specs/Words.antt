-- What numbers of 32 bits have as bits, the most significant first: this project's own.
use Rattle.std.specs.Prelude.{ℕ, ◌-◌, ◌*◌, Bool, false, List, [], ◌++◌, replicate, slice_index_or}
use Rattle.duk_des.specs.Bits.{permute, bits_of}
use Rattle.duk_des.specs.Des.{substitute}
use Rattle.duk_des.specs.Tables.{output_places, boxes}

-- the bits of a word
unfoldable pub word_bits : ℕ → List Bool
word_bits word = bits_of 32 word

-- the box S1 to S8 with this number
abbrev pub box_at : ℕ → List ℕ
box_at number = slice_index_or boxes (number - 1) []

-- 32 bits with those of a box at its four places, and zeros elsewhere
abbrev pub at_box : ℕ → List Bool → List Bool
at_box number four =
    replicate (4 * (number - 1)) false ++ (four ++ replicate (4 * (8 - number)) false)

-- P of the 32 bits that hold what a box gives of six bits at its four places, and zeros elsewhere
unfoldable pub selected : ℕ → List Bool → List Bool
selected number six = permute output_places (at_box number (substitute (box_at number) six))
