-- What only private functions and proofs say beside `Words.antt`: this project's own.
use Rattle.std.specs.Prelude.{ℕ, ◌+◌, ◌-◌, Bool, false, cond, List, [], ◌∷◌, ◌++◌, take, drop, replicate}
use Rattle.duk_des.specs.Bits.{bits_of}
use Rattle.duk_des.specs.Tables.{left_key_places, right_key_places}
use Rattle.duk_des.specs.declared.words.round_keys.RoundKey.{RoundKey}

-- the bits of a word of 64 bits
unfoldable pub long_bits : ℕ → List Bool
long_bits word = bits_of 64 word

-- the bits of half of a key schedule, C or D
unfoldable pub half_bits : ℕ → List Bool
half_bits half = bits_of 28 half

-- six bits from the lower part of a byte of a word, where `place` bits stand before the byte
abbrev pub group_at : ℕ → List Bool → List Bool
group_at place word = take 6 (drop (2 + place) word)

-- the groups of two words in turn
abbrev pub groups : List Bool → List Bool → List Bool
groups odd even =
    group_at 0 odd ++ (group_at 0 even ++ (group_at 8 odd ++ (group_at 8 even
    ++ (group_at 16 odd ++ (group_at 16 even ++ (group_at 24 odd ++ group_at 24 even))))))

-- the 48 bits of a round key
unfoldable pub key_bits : RoundKey → List Bool
key_bits key = groups (bits_of 32 key.odd) (bits_of 32 key.even)

-- for each place the bit of the second list where the mask has 1, and that of the first where it
-- has 0
abbrev pub chosen_by : List Bool → List Bool → List Bool → List Bool
chosen_by [] firsts seconds = []
chosen_by (m ∷ mask) [] seconds = []
chosen_by (m ∷ mask) (a ∷ firsts) [] = []
chosen_by (m ∷ mask) (a ∷ firsts) (b ∷ seconds) = cond m b a ∷ chosen_by mask firsts seconds

-- two words of 32 bits once each bit of the second under the mask is exchanged with the bit of the
-- first that stands `count` places before it
unfoldable pub second_exchanged : ℕ → List Bool → List Bool → List Bool → List Bool
second_exchanged count mask first second =
    chosen_by mask second (replicate count false ++ take (32 - count) first)

unfoldable pub first_exchanged : ℕ → List Bool → List Bool → List Bool → List Bool
first_exchanged count mask first second =
    chosen_by (drop count mask) (take (32 - count) first) (drop count second)
    ++ drop (32 - count) first

-- permuted choice 1 in a word of 64 bits: C and D, each after four bits of no place in the key
abbrev pub halves_places : List ℕ
halves_places = replicate 4 65 ++ (left_key_places ++ (replicate 4 65 ++ right_key_places))

-- permuted choice 2 in a word of 64 bits: a group of six bits in each byte, after two bits of no
-- place in C and D. First come the groups for the boxes 1, 3, 5 and 7, and then those for the boxes
-- 2, 4, 6 and 8
abbrev pub groups_places : List ℕ
groups_places =
    57 ∷ 57 ∷ 14 ∷ 17 ∷ 11 ∷ 24 ∷ 1 ∷ 5 ∷
    57 ∷ 57 ∷ 23 ∷ 19 ∷ 12 ∷ 4 ∷ 26 ∷ 8 ∷
    57 ∷ 57 ∷ 41 ∷ 52 ∷ 31 ∷ 37 ∷ 47 ∷ 55 ∷
    57 ∷ 57 ∷ 44 ∷ 49 ∷ 39 ∷ 56 ∷ 34 ∷ 53 ∷
    57 ∷ 57 ∷ 3 ∷ 28 ∷ 15 ∷ 6 ∷ 21 ∷ 10 ∷
    57 ∷ 57 ∷ 16 ∷ 7 ∷ 27 ∷ 20 ∷ 13 ∷ 2 ∷
    57 ∷ 57 ∷ 30 ∷ 40 ∷ 51 ∷ 45 ∷ 33 ∷ 48 ∷
    57 ∷ 57 ∷ 46 ∷ 42 ∷ 50 ∷ 36 ∷ 29 ∷ 32 ∷ []
