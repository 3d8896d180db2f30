-- The tables of the permuted choices, each of seven bits.
use Rattle.std.proofs.Common.{◌≡◌, ℕ, zero, suc, ◌+◌, ◌-◌, ◌/◌, ◌%◌, ◌^◌, ◌<◌, Bool, true, List, [], ◌∷◌, ◌++◌, length, map, get_or, refl, sym, ap, ◌∙◌, length-append, arith}
use lib.Bits.{bit_and, bit_xor}
use Rattle.std.proofs.lemmas.Nat.{and_mask}
use Rattle.duk_des.specs.Bits.{permute, bits_of, bits_of_bytes}
use Rattle.duk_des.specs.inner.Words.{long_bits, half_bits, halves_places, groups_places}
use Rattle.duk_des.proofs.WordTables.{combined, combined-append, spanned, looked_up, gathers, gathered}
use Rattle.duk_des.proofs.SideBySide.{both}
use Rattle.duk_des.proofs.LiteralLists.{spelled, is_spelled}
use Rattle.duk_des.proofs.BitsOfWords.{bits_of-split, bits_of-low}

-- a word with the bit at a place of 64, counted from 1, and none at place 0
abbrev place_word : ℕ → ℕ
place_word zero = 0
place_word (suc place) = 2 ^ (63 - place)

abbrev pub words_at : List ℕ → List ℕ
words_at places = map place_word places

-- a word is the sum modulo 2 of words, one for each of as many bits
pub record IsSum (word : ℕ) (words : List ℕ) (bits : List Bool) : Type 0 where
  pub sum_is : word ≡ combined words bits
  pub long : length words ≡ length bits

-- the word in a table at a number of seven bits
pub seven_all : (words : List ℕ) (number : ℕ) → length words ≡ 7 → number < 2 ^ 7 → IsSum (get_or (spanned words) number 0) words (bits_of 7 number)
seven_all words number h below =
    let fits : number < 2 ^ length words = omega (arith, ap (λ n. 2 ^ n) h) in
    record { sum_is = looked_up words number fits ∙ ap (λ n. combined words (bits_of n number)) h; long = h }

-- the word in a table at the lowest seven bits of a number
pub seven_low : (words : List ℕ) (number : ℕ) → length words ≡ 7 → IsSum (get_or (spanned words) (bit_and number 127) 0) words (bits_of 7 number)
seven_low words number h =
    let masked : bit_and number 127 ≡ number % 2 ^ 7 = and_mask number 7 in
    let table = seven_all words (number % 2 ^ 7) h (omega arith) in
    record { sum_is = ap (λ n. get_or (spanned words) n 0) masked ∙ table.sum_is ∙ ap (combined words) (bits_of-low 7 number); long = h }

-- one word more
pub added : {x y : ℕ} {words more : List ℕ} {bits others : List Bool} → IsSum x words bits → IsSum y more others → IsSum (bit_xor x y) (words ++ more) (bits ++ others)
added {x} {y} {words} {more} {bits} {others} h k = record {
  sum_is = both bit_xor h.sum_is k.sum_is ∙ sym (combined-append words more bits others h.long);
  long = length-append words more ∙ both (λ m n. m + n) h.long k.long ∙ sym (length-append bits others);
}

pub gathered_sum : (table : List ℕ) (word : ℕ) (words : List ℕ) (bits : List Bool) → IsSum word words bits → gathers 64 words table ≡ true → long_bits word ≡ permute table bits
unfolding long_bits
gathered_sum table word words bits h tested = ap (bits_of 64) h.sum_is ∙ gathered 64 words table bits tested h.long

-- eight lists, one after another
abbrev pub eight : {X : Type 0} → List X → List X → List X → List X → List X → List X → List X → List X → List X
eight a b c d e f g h = ((((((a ++ b) ++ c) ++ d) ++ e) ++ f) ++ g) ++ h

-- permuted choice 2 by the sevens of C and D
abbrev pub seven1 : List ℕ
seven1 = words_at (7 ∷ 48 ∷ 35 ∷ 14 ∷ 8 ∷ 38 ∷ 44 ∷ [])

abbrev pub seven2 : List ℕ
seven2 = words_at (16 ∷ 0 ∷ 40 ∷ 5 ∷ 13 ∷ 47 ∷ 3 ∷ [])

abbrev pub seven3 : List ℕ
seven3 = words_at (37 ∷ 43 ∷ 4 ∷ 0 ∷ 12 ∷ 46 ∷ 39 ∷ [])

abbrev pub seven4 : List ℕ
seven4 = words_at (0 ∷ 11 ∷ 6 ∷ 0 ∷ 15 ∷ 45 ∷ 36 ∷ [])

abbrev pub seven5 : List ℕ
seven5 = words_at (63 ∷ 51 ∷ 21 ∷ 64 ∷ 55 ∷ 31 ∷ 0 ∷ [])

abbrev pub seven6 : List ℕ
seven6 = words_at (62 ∷ 22 ∷ 0 ∷ 29 ∷ 52 ∷ 19 ∷ 60 ∷ [])

abbrev pub seven7 : List ℕ
seven7 = words_at (0 ∷ 27 ∷ 54 ∷ 59 ∷ 23 ∷ 56 ∷ 28 ∷ [])

abbrev pub seven8 : List ℕ
seven8 = words_at (61 ∷ 53 ∷ 20 ∷ 32 ∷ 0 ∷ 24 ∷ 30 ∷ [])

-- a half in its four sevens
sevens : (half : ℕ) → bits_of 7 (half / 2 ^ 21) ++ (bits_of 7 (half / 2 ^ 14) ++ (bits_of 7 (half / 2 ^ 7) ++ bits_of 7 half)) ≡ bits_of 28 half
sevens half =
    sym (bits_of-split 7 21 28 half refl
    ∙ ap (λ bits. bits_of 7 (half / 2 ^ 21) ++ bits)
    (bits_of-split 7 14 21 half refl ∙ ap (λ bits. bits_of 7 (half / 2 ^ 14) ++ bits) (bits_of-split 7 7 14 half refl)))

pub words_of_sevens : (c d word : ℕ)
    → IsSum word (eight seven1 seven2 seven3 seven4 seven5 seven6 seven7 seven8)
    (eight (bits_of 7 (c / 2 ^ 21)) (bits_of 7 (c / 2 ^ 14)) (bits_of 7 (c / 2 ^ 7)) (bits_of 7 c) (bits_of 7 (d / 2 ^ 21)) (bits_of 7 (d / 2 ^ 14)) (bits_of 7 (d / 2 ^ 7)) (bits_of 7 d))
    → long_bits word ≡ permute groups_places (half_bits c ++ half_bits d)
unfolding half_bits
words_of_sevens c d word h =
    gathered_sum groups_places word _ _ h refl
    ∙ ap (permute groups_places) (both (λ left right. left ++ right) (sevens c) (sevens d))

-- permuted choice 1 by the upper sevens of the bytes
abbrev pub byte1 : List ℕ
byte1 = words_at (12 ∷ 20 ∷ 28 ∷ 64 ∷ 60 ∷ 52 ∷ 44 ∷ [])

abbrev pub byte2 : List ℕ
byte2 = words_at (11 ∷ 19 ∷ 27 ∷ 63 ∷ 59 ∷ 51 ∷ 43 ∷ [])

abbrev pub byte3 : List ℕ
byte3 = words_at (10 ∷ 18 ∷ 26 ∷ 62 ∷ 58 ∷ 50 ∷ 42 ∷ [])

abbrev pub byte4 : List ℕ
byte4 = words_at (9 ∷ 17 ∷ 25 ∷ 61 ∷ 57 ∷ 49 ∷ 41 ∷ [])

abbrev pub byte5 : List ℕ
byte5 = words_at (8 ∷ 16 ∷ 24 ∷ 32 ∷ 56 ∷ 48 ∷ 40 ∷ [])

abbrev pub byte6 : List ℕ
byte6 = words_at (7 ∷ 15 ∷ 23 ∷ 31 ∷ 55 ∷ 47 ∷ 39 ∷ [])

abbrev pub byte7 : List ℕ
byte7 = words_at (6 ∷ 14 ∷ 22 ∷ 30 ∷ 54 ∷ 46 ∷ 38 ∷ [])

abbrev pub byte8 : List ℕ
byte8 = words_at (5 ∷ 13 ∷ 21 ∷ 29 ∷ 53 ∷ 45 ∷ 37 ∷ [])

-- the bits of bytes, each in its upper seven bits and its lowest
abbrev parted : List ℕ → List Bool
parted [] = []
parted (byte ∷ bytes) = (bits_of 7 (byte / 2) ++ bits_of 1 byte) ++ parted bytes

parted-is : (bytes : List ℕ) → parted bytes ≡ bits_of_bytes bytes
parted-is [] = refl
parted-is (byte ∷ bytes) = both (λ front back. front ++ back) (sym (bits_of-split 7 1 8 byte refl)) (parted-is bytes)

-- the number of a bit of bytes among the upper seven bits of each
abbrev among_sevens : ℕ → ℕ
among_sevens place = place - (place - 1) / 8

pub halves_of_sevens : (key : List ℕ) (word : ℕ) → length key ≡ 8
    → (let k : ℕ → List Bool = λ i. bits_of 7 (get_or key i 0 / 2) in
    IsSum word (eight byte1 byte2 byte3 byte4 byte5 byte6 byte7 byte8) (eight (k 0) (k 1) (k 2) (k 3) (k 4) (k 5) (k 6) (k 7)))
    → long_bits word ≡ permute halves_places (bits_of_bytes key)
halves_of_sevens key word h sum =
    gathered_sum (map among_sevens halves_places) word _ _ sum refl
    ∙ ap (permute halves_places) (parted-is (spelled 0 8 0 key) ∙ ap bits_of_bytes (sym (is_spelled 0 8 key h)))
