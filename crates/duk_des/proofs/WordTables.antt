-- Tables of words over groups of bits: the words of the bits that are set, added modulo 2, are a
-- permutation of the bits.
use Rattle.std.proofs.Common.{◌≡◌, ℕ, zero, suc, ◌+◌, ◌-◌, ◌*◌, ◌/◌, ◌%◌, ◌^◌, ◌<◌, ◌==◌, Bool, true, false, cond, ◌&&◌, List, [], ◌∷◌, ◌++◌, length, map, get_or, slice_index_or, inl, inr, refl, sym, ap, ◌∙◌, length-append, arith}
use mathlib.Core.Bool.{not, xor}
use lib.Bits.{bit_xor, xor_assoc}
use Rattle.std.proofs.Math.Nat.{two-pow-succ}
use Rattle.std.proofs.lemmas.Bool.{cases_lt, and_parts, false≢true}
use Rattle.std.proofs.lemmas.Nat.Bits.{bit_at-zero}
use Rattle.std.proofs.lemmas.Nat.{shr_high}
use Rattle.std.proofs.lemmas.List.{length-map, get_or_append_left, get_or-append_right, get_or-map}
use Rattle.duk_des.specs.Bits.{permute, bits_of}
use Rattle.duk_des.proofs.BitsOfNumbers.{bits_of-high}
use Rattle.duk_des.proofs.SideBySide.{consed, both}
use Rattle.duk_des.proofs.BitsOfWords.{bit-xor, xor-false, false-xor}

-- the words of the bits that are set, added modulo 2
abbrev pub combined : List ℕ → List Bool → ℕ
combined [] bits = 0
combined (word ∷ words) [] = 0
combined (word ∷ words) (b ∷ bits) = bit_xor (cond b word 0) (combined words bits)

-- the same for each number that the bits can spell
abbrev pub spanned : List ℕ → List ℕ
spanned [] = 0 ∷ []
spanned (word ∷ words) = spanned words ++ map (bit_xor word) (spanned words)

length-spanned : (words : List ℕ) → length (spanned words) ≡ 2 ^ length words
length-spanned [] = refl
length-spanned (word ∷ words) =
    let tail = spanned words in
    omega (arith, length-append tail (map (bit_xor word) tail), length-map tail (bit_xor word), length-spanned words, two-pow-succ (length words))

pub looked_up : (words : List ℕ) (number : ℕ) → number < 2 ^ length words → get_or (spanned words) number 0 ≡ combined words (bits_of (length words) number)
looked_up [] zero h = refl
looked_up [] (suc number) h = absurd (omega arith)
looked_up (word ∷ words) number h =
    let count : ℕ = length words in
    let tail = spanned words in
    let whole : length tail ≡ 2 ^ count = length-spanned words in
    let twice : 2 ^ suc count ≡ 2 ^ count * 2 = two-pow-succ count ∙ omega arith in
    elim (cases_lt number (2 ^ count)) [
      | inl l ↦
          let same : number ≡ 0 * 2 ^ count + number = omega arith in
          let none : number / 2 ^ count ≡ 0 = ap (λ n. n / 2 ^ count) same ∙ shr_high 0 count number l in
          get_or_append_left tail (map (bit_xor word) tail) 0 number (omega (arith, whole))
          ∙ looked_up words number l
          ∙ ap (λ q. bit_xor (cond (q % 2 == 1) word 0) (combined words (bits_of count number))) (sym none)
      | inr l ↦
          let rest : ℕ = number - 2 ^ count in
          let fits : rest < 2 ^ count = omega (arith, h, twice) in
          let same : number ≡ 1 * 2 ^ count + rest = omega arith in
          let one : number / 2 ^ count ≡ 1 = ap (λ n. n / 2 ^ count) same ∙ shr_high 1 count rest fits in
          let low : bits_of count number ≡ bits_of count rest = ap (bits_of count) same ∙ bits_of-high count 1 rest in
          get_or-append_right tail (map (bit_xor word) tail) (2 ^ count) number 0 whole l
          ∙ get_or-map (bit_xor word) tail rest 0 0 (omega (arith, whole, fits))
          ∙ ap (bit_xor word) (looked_up words rest fits)
          ∙ both (λ q bits. bit_xor (cond (q % 2 == 1) word 0) (combined words bits)) (sym one) (sym low)
    ]

pub combined-append : (words more : List ℕ) (bits others : List Bool) → length words ≡ length bits
    → combined (words ++ more) (bits ++ others) ≡ bit_xor (combined words bits) (combined more others)
combined-append [] more [] others h = refl
combined-append [] more (b ∷ bits) others h = absurd (omega arith)
combined-append (word ∷ words) more [] others h = absurd (omega arith)
combined-append (word ∷ words) more (b ∷ bits) others h =
    ap (bit_xor (cond b word 0)) (combined-append words more bits others (omega arith))
    ∙ sym (xor_assoc (cond b word 0) (combined words bits) (combined more others))

-- the sum modulo 2 of the bits where a list has true
abbrev picked : List Bool → List Bool → Bool
picked [] bits = false
picked (c ∷ column) [] = false
picked (c ∷ column) (b ∷ bits) = xor (c && b) (picked column bits)

-- one bit of each word
abbrev column_at : ℕ → List ℕ → List Bool
column_at place words = map (λ word. word / 2 ^ place % 2 == 1) words

and_true : (b : Bool) → b ≡ (b && true)
and_true true = refl
and_true false = refl

and_false : (b : Bool) → false ≡ (b && false)
and_false true = refl
and_false false = refl

bit_of_chosen : (place word : ℕ) (b : Bool) → (cond b word 0 / 2 ^ place % 2 == 1) ≡ ((word / 2 ^ place % 2 == 1) && b)
bit_of_chosen place word true = and_true (word / 2 ^ place % 2 == 1)
bit_of_chosen place word false = ap (λ n. n == 1) (bit_at-zero place) ∙ and_false (word / 2 ^ place % 2 == 1)

bit_of_combined : (place : ℕ) (words : List ℕ) (bits : List Bool) → (combined words bits / 2 ^ place % 2 == 1) ≡ picked (column_at place words) bits
bit_of_combined place [] bits = ap (λ n. n == 1) (bit_at-zero place)
bit_of_combined place (word ∷ words) [] = ap (λ n. n == 1) (bit_at-zero place)
bit_of_combined place (word ∷ words) (b ∷ bits) =
    bit-xor (cond b word 0) (combined words bits) place
    ∙ both xor (bit_of_chosen place word b) (bit_of_combined place words bits)

-- whether a list has no true, and whether it has true at one place alone, or none where it is
-- shorter
abbrev none : List Bool → Bool
none [] = true
none (c ∷ column) = not c && none column

abbrev only : ℕ → List Bool → Bool
only place [] = true
only zero (c ∷ column) = c && none column
only (suc place) (c ∷ column) = not c && only place column

none_picked : (column bits : List Bool) → none column ≡ true → picked column bits ≡ false
unfolding xor
none_picked [] bits h = refl
none_picked (c ∷ column) [] h = refl
none_picked (false ∷ column) (b ∷ bits) h = ap (xor false) (none_picked column bits h)
none_picked (true ∷ column) (b ∷ bits) h = absurd (false≢true h)

only_picked : (place : ℕ) (column bits : List Bool) → length column ≡ length bits → only place column ≡ true → picked column bits ≡ slice_index_or bits place false
unfolding xor
only_picked place [] [] h k = refl
only_picked place [] (b ∷ bits) h k = absurd (omega arith)
only_picked place (c ∷ column) [] h k = absurd (omega arith)
only_picked zero (true ∷ column) (b ∷ bits) h k = ap (xor b) (none_picked column bits k) ∙ xor-false b
only_picked zero (false ∷ column) (b ∷ bits) h k = absurd (false≢true k)
only_picked (suc place) (false ∷ column) (b ∷ bits) h k = false-xor (picked column bits) ∙ only_picked place column bits (omega arith) k
only_picked (suc place) (true ∷ column) (b ∷ bits) h k = absurd (false≢true k)

-- whether each of the lowest bits that the words have is that of the word that a table of places
-- names, and of no other
abbrev pub gathers : ℕ → List ℕ → List ℕ → Bool
gathers zero words [] = true
gathers zero words (place ∷ table) = false
gathers (suc count) words [] = false
gathers (suc count) words (place ∷ table) = only (place - 1) (column_at count words) && gathers count words table

pub gathered : (count : ℕ) (words table : List ℕ) (bits : List Bool) → gathers count words table ≡ true → length words ≡ length bits
    → bits_of count (combined words bits) ≡ permute table bits
gathered zero words [] bits h k = refl
gathered zero words (place ∷ table) bits h k = absurd (false≢true h)
gathered (suc count) words [] bits h k = absurd (false≢true h)
gathered (suc count) words (place ∷ table) bits h k =
    let tested = and_parts (only (place - 1) (column_at count words)) (gathers count words table) h in
    consed
    (bit_of_combined count words bits ∙ only_picked (place - 1) (column_at count words) bits (length-map words (λ word. word / 2 ^ count % 2 == 1) ∙ k) tested.0)
    (gathered count words table bits tested.1 k)
