-- Blocks of eight bytes as words, and words as blocks.
use Rattle.std.proofs.Common.{◌≡◌, ℕ, zero, suc, ◌+◌, ◌-◌, ◌*◌, ◌/◌, ◌%◌, ◌^◌, ◌<◌, List, [], ◌∷◌, ◌++◌, length, get_or, refl, sym, ap, ◌∙◌, arith}
use Rattle.std.specs.Int.{w64, to_be_bytes, from_be_bytes, byte_at, bytes_high_first}
use lib.Bits.{bit_and, bit_or}
use Rattle.std.proofs.lemmas.Nat.{and_mask, or_shifted, mod_below, mul-add-lt, pow-add, from_be_bytes-to_be_bytes_8}
use Rattle.duk_des.specs.Bits.{bits_of, bits_of_bytes, bytes_of_bits}
use Rattle.duk_des.specs.Words.{word_bits}
use Rattle.duk_des.proofs.BitsOfNumbers.{bytes_of_bits-bits_of_bytes}
use Rattle.duk_des.proofs.LiteralLists.{spelled, is_spelled}
use Rattle.duk_des.proofs.BitsOfWords.{bits_of-split, bits_of-cat, bits_of-low}

-- the number that bytes spell, the first the most significant
abbrev value_of : List ℕ → ℕ
value_of [] = 0
value_of (byte ∷ bytes) = byte * 2 ^ (8 * length bytes) + value_of bytes

value_of-lt : (bytes : List ℕ) → ((i : ℕ) → get_or bytes i 0 < 256) → value_of bytes < 2 ^ (8 * length bytes)
value_of-lt [] h = omega arith
value_of-lt (byte ∷ bytes) h =
    let more : 8 * suc (length bytes) ≡ 8 * length bytes + 8 = omega arith in
    let power : 2 ^ (8 * suc (length bytes)) ≡ 2 ^ (8 * length bytes) * 256 = ap (λ n. 2 ^ n) more ∙ pow-add 2 (8 * length bytes) 8 in
    omega (arith, power, mul-add-lt byte (2 ^ (8 * length bytes)) (value_of bytes) 256 (h 0) (value_of-lt bytes (λ i. h (suc i))))

bits_of-value_of : (bytes : List ℕ) → ((i : ℕ) → get_or bytes i 0 < 256) → bits_of (8 * length bytes) (value_of bytes) ≡ bits_of_bytes bytes
bits_of-value_of [] h = refl
bits_of-value_of (byte ∷ bytes) h =
    let later : (i : ℕ) → get_or bytes i 0 < 256 = λ i. h (suc i) in
    bits_of-cat 8 (8 * length bytes) (8 * suc (length bytes)) byte (value_of bytes) (omega arith) (value_of-lt bytes later)
    ∙ ap (λ bits. bits_of 8 byte ++ bits) (bits_of-value_of bytes later)

pub bits_of-from_be_bytes : (block : List ℕ) → length block ≡ 8 → ((i : ℕ) → get_or block i 0 < 256) → bits_of 64 (from_be_bytes w64 block) ≡ bits_of_bytes block
bits_of-from_be_bytes block h fits =
    let written : block ≡ spelled 0 8 0 block = is_spelled 0 8 block h in
    let same : from_be_bytes w64 block ≡ value_of (spelled 0 8 0 block) = omega arith in
    let value : from_be_bytes w64 block ≡ value_of block = same ∙ ap value_of (sym written) in
    ap (bits_of 64) value ∙ ap (λ n. bits_of (8 * n) (value_of block)) (sym h) ∙ bits_of-value_of block fits

-- a word of 64 bits as two of 32
pub two_words : (word : ℕ) → word_bits (word / 2 ^ 32) ++ word_bits (bit_and word (2 ^ 32 - 1)) ≡ bits_of 64 word
unfolding word_bits
two_words word = ap (λ bits. bits_of 32 (word / 2 ^ 32) ++ bits) (ap (bits_of 32) (and_mask word 32) ∙ bits_of-low 32 word) ∙ sym (bits_of-split 32 32 64 word refl)

byte_fits : (place n : ℕ) → byte_at place n < 256
byte_fits zero n = mod_below n 256 (omega arith)
byte_fits (suc place) n = mod_below (n / 256 ^ suc place) 256 (omega arith)

high_first_fits : (count n i : ℕ) → get_or (bytes_high_first count n) i 0 < 256
high_first_fits zero n i = omega arith
high_first_fits (suc count) n zero = byte_fits count n
high_first_fits (suc count) n (suc i) = high_first_fits count n i

high_first_all : (count n k d : ℕ) → k < length (bytes_high_first count n) → get_or (bytes_high_first count n) k d < 256
high_first_all zero n k d h = absurd (omega arith)
high_first_all (suc count) n zero d h = byte_fits count n
high_first_all (suc count) n (suc k) d h = high_first_all count n k d (omega arith)

-- the bytes of one word followed by another
pub block_of_words : (first second : ℕ) → first < 2 ^ 32 → second < 2 ^ 32
    → to_be_bytes w64 (bit_or (first * 2 ^ 32 % 2 ^ 64) second) ≡ bytes_of_bits 8 (word_bits first ++ word_bits second)
unfolding word_bits
block_of_words first second h k =
    let both_words : ℕ = first * 2 ^ 32 + second in
    let kept : first * 2 ^ 32 % 2 ^ 64 ≡ first * 2 ^ 32 = omega arith in
    let joined : bit_or (first * 2 ^ 32 % 2 ^ 64) second ≡ both_words = ap (λ n. bit_or n second) kept ∙ or_shifted first 32 second k in
    let bytes : List ℕ = to_be_bytes w64 both_words in
    let spelt : bits_of_bytes bytes ≡ bits_of 32 first ++ bits_of 32 second =
    sym (bits_of-from_be_bytes bytes refl (high_first_fits 8 both_words))
    ∙ ap (bits_of 64) (from_be_bytes-to_be_bytes_8 both_words (omega arith))
    ∙ bits_of-cat 32 32 64 first second refl k in
    ap (to_be_bytes w64) joined
    ∙ sym (bytes_of_bits-bits_of_bytes bytes (high_first_all 8 both_words))
    ∙ ap (bytes_of_bits 8) spelt
