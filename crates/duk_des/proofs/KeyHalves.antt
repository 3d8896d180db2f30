-- Halves of 28 bits in words: their rotations, permuted choice 1 and permuted choice 2.
use Rattle.std.proofs.Common.{◌≡◌, ℕ, ◌+◌, ◌-◌, ◌*◌, ◌/◌, ◌%◌, ◌^◌, ◌<◌, ◌≤◌, Bool, List, ◌++◌, take, drop, refl, sym, ap, ◌∙◌, arith}
use lib.Bits.{bit_and, bit_xor}
use Rattle.std.proofs.lemmas.Nat.{and_mask, shl_whole, shr_below, pow_pos}
use Rattle.std.proofs.lemmas.List.{take_at, drop_at}
use Rattle.duk_des.specs.Bits.{xor_bits, permute, bits_of}
use Rattle.duk_des.specs.Des.{rotate}
use Rattle.duk_des.specs.Tables.{left_key_places, right_key_places, round_key_places}
use Rattle.duk_des.specs.inner.Words.{long_bits, half_bits, groups, key_bits, halves_places, groups_places}
use Rattle.duk_des.specs.declared.words.round_keys.RoundKey.{RoundKey}
use Rattle.duk_des.proofs.BitsOfNumbers.{length-bits_of}
use Rattle.duk_des.proofs.SideBySide.{both}
use Rattle.duk_des.proofs.BitsOfWords.{bits_of-split, bits_of-cat, bits_of-low, bits_of-zero, bits_of-part, bits_of-xor, beside}

-- the lowest bits of a number that a mask leaves
masked : (count number : ℕ) → bits_of count (bit_and number (2 ^ count - 1)) ≡ bits_of count number
masked count number = ap (bits_of count) (and_mask number count) ∙ bits_of-low count number

pub rotated : (half count : ℕ) → half < 2 ^ 28 → count ≤ 2
    → half_bits (bit_and (bit_xor (half * 2 ^ count % 2 ^ 32) (half / 2 ^ (28 - count))) (2 ^ 28 - 1)) ≡ rotate count (half_bits half)
unfolding half_bits
rotated half count fits short =
    let low : ℕ = 28 - count in
    let whole : 28 ≡ low + count = omega arith in
    let turned : 28 ≡ count + low = omega arith in
    let upper : List Bool = bits_of low half in
    let lower : List Bool = bits_of count (half / 2 ^ low) in
    let below : half < 2 ^ (count + low) = omega (arith, fits, ap (λ n. 2 ^ n) turned) in
    let kept : half * 2 ^ count % 2 ^ 32 ≡ half * 2 ^ count + 0 = shl_whole half 28 count 32 fits (omega arith) ∙ omega arith in
    let moved : half / 2 ^ low ≡ 0 * 2 ^ count + half / 2 ^ low = omega arith in
    masked 28 (bit_xor (half * 2 ^ count % 2 ^ 32) (half / 2 ^ low))
    ∙ bits_of-xor 28 (half * 2 ^ count % 2 ^ 32) (half / 2 ^ low)
    ∙ both xor_bits
    (ap (bits_of 28) kept ∙ bits_of-cat low count 28 half 0 whole (pow_pos count) ∙ ap (λ zeros. upper ++ zeros) (bits_of-zero count))
    (ap (bits_of 28) moved ∙ bits_of-cat low count 28 0 (half / 2 ^ low) whole (shr_below half count low below) ∙ ap (λ zeros. zeros ++ lower) (bits_of-zero low))
    ∙ beside low count upper lower (length-bits_of low half) (length-bits_of count (half / 2 ^ low))
    ∙ sym (ap (rotate count) (bits_of-split count low 28 half turned)
    ∙ both (λ back front. back ++ front) (drop_at lower upper count (length-bits_of count (half / 2 ^ low))) (take_at lower upper count (length-bits_of count (half / 2 ^ low))))

-- C and D out of the word of a key
pub left_half : (word : ℕ) (bits : List Bool) → long_bits word ≡ permute halves_places bits → half_bits (bit_and (word / 2 ^ 32) (2 ^ 28 - 1)) ≡ permute left_key_places bits
unfolding long_bits half_bits
left_half word bits h = masked 28 (word / 2 ^ 32) ∙ sym (bits_of-part 4 28 32 64 word refl) ∙ ap (λ all. take 28 (drop 4 all)) h

pub right_half : (word : ℕ) (bits : List Bool) → long_bits word ≡ permute halves_places bits → half_bits (bit_and word (2 ^ 28 - 1)) ≡ permute right_key_places bits
unfolding long_bits half_bits
right_half word bits h = masked 28 word ∙ ap (drop 36) (sym (bits_of-split 36 28 64 word refl) ∙ h)

-- a round key out of its two words
pub key_of_words : (word : ℕ) (bits : List Bool) → long_bits word ≡ permute groups_places bits
    → (let key : RoundKey = record { odd = word / 2 ^ 32; even = bit_and word (2 ^ 32 - 1) } in key_bits key ≡ permute round_key_places bits)
unfolding long_bits key_bits
key_of_words word bits h =
    let all = sym (bits_of-split 32 32 64 word refl) ∙ h in
    both groups (ap (take 32) all) (masked 32 word ∙ ap (drop 32) all)
