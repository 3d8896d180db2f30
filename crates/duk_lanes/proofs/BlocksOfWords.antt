-- Blocks of 8 bytes, their bits, and the words of 64 bits that they are.
use Rattle.std.proofs.Common.{◌≡◌, ℕ, zero, suc, ◌+◌, ◌-◌, ◌*◌, ◌/◌, ◌%◌, ◌^◌, ◌<◌, ◌≤◌, ◌==◌, Bool, false, List, ◌∷◌, ◌++◌, length, get_or, refl, sym, ap, ◌∙◌, arith}
use Rattle.std.specs.Int.{w64, byte_at, bytes_high_first, from_be_bytes, to_be_bytes}
use Rattle.std.proofs.Math.Nat.{pow-suc}
use Rattle.std.proofs.lemmas.Nat.{pow-add, shr-shr, be_bytes_8}
use Rattle.std.proofs.lemmas.Nat.Bits.{bit_at-lt}
use Rattle.std.proofs.lemmas.List.{ext_get_or, get_or-map, length-map}
use Rattle.duk_des.specs.Bits.{bits_of, bits_of_bytes, digit, number_of, bytes_of_bits}
use Rattle.duk_lanes.specs.Lanes.{lane_of}
use Rattle.duk_lanes.specs.Words.{word_lane}
use Rattle.duk_lanes.specs.inner.Words.{word_bits}
use Rattle.duk_lanes.proofs.LanesOfWords.{bit_at-low}

consed : {X : Type 0} {x y : X} {xs ys : List X} → x ≡ y → xs ≡ ys → x ∷ xs ≡ y ∷ ys
consed {X} {x} {y} {xs} {ys} e h = ap (λ v. v ∷ xs) e ∙ ap (λ v. y ∷ v) h

-- the upper bits of a number, and the lower `low`
split : (high low count n : ℕ) → count ≡ high + low → bits_of count n ≡ bits_of high (n / 2 ^ low) ++ bits_of low n
split zero low count n e = let same : count ≡ low = omega arith in ap (λ m. bits_of m n) same
split (suc high) low zero n e = absurd (omega arith)
split (suc high) low (suc count) n e =
    let sum : count ≡ low + high = omega arith in
    consed
    (ap (λ m. n / 2 ^ m % 2 == 1) sum ∙ ap (λ m. m % 2 == 1) (sym (shr-shr n low high)))
    (split high low count n (omega arith))

lowest : (count width n : ℕ) → count ≤ width → bits_of count (n % 2 ^ width) ≡ bits_of count n
lowest zero width n h = refl
lowest (suc count) width n h = consed (ap (λ b. b == 1) (bit_at-low width n count (omega arith))) (lowest count width n (omega arith))

power : (k : ℕ) → 256 ^ k ≡ 2 ^ (8 * k)
power zero = refl
power (suc k) =
    let more : 8 * k + 8 ≡ 8 * suc k = omega arith in
    pow-suc 256 k ∙ ap (λ m. m * 256) (power k) ∙ sym (pow-add 2 (8 * k) 8) ∙ ap (λ m. 2 ^ m) more

byte_is : (k n : ℕ) → byte_at k n ≡ n / 2 ^ (8 * k) % 256
byte_is zero n = omega arith
byte_is (suc k) n = ap (λ m. n / m % 256) (power (suc k))

-- ---- the bytes of a word, and its bits
bits_of_high_first : (count n : ℕ) → bits_of_bytes (bytes_high_first count n) ≡ bits_of (8 * count) n
bits_of_high_first zero n = refl
bits_of_high_first (suc count) n =
    let upper : List Bool = bits_of 8 (n / 2 ^ (8 * count)) in
    ap (λ byte. byte ++ bits_of_bytes (bytes_high_first count n))
    (ap (bits_of 8) (byte_is count n) ∙ lowest 8 8 (n / 2 ^ (8 * count)) (omega arith))
    ∙ ap (λ lower. upper ++ lower) (bits_of_high_first count n)
    ∙ sym (split 8 (8 * count) (8 * suc count) n (omega arith))

digit_is : (n : ℕ) → n < 2 → digit (n == 1) ≡ n
digit_is zero h = refl
digit_is (suc zero) h = refl
digit_is (suc (suc n)) h = absurd (omega arith)

number_of_byte : (n : ℕ) → number_of (bits_of 8 n) ≡ n % 256
number_of_byte n =
    omega (
      arith,
      digit_is (n / 2 ^ 7 % 2) (bit_at-lt n 7),
      digit_is (n / 2 ^ 6 % 2) (bit_at-lt n 6),
      digit_is (n / 2 ^ 5 % 2) (bit_at-lt n 5),
      digit_is (n / 2 ^ 4 % 2) (bit_at-lt n 4),
      digit_is (n / 2 ^ 3 % 2) (bit_at-lt n 3),
      digit_is (n / 2 ^ 2 % 2) (bit_at-lt n 2),
      digit_is (n / 2 ^ 1 % 2) (bit_at-lt n 1),
      digit_is (n / 2 ^ 0 % 2) (bit_at-lt n 0),
    )

high_first_of_bits : (count n : ℕ) → bytes_of_bits count (bits_of (8 * count) n) ≡ bytes_high_first count n
high_first_of_bits zero n = refl
high_first_of_bits (suc count) n =
    ap (bytes_of_bits (suc count)) (split 8 (8 * count) (8 * suc count) n (omega arith))
    ∙ consed (number_of_byte (n / 2 ^ (8 * count)) ∙ sym (byte_is count n)) (high_first_of_bits count n)

pub block_of_word : (word : ℕ) → to_be_bytes w64 word ≡ bytes_of_bits 8 (word_bits word)
unfolding word_bits
block_of_word word = sym (high_first_of_bits 8 word)

pub word_of_block : (block : List ℕ) → length block ≡ 8 → ((i : ℕ) → get_or block i 0 < 256) → word_bits (from_be_bytes w64 block) ≡ bits_of_bytes block
unfolding word_bits
word_of_block block h fits =
    sym (bits_of_high_first 8 (from_be_bytes w64 block)) ∙ ap bits_of_bytes (be_bytes_8 block (from_be_bytes w64 block) h fits refl)

-- ---- the bits of a lane, as those of a word
length-bits_of : (count n : ℕ) → length (bits_of count n) ≡ count
length-bits_of zero n = refl
length-bits_of (suc count) n = ap suc (length-bits_of count n)

bits_of-at : (count n k : ℕ) → k < count → get_or (bits_of count n) k false ≡ word_lane n (count - 1 - k)
unfolding word_lane
bits_of-at zero n k h = absurd (omega arith)
bits_of-at (suc count) n zero h = let same : count ≡ suc count - 1 - 0 = omega arith in ap (λ m. n / 2 ^ m % 2 == 1) same
bits_of-at (suc count) n (suc k) h =
    let same : count - 1 - k ≡ suc count - 1 - suc k = omega arith in
    bits_of-at count n k (omega arith) ∙ ap (λ m. n / 2 ^ m % 2 == 1) same

pub lane_of_words : (words : List ℕ) (word i : ℕ) → length words ≡ 64
    → ((p : ℕ) → p < 64 → word_lane (get_or words p 0) i ≡ word_lane word (63 - p)) → lane_of word_lane i words ≡ word_bits word
unfolding word_bits
lane_of_words words word i h each =
    ext_get_or false (lane_of word_lane i words) (bits_of 64 word)
    (length-map words (λ w. word_lane w i) ∙ h)
    (λ p below.
    let within : p < 64 = omega (arith, h, length-map words (λ w. word_lane w i)) in
    get_or-map (λ w. word_lane w i) words p 0 false (omega arith) ∙ each p within ∙ sym (bits_of-at 64 word p within))
