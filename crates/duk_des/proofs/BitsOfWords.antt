-- The bits of numbers that shifts, masks and sums modulo 2 make.
use Rattle.std.proofs.Common.{◌≡◌, ℕ, zero, suc, ◌+◌, ◌-◌, ◌*◌, ◌/◌, ◌%◌, ◌^◌, ◌<◌, ◌==◌, min, Bool, true, false, ◌&&◌, List, [], ◌∷◌, ◌++◌, length, take, drop, replicate, slice_index_or, refl, sym, ap, ◌∙◌, arith}
use mathlib.Core.Bool.{xor}
use lib.Bits.{bit_and, bit_xor}
use Rattle.std.proofs.lemmas.Nat.{shr-shr, shr_high, shr_split}
use Rattle.std.proofs.lemmas.Nat.Bits.{bit_at_xor, bit_at_and, bit_at-lt, bit_at-zero}
use Rattle.std.proofs.lemmas.List.{take_at, drop_at}
use Rattle.duk_des.specs.Bits.{xor_bits, permute, bits_of}
use Rattle.duk_des.proofs.BitsOfNumbers.{length-bits_of, bits_of-high}
use Rattle.duk_des.proofs.SideBySide.{consed, both}

-- the upper bits, and the lower `low`
pub bits_of-split : (high low count number : ℕ) → count ≡ high + low → bits_of count number ≡ bits_of high (number / 2 ^ low) ++ bits_of low number
bits_of-split zero low count number e = let same : count ≡ low = omega arith in ap (λ n. bits_of n number) same
bits_of-split (suc high) low zero number e = absurd (omega arith)
bits_of-split (suc high) low (suc count) number e =
    let sum : count ≡ low + high = omega arith in
    consed
    (ap (λ n. number / 2 ^ n % 2 == 1) sum ∙ ap (λ n. n % 2 == 1) (sym (shr-shr number low high)))
    (bits_of-split high low count number (omega arith))

-- one number above another
pub bits_of-cat : (high low count a b : ℕ) → count ≡ high + low → b < 2 ^ low → bits_of count (a * 2 ^ low + b) ≡ bits_of high a ++ bits_of low b
bits_of-cat high low count a b e fits =
    bits_of-split high low count (a * 2 ^ low + b) e
    ∙ both (λ upper lower. upper ++ lower) (ap (bits_of high) (shr_high a low b fits)) (bits_of-high low a b)

pub bits_of-low : (count number : ℕ) → bits_of count (number % 2 ^ count) ≡ bits_of count number
bits_of-low count number = sym (ap (bits_of count) (sym (shr_split number count)) ∙ bits_of-high count (number / 2 ^ count) (number % 2 ^ count))

pub bits_of-zero : (count : ℕ) → bits_of count 0 ≡ replicate count false
bits_of-zero zero = refl
bits_of-zero (suc count) = consed (ap (λ n. n == 1) (bit_at-zero count)) (bits_of-zero count)

-- some bits of a number, from their place in it
pub bits_of-part : (before count after total number : ℕ) → total ≡ before + (count + after)
    → take count (drop before (bits_of total number)) ≡ bits_of count (number / 2 ^ after)
bits_of-part before count after total number e =
    let upper : List Bool = bits_of before (number / 2 ^ (count + after)) in
    let middle : List Bool = bits_of count (number / 2 ^ after) in
    ap (λ bits. take count (drop before bits))
    (bits_of-split before (count + after) total number e ∙ ap (λ lower. upper ++ lower) (bits_of-split count after (count + after) number refl))
    ∙ ap (take count) (drop_at upper (middle ++ bits_of after number) before (length-bits_of before _))
    ∙ take_at middle (bits_of after number) count (length-bits_of count _)

bit_of_sum : (p q : ℕ) → p < 2 → q < 2 → ((p + q) % 2 == 1) ≡ xor (p == 1) (q == 1)
unfolding xor
bit_of_sum zero zero h k = refl
bit_of_sum zero (suc zero) h k = refl
bit_of_sum (suc zero) zero h k = refl
bit_of_sum (suc zero) (suc zero) h k = refl
bit_of_sum zero (suc (suc q)) h k = absurd (omega arith)
bit_of_sum (suc zero) (suc (suc q)) h k = absurd (omega arith)
bit_of_sum (suc (suc p)) q h k = absurd (omega arith)

pub bit-xor : (a b place : ℕ) → (bit_xor a b / 2 ^ place % 2 == 1) ≡ xor (a / 2 ^ place % 2 == 1) (b / 2 ^ place % 2 == 1)
bit-xor a b place = ap (λ n. n == 1) (bit_at_xor a b place) ∙ bit_of_sum _ _ (bit_at-lt a place) (bit_at-lt b place)

pub bits_of-xor : (count a b : ℕ) → bits_of count (bit_xor a b) ≡ xor_bits (bits_of count a) (bits_of count b)
bits_of-xor zero a b = refl
bits_of-xor (suc count) a b = consed (bit-xor a b count) (bits_of-xor count a b)

-- the bits that are set in both of two lists
abbrev pub and_bits : List Bool → List Bool → List Bool
and_bits [] bs = []
and_bits (a ∷ rest) [] = []
and_bits (a ∷ rest) (b ∷ bs) = (a && b) ∷ and_bits rest bs

bit_of_least : (p q : ℕ) → p < 2 → q < 2 → (min p q == 1) ≡ ((p == 1) && (q == 1))
bit_of_least zero zero h k = refl
bit_of_least zero (suc zero) h k = refl
bit_of_least (suc zero) zero h k = refl
bit_of_least (suc zero) (suc zero) h k = refl
bit_of_least zero (suc (suc q)) h k = absurd (omega arith)
bit_of_least (suc zero) (suc (suc q)) h k = absurd (omega arith)
bit_of_least (suc (suc p)) q h k = absurd (omega arith)

pub bits_of-and : (count a b : ℕ) → bits_of count (bit_and a b) ≡ and_bits (bits_of count a) (bits_of count b)
bits_of-and zero a b = refl
bits_of-and (suc count) a b =
    consed
    (ap (λ n. n == 1) (bit_at_and a b count) ∙ bit_of_least _ _ (bit_at-lt a count) (bit_at-lt b count))
    (bits_of-and count a b)

-- ---- sums modulo 2 of lists of bits
pub xor_bits-append : (a b c d : List Bool) → length a ≡ length c → xor_bits (a ++ b) (c ++ d) ≡ xor_bits a c ++ xor_bits b d
xor_bits-append [] b [] d h = refl
xor_bits-append [] b (x ∷ c) d h = absurd (omega arith)
xor_bits-append (x ∷ a) b [] d h = absurd (omega arith)
xor_bits-append (x ∷ a) b (y ∷ c) d h = consed refl (xor_bits-append a b c d (omega arith))

pub xor-false : (b : Bool) → xor b false ≡ b
unfolding xor
xor-false true = refl
xor-false false = refl

pub false-xor : (b : Bool) → xor false b ≡ b
unfolding xor
false-xor true = refl
false-xor false = refl

pub xor_bits-zeros : (count : ℕ) (bits : List Bool) → length bits ≡ count → xor_bits bits (replicate count false) ≡ bits
xor_bits-zeros zero [] h = refl
xor_bits-zeros zero (b ∷ bits) h = absurd (omega arith)
xor_bits-zeros (suc count) [] h = absurd (omega arith)
xor_bits-zeros (suc count) (b ∷ bits) h = consed (xor-false b) (xor_bits-zeros count bits (omega arith))

pub zeros-xor_bits : (count : ℕ) (bits : List Bool) → length bits ≡ count → xor_bits (replicate count false) bits ≡ bits
zeros-xor_bits zero [] h = refl
zeros-xor_bits zero (b ∷ bits) h = absurd (omega arith)
zeros-xor_bits (suc count) [] h = absurd (omega arith)
zeros-xor_bits (suc count) (b ∷ bits) h = consed (false-xor b) (zeros-xor_bits count bits (omega arith))

-- bits beside zeros, added to zeros beside bits
pub beside : (m n : ℕ) (a b : List Bool) → length a ≡ m → length b ≡ n → xor_bits (a ++ replicate n false) (replicate m false ++ b) ≡ a ++ b
beside zero n [] b h k = zeros-xor_bits n b k
beside zero n (x ∷ a) b h k = absurd (omega arith)
beside (suc m) n [] b h k = absurd (omega arith)
beside (suc m) n (x ∷ a) b h k = consed (xor-false x) (beside m n a b (omega arith) k)

bit_at_place-xor : (a b : List Bool) (k : ℕ) → length a ≡ length b → slice_index_or (xor_bits a b) k false ≡ xor (slice_index_or a k false) (slice_index_or b k false)
unfolding xor
bit_at_place-xor [] [] k h = refl
bit_at_place-xor [] (y ∷ b) k h = absurd (omega arith)
bit_at_place-xor (x ∷ a) [] k h = absurd (omega arith)
bit_at_place-xor (x ∷ a) (y ∷ b) zero h = refl
bit_at_place-xor (x ∷ a) (y ∷ b) (suc k) h = bit_at_place-xor a b k (omega arith)

-- a permutation of a sum is the sum of the permuted
pub permute-xor_bits : (table : List ℕ) (a b : List Bool) → length a ≡ length b → permute table (xor_bits a b) ≡ xor_bits (permute table a) (permute table b)
permute-xor_bits [] a b h = refl
permute-xor_bits (place ∷ table) a b h = consed (bit_at_place-xor a b (place - 1) h) (permute-xor_bits table a b h)
