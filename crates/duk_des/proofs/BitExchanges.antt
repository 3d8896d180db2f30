-- Exchanges of bits of two words, and the permutations that five of them make.
use Rattle.std.proofs.Common.{◌≡◌, ℕ, zero, suc, ◌+◌, ◌-◌, ◌*◌, ◌/◌, ◌%◌, ◌^◌, ◌<◌, Bool, true, false, cond, ◌&&◌, List, [], ◌∷◌, ◌++◌, length, take, drop, replicate, refl, sym, ap, ◌∙◌, arith}
use mathlib.Core.Bool.{xor}
use lib.Bits.{bit_and, bit_xor}
use Rattle.std.proofs.lemmas.Nat.{pow_pos, shr_below}
use Rattle.std.proofs.lemmas.List.{take_at, drop_at, take-append-drop, length-append, length-replicate, length-take-le, length-drop}
use Rattle.duk_des.specs.Bits.{xor_bits, bits_of}
use Rattle.duk_des.specs.Words.{word_bits}
use Rattle.duk_des.specs.inner.Words.{chosen_by, first_exchanged, second_exchanged}
use Rattle.duk_des.proofs.BitsOfNumbers.{length-bits_of}
use Rattle.duk_des.proofs.SideBySide.{consed, both}
use Rattle.duk_des.proofs.BitsOfXor.{length-xor_bits}
use Rattle.duk_des.proofs.BitsOfWords.{and_bits, bits_of-split, bits_of-cat, bits_of-low, bits_of-zero, bits_of-xor, bits_of-and, xor_bits-append, xor_bits-zeros}

-- where the mask is set, the bit of one list and its difference from another's is the other's
chosen_bit : (m a b : Bool) → xor b (xor a b && m) ≡ cond m a b
unfolding xor
chosen_bit true true true = refl
chosen_bit true true false = refl
chosen_bit true false true = refl
chosen_bit true false false = refl
chosen_bit false true true = refl
chosen_bit false true false = refl
chosen_bit false false true = refl
chosen_bit false false false = refl

chosen_back : (m a b : Bool) → xor a (xor a b && m) ≡ cond m b a
unfolding xor
chosen_back true true true = refl
chosen_back true true false = refl
chosen_back true false true = refl
chosen_back true false false = refl
chosen_back false true true = refl
chosen_back false true false = refl
chosen_back false false true = refl
chosen_back false false false = refl

to_second : (mask a b : List Bool) → length mask ≡ length b → length a ≡ length b → xor_bits b (and_bits (xor_bits a b) mask) ≡ chosen_by mask b a
to_second [] [] [] h k = refl
to_second [] (x ∷ a) [] h k = absurd (omega arith)
to_second (m ∷ mask) a [] h k = absurd (omega arith)
to_second [] a (y ∷ b) h k = absurd (omega arith)
to_second (m ∷ mask) [] (y ∷ b) h k = absurd (omega arith)
to_second (m ∷ mask) (x ∷ a) (y ∷ b) h k = consed (chosen_bit m x y) (to_second mask a b (omega arith) (omega arith))

to_first : (mask a b : List Bool) → length mask ≡ length b → length a ≡ length b → xor_bits a (and_bits (xor_bits a b) mask) ≡ chosen_by mask a b
to_first [] [] [] h k = refl
to_first [] (x ∷ a) [] h k = absurd (omega arith)
to_first (m ∷ mask) a [] h k = absurd (omega arith)
to_first [] a (y ∷ b) h k = absurd (omega arith)
to_first (m ∷ mask) [] (y ∷ b) h k = absurd (omega arith)
to_first (m ∷ mask) (x ∷ a) (y ∷ b) h k = consed (chosen_back m x y) (to_first mask a b (omega arith) (omega arith))

and_none : (a : List Bool) → and_bits a [] ≡ []
and_none [] = refl
and_none (x ∷ a) = refl

drop-and_bits : (n : ℕ) (a b : List Bool) → drop n (and_bits a b) ≡ and_bits (drop n a) (drop n b)
drop-and_bits zero a b = refl
drop-and_bits (suc n) [] b = refl
drop-and_bits (suc n) (x ∷ a) [] = sym (and_none (drop n a))
drop-and_bits (suc n) (x ∷ a) (y ∷ b) = drop-and_bits n a b

drop-xor_bits : (n : ℕ) (a b : List Bool) → length a ≡ length b → drop n (xor_bits a b) ≡ xor_bits (drop n a) (drop n b)
drop-xor_bits zero a b h = refl
drop-xor_bits (suc n) [] b h = refl
drop-xor_bits (suc n) (x ∷ a) [] h = absurd (omega arith)
drop-xor_bits (suc n) (x ∷ a) (y ∷ b) h = drop-xor_bits n a b (omega arith)

-- a word that is shifted to the right, and one that is shifted to the left
bits_of-shr : (count rest word : ℕ) → 32 ≡ count + rest → word < 2 ^ 32 → bits_of 32 (word / 2 ^ count) ≡ replicate count false ++ take rest (bits_of 32 word)
bits_of-shr count rest word whole fits =
    let turned : 32 ≡ rest + count = omega arith in
    let below : word < 2 ^ (rest + count) = omega (arith, fits, ap (λ n. 2 ^ n) turned) in
    let moved : word / 2 ^ count ≡ 0 * 2 ^ rest + word / 2 ^ count = omega arith in
    let upper : List Bool = bits_of rest (word / 2 ^ count) in
    ap (bits_of 32) moved
    ∙ bits_of-cat count rest 32 0 (word / 2 ^ count) whole (shr_below word rest count below)
    ∙ both (λ a b. a ++ b) (bits_of-zero count)
    (sym (ap (take rest) (bits_of-split rest count 32 word turned) ∙ take_at upper (bits_of count word) rest (length-bits_of rest (word / 2 ^ count))))

bits_of-shl : (count rest word moved : ℕ) → 32 ≡ count + rest → moved ≡ word * 2 ^ count % 2 ^ 32 → bits_of 32 moved ≡ drop count (bits_of 32 word) ++ replicate count false
bits_of-shl count rest word moved whole e =
    let turned : 32 ≡ rest + count = omega arith in
    let plain : word * 2 ^ count ≡ word * 2 ^ count + 0 = omega arith in
    let upper : List Bool = bits_of count (word / 2 ^ rest) in
    ap (bits_of 32) e
    ∙ bits_of-low 32 (word * 2 ^ count)
    ∙ ap (bits_of 32) plain
    ∙ bits_of-cat rest count 32 word 0 turned (pow_pos count)
    ∙ both (λ a b. a ++ b)
    (sym (ap (drop count) (bits_of-split count rest 32 word whole) ∙ drop_at upper (bits_of rest word) count (length-bits_of count (word / 2 ^ rest))))
    (bits_of-zero count)

length-and_bits : (a b : List Bool) → length a ≡ length b → length (and_bits a b) ≡ length a
length-and_bits [] b h = refl
length-and_bits (x ∷ a) [] h = absurd (omega arith)
length-and_bits (x ∷ a) (y ∷ b) h = ap suc (length-and_bits a b (omega arith))

shifted_length : (count : ℕ) (bits : List Bool) → count < 32 → length bits ≡ 32 → length (replicate count false ++ take (32 - count) bits) ≡ 32
shifted_length count bits short h =
    let kept : length (take (32 - count) bits) ≡ 32 - count = length-take-le (32 - count) bits (omega arith) in
    omega (arith, kept, length-append (replicate count false) (take (32 - count) bits), length-replicate count false)

-- the bits that differ, under the mask
abbrev pub differing : ℕ → ℕ → ℕ → ℕ → ℕ
differing first second count mask = bit_and (bit_xor (first / 2 ^ count) second) mask

differing_bits : (first second count mask : ℕ) → count < 32 → first < 2 ^ 32
    → bits_of 32 (differing first second count mask) ≡ and_bits (xor_bits (replicate count false ++ take (32 - count) (bits_of 32 first)) (bits_of 32 second)) (bits_of 32 mask)
differing_bits first second count mask short fits =
    bits_of-and 32 (bit_xor (first / 2 ^ count) second) mask
    ∙ ap (λ bits. and_bits bits (bits_of 32 mask))
    (bits_of-xor 32 (first / 2 ^ count) second ∙ ap (λ bits. xor_bits bits (bits_of 32 second)) (bits_of-shr count (32 - count) first (omega arith) fits))

pub second_by_difference : (first second count mask : ℕ) → count < 32 → first < 2 ^ 32
    → word_bits (bit_xor second (differing first second count mask)) ≡ second_exchanged count (word_bits mask) (word_bits first) (word_bits second)
unfolding word_bits second_exchanged
second_by_difference first second count mask short fits =
    let shifted : List Bool = replicate count false ++ take (32 - count) (bits_of 32 first) in
    let long : length shifted ≡ 32 = shifted_length count (bits_of 32 first) short (length-bits_of 32 first) in
    bits_of-xor 32 second (differing first second count mask)
    ∙ ap (xor_bits (bits_of 32 second)) (differing_bits first second count mask short fits)
    ∙ to_second (bits_of 32 mask) shifted (bits_of 32 second) refl long

pub first_by_difference : (first second count mask moved : ℕ) → count < 32 → first < 2 ^ 32 → moved ≡ differing first second count mask * 2 ^ count % 2 ^ 32
    → word_bits (bit_xor first moved) ≡ first_exchanged count (word_bits mask) (word_bits first) (word_bits second)
unfolding word_bits first_exchanged
first_by_difference first second count mask moved short fits e =
    let a : List Bool = bits_of 32 first in
    let b : List Bool = bits_of 32 second in
    let m : List Bool = bits_of 32 mask in
    let rest : ℕ = 32 - count in
    let whole : 32 ≡ count + rest = omega arith in
    let shifted : List Bool = replicate count false ++ take rest a in
    let long : length shifted ≡ 32 = shifted_length count a short (length-bits_of 32 first) in
    let kept = take rest a in
    let under : drop count (and_bits (xor_bits shifted b) m) ≡ and_bits (xor_bits kept (drop count b)) (drop count m) =
    drop-and_bits count (xor_bits shifted b) m
    ∙ ap (λ bits. and_bits bits (drop count m))
    (drop-xor_bits count shifted b long ∙ ap (λ bits. xor_bits bits (drop count b)) (drop_at (replicate count false) kept count (length-replicate count false))) in
    let kept_long : length kept ≡ rest = length-take-le rest a (omega (arith, length-bits_of 32 first)) in
    let b_long : length (drop count b) ≡ rest = omega (arith, length-drop count b, length-bits_of 32 second) in
    let m_long : length (drop count m) ≡ rest = omega (arith, length-drop count m, length-bits_of 32 mask) in
    let changed = and_bits (xor_bits kept (drop count b)) (drop count m) in
    let changed_long : length changed ≡ rest = length-and_bits (xor_bits kept (drop count b)) (drop count m) (length-xor_bits kept (drop count b) (kept_long ∙ sym b_long) ∙ kept_long ∙ sym m_long) ∙ length-xor_bits kept (drop count b) (kept_long ∙ sym b_long) ∙ kept_long in
    let tail_long : length (drop rest a) ≡ count = omega (arith, length-drop rest a, length-bits_of 32 first) in
    bits_of-xor 32 first moved
    ∙ ap (xor_bits a)
    (bits_of-shl count rest (differing first second count mask) moved whole e
    ∙ ap (λ bits. drop count bits ++ replicate count false) (differing_bits first second count mask short fits)
    ∙ ap (λ bits. bits ++ replicate count false) under)
    ∙ ap (λ bits. xor_bits bits (changed ++ replicate count false)) (sym (take-append-drop rest a))
    ∙ xor_bits-append kept (drop rest a) changed (replicate count false) (kept_long ∙ sym changed_long)
    ∙ both (λ front back. front ++ back) (to_first (drop count m) kept (drop count b) (m_long ∙ sym b_long) (kept_long ∙ sym b_long)) (xor_bits-zeros count (drop rest a) tail_long)
