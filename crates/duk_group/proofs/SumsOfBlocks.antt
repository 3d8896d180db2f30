-- Sums of bits, and of the bytes that they spell.
use Rattle.std.proofs.Common.{◌≡◌, ℕ, zero, suc, ◌+◌, ◌*◌, ◌^◌, ◌<◌, Bool, true, false, List, [], ◌∷◌, length, take, drop, bit_xor, refl, sym, ap, ap₂, ◌∙◌, length-take, length-drop, arith}
use mathlib.Core.Bool.{xor}
use Rattle.std.proofs.lemmas.Nat.{xor_block}
use Rattle.duk_des.specs.Bits.{xor_bits, digit, number_of, bytes_of_bits}
use Rattle.duk_des.specs.Bytes.{xor_bytes}
use Rattle.duk_group.proofs.BitsAndBytes.{number_of-lt, length-xor_bits}

digit-xor : (a b : Bool) → digit (xor a b) ≡ bit_xor (digit a) (digit b)
unfolding xor
digit-xor false false = refl
digit-xor false true = refl
digit-xor true false = refl
digit-xor true true = refl

number_of-xor_bits : (a b : List Bool) → length a ≡ length b → number_of (xor_bits a b) ≡ bit_xor (number_of a) (number_of b)
number_of-xor_bits [] [] same = refl
number_of-xor_bits [] (y ∷ b) same = absurd (omega arith)
number_of-xor_bits (x ∷ a) [] same = absurd (omega arith)
number_of-xor_bits (x ∷ a) (y ∷ b) same =
    let rest : length a ≡ length b = omega arith in
    let low : number_of b < 2 ^ length a = rw rest (number_of-lt b) in
    ap₂ (λ (d n : ℕ). d * 2 ^ n + number_of (xor_bits a b)) (digit-xor x y) (length-xor_bits a b rest)
    ∙ ap (λ n. bit_xor (digit x) (digit y) * 2 ^ length a + n) (number_of-xor_bits a b rest)
    ∙ sym (xor_block (length a) (digit x) (digit y) (number_of a) (number_of b) (number_of-lt a) low)
    ∙ ap (λ n. bit_xor (digit x * 2 ^ length a + number_of a) (digit y * 2 ^ n + number_of b)) rest

take-xor_bits : (count : ℕ) (a b : List Bool) → length a ≡ length b → take count (xor_bits a b) ≡ xor_bits (take count a) (take count b)
take-xor_bits zero a b same = refl
take-xor_bits (suc count) [] [] same = refl
take-xor_bits (suc count) [] (y ∷ b) same = absurd (omega arith)
take-xor_bits (suc count) (x ∷ a) [] same = absurd (omega arith)
take-xor_bits (suc count) (x ∷ a) (y ∷ b) same = ap (λ rest. xor x y ∷ rest) (take-xor_bits count a b (omega arith))

drop-xor_bits : (count : ℕ) (a b : List Bool) → length a ≡ length b → drop count (xor_bits a b) ≡ xor_bits (drop count a) (drop count b)
drop-xor_bits zero a b same = refl
drop-xor_bits (suc count) [] [] same = refl
drop-xor_bits (suc count) [] (y ∷ b) same = absurd (omega arith)
drop-xor_bits (suc count) (x ∷ a) [] same = absurd (omega arith)
drop-xor_bits (suc count) (x ∷ a) (y ∷ b) same = drop-xor_bits count a b (omega arith)

-- the bytes that a sum of bits spells are the sums of the bytes
pub bytes_of_bits-xor_bits : (count : ℕ) (a b : List Bool) → length a ≡ length b
    → bytes_of_bits count (xor_bits a b) ≡ xor_bytes (bytes_of_bits count a) (bytes_of_bits count b)
bytes_of_bits-xor_bits zero a b same = refl
bytes_of_bits-xor_bits (suc count) a b same =
    let front : length (take 8 a) ≡ length (take 8 b) = simp length-take (omega arith) in
    let back : length (drop 8 a) ≡ length (drop 8 b) = simp length-drop (omega arith) in
    ap₂ (λ (byte : ℕ) (bytes : List ℕ). byte ∷ bytes)
    (ap number_of (take-xor_bits 8 a b same) ∙ number_of-xor_bits (take 8 a) (take 8 b) front)
    (ap (bytes_of_bits count) (drop-xor_bits 8 a b same) ∙ bytes_of_bits-xor_bits count (drop 8 a) (drop 8 b) back)
