-- Bytes of which one is changed have another check sum: each step of the division can be undone.
use Rattle.std.proofs.Common.{◌≡◌, ℕ, zero, suc, ◌-◌, ◌/◌, ◌%◌, ◌<◌, ◌^◌, List, [], ◌∷◌, ◌++◌, bit_xor, fold, refl, sym, ◌∙◌, ap, arith}
use Rattle.std.proofs.lemmas.Nat.{xor_comm, xor_lt}
use Rattle.std.specs.Int.Bits.{xor_assoc, xor_self, xor_zero_r}
use Rattle.std.specs.List.{All}
use Rattle.duk_crc.specs.Crc32.{carried, crc32, generator, shifted, times_x, with_byte}

-- what is added twice is gone
undone : (a c : ℕ) → bit_xor (bit_xor a c) c ≡ a
undone a c = xor_assoc a c c ∙ ap (bit_xor a) (xor_self c) ∙ xor_zero_r a

same_left : (a b c : ℕ) → bit_xor a c ≡ bit_xor b c → a ≡ b
same_left a b c same = sym (undone a c) ∙ ap (λ (n : ℕ). bit_xor n c) same ∙ undone b c

same_right : (a b c : ℕ) → bit_xor c a ≡ bit_xor c b → a ≡ b
same_right a b c same = same_left a b c (xor_comm a c ∙ same ∙ xor_comm c b)

-- what is carried is told by the product: it has the highest bit or not
never : (a b : ℕ) → a < 2 ^ 31 → b < 2 ^ 31 → ¬ (bit_xor a generator ≡ b)
never a b a_fits b_fits same =
    let is : generator ≡ bit_xor b a = sym (undone generator a) ∙ ap (λ (n : ℕ). bit_xor n a) (xor_comm generator a ∙ same) in
    let less : bit_xor b a < 2 ^ 31 = xor_lt 31 b a b_fits a_fits in
    omega (arith, is, less)

same_carried : (a b c d : ℕ) → a < 2 ^ 31 → b < 2 ^ 31 → c < 2 → d < 2 → bit_xor a (carried c) ≡ bit_xor b (carried d) → (a ≡ b) × (c ≡ d)
same_carried a b zero zero a_fits b_fits c_fits d_fits same = (sym (xor_zero_r a) ∙ same ∙ xor_zero_r b, refl)
same_carried a b zero (suc zero) a_fits b_fits c_fits d_fits same = absurd (never b a b_fits a_fits (sym same ∙ xor_zero_r a))
same_carried a b (suc zero) zero a_fits b_fits c_fits d_fits same = absurd (never a b a_fits b_fits (same ∙ xor_zero_r b))
same_carried a b (suc zero) (suc zero) a_fits b_fits c_fits d_fits same = (same_left a b generator same, refl)
same_carried a b (suc (suc c)) d a_fits b_fits c_fits d_fits same = absurd (omega (arith, c_fits))
same_carried a b zero (suc (suc d)) a_fits b_fits c_fits d_fits same = absurd (omega (arith, d_fits))
same_carried a b (suc zero) (suc (suc d)) a_fits b_fits c_fits d_fits same = absurd (omega (arith, d_fits))

same_product : (r s : ℕ) → r < 2 ^ 32 → s < 2 ^ 32 → times_x r ≡ times_x s → r ≡ s
same_product r s r_fits s_fits same =
    let is = same_carried (r / 2) (s / 2) (r % 2) (s % 2) (omega (arith, r_fits)) (omega (arith, s_fits)) (omega arith) (omega arith) same in
    omega (arith, is.0, is.1)

carried_fits : (c : ℕ) → carried c < 2 ^ 32
carried_fits zero = omega arith
carried_fits (suc c) = omega arith

product_fits : (r : ℕ) → r < 2 ^ 32 → times_x r < 2 ^ 32
product_fits r fits = xor_lt 32 (r / 2) (carried (r % 2)) (omega (arith, fits)) (carried_fits (r % 2))

shifted_fits : (power r : ℕ) → r < 2 ^ 32 → shifted power r < 2 ^ 32
shifted_fits zero r fits = fits
shifted_fits (suc power) r fits = product_fits (shifted power r) (shifted_fits power r fits)

same_shifted : (power r s : ℕ) → r < 2 ^ 32 → s < 2 ^ 32 → shifted power r ≡ shifted power s → r ≡ s
same_shifted zero r s r_fits s_fits same = same
same_shifted (suc power) r s r_fits s_fits same =
    same_shifted power r s r_fits s_fits (same_product (shifted power r) (shifted power s) (shifted_fits power r r_fits) (shifted_fits power s s_fits) same)

added_fits : (r byte : ℕ) → r < 2 ^ 32 → byte < 2 ^ 8 → bit_xor r byte < 2 ^ 32
added_fits r byte fits less = xor_lt 32 r byte fits (omega (arith, less))

byte_fits : (r byte : ℕ) → r < 2 ^ 32 → byte < 2 ^ 8 → with_byte r byte < 2 ^ 32
byte_fits r byte fits less = shifted_fits 8 (bit_xor r byte) (added_fits r byte fits less)

same_start : (r s byte : ℕ) → r < 2 ^ 32 → s < 2 ^ 32 → byte < 2 ^ 8 → with_byte r byte ≡ with_byte s byte → r ≡ s
same_start r s byte r_fits s_fits less same =
    same_left r s byte (same_shifted 8 (bit_xor r byte) (bit_xor s byte) (added_fits r byte r_fits less) (added_fits s byte s_fits less) same)

same_byte : (r one other : ℕ) → r < 2 ^ 32 → one < 2 ^ 8 → other < 2 ^ 8 → with_byte r one ≡ with_byte r other → one ≡ other
same_byte r one other fits one_less other_less same =
    same_right one other r (same_shifted 8 (bit_xor r one) (bit_xor r other) (added_fits r one fits one_less) (added_fits r other fits other_less) same)

abbrev AreBytes : List ℕ → Type 0
AreBytes [] = Unit {0}
AreBytes (byte ∷ bytes) = (byte < 2 ^ 8) × AreBytes bytes

are_bytes : (bytes : List ℕ) → All (λ (byte : ℕ). byte < 2 ^ 8) bytes → AreBytes bytes
are_bytes [] all = tt
are_bytes (byte ∷ bytes) all = (all 0 0 (omega arith), are_bytes bytes (λ k d less. all (suc k) d (omega (arith, less))))

remainder_fits : (bytes : List ℕ) (r : ℕ) → r < 2 ^ 32 → AreBytes bytes → fold with_byte r bytes < 2 ^ 32
remainder_fits [] r fits are = fits
remainder_fits (byte ∷ bytes) r fits are = remainder_fits bytes (with_byte r byte) (byte_fits r byte fits are.0) are.1

same_rest : (bytes : List ℕ) (r s : ℕ) → r < 2 ^ 32 → s < 2 ^ 32 → AreBytes bytes → fold with_byte r bytes ≡ fold with_byte s bytes → r ≡ s
same_rest [] r s r_fits s_fits are same = same
same_rest (byte ∷ bytes) r s r_fits s_fits are same =
    same_start r s byte r_fits s_fits are.0
    (same_rest bytes (with_byte r byte) (with_byte s byte) (byte_fits r byte r_fits are.0) (byte_fits s byte s_fits are.0) are.1 same)

one_changed : (before after : List ℕ) (r one other : ℕ) → r < 2 ^ 32 → AreBytes (before ++ one ∷ after) → other < 2 ^ 8
    → fold with_byte r (before ++ one ∷ after) ≡ fold with_byte r (before ++ other ∷ after) → one ≡ other
one_changed [] after r one other fits are less same =
    same_byte r one other fits are.0 less (same_rest after (with_byte r one) (with_byte r other) (byte_fits r one fits are.0) (byte_fits r other fits less) are.1 same)
one_changed (byte ∷ before) after r one other fits are less same = one_changed before after (with_byte r byte) one other (byte_fits r byte fits are.0) are.1 less same

changed_bytes : (before after : List ℕ) (one other : ℕ) → AreBytes (before ++ one ∷ after) → other < 2 ^ 8 → AreBytes (before ++ other ∷ after)
changed_bytes [] after one other are less = (less, are.1)
changed_bytes (byte ∷ before) after one other are less = (are.0, changed_bytes before after one other are.1 less)

pub one_byte : (before after : List ℕ) (one other : ℕ) → All (λ (byte : ℕ). byte < 2 ^ 8) (before ++ one ∷ after) → other < 2 ^ 8 → crc32 (before ++ one ∷ after) ≡ crc32 (before ++ other ∷ after) → one ≡ other
one_byte before after one other all less same =
    let are = are_bytes (before ++ one ∷ after) all in
    let start : 2 ^ 32 - 1 < 2 ^ 32 = omega arith in
    let first = remainder_fits (before ++ one ∷ after) (2 ^ 32 - 1) start are in
    let second = remainder_fits (before ++ other ∷ after) (2 ^ 32 - 1) start (changed_bytes before after one other are less) in
    one_changed before after (2 ^ 32 - 1) one other start are less (omega (arith, first, second, same))
