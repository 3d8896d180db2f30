-- The bit of a mask at a place, as the code reads it.
use Rattle.std.proofs.Common.{◌≡◌, ℕ, zero, suc, ◌-◌, ◌*◌, ◌/◌, ◌%◌, ◌^◌, ◌<◌, ◌==◌, ◌&&◌, ◌||◌, not, Bool, true, false, List, [], ◌∷◌, length, get_or, refl, sym, ap, ap₂, ◌∙◌, inl, inr, arith}
use mathlib.Core.Bool.{xor}
use Rattle.std.proofs.lemmas.Bool.{cases_lt}
use Rattle.std.proofs.lemmas.List.{get_or_append_left, get_or-append_right}
use Rattle.duk_des.specs.Bits.{bits_of, bits_of_bytes}
use Rattle.duk_group.proofs.BitsAndBytes.{length-bits_of}

get_or-bits_of : (count number p : ℕ) → p < count → get_or (bits_of count number) p false ≡ (number / 2 ^ (count - 1 - p) % 2 == 1)
get_or-bits_of zero number p below = absurd (omega arith)
get_or-bits_of (suc count) number zero below = ap (λ n. number / 2 ^ n % 2 == 1) (omega arith)
get_or-bits_of (suc count) number (suc p) below =
    get_or-bits_of count number p (omega arith) ∙ ap (λ n. number / 2 ^ n % 2 == 1) (omega arith)

pub bit_of_mask : (bytes : List ℕ) (p : ℕ) → p < 8 * length bytes
    → get_or (bits_of_bytes bytes) p false ≡ (get_or bytes (p / 8) 0 / 2 ^ (7 - p % 8) % 2 == 1)
bit_of_mask [] p below = absurd (omega arith)
bit_of_mask (byte ∷ bytes) p below =
    elim (cases_lt p 8) [
      | inl first ↦
          let here : p / 8 ≡ 0 = omega arith in
          let place : p % 8 ≡ p = omega arith in
          get_or_append_left (bits_of 8 byte) (bits_of_bytes bytes) false p (omega (arith, length-bits_of 8 byte))
          ∙ get_or-bits_of 8 byte p first
          ∙ ap₂ (λ (k n : ℕ). get_or (byte ∷ bytes) k 0 / 2 ^ (7 - n) % 2 == 1) (sym here) (sym place)
      | inr later ↦
          let next : p / 8 ≡ suc ((p - 8) / 8) = omega arith in
          let place : p % 8 ≡ (p - 8) % 8 = omega arith in
          get_or-append_right (bits_of 8 byte) (bits_of_bytes bytes) 8 p false (length-bits_of 8 byte) later
          ∙ bit_of_mask bytes (p - 8) (omega arith)
          ∙ ap₂ (λ (k n : ℕ). get_or (byte ∷ bytes) k 0 / 2 ^ (7 - n) % 2 == 1) (sym next) (sym place)
    ]

-- one bit or another, as a third says
abbrev pub one_of : Bool → Bool → Bool → Bool
one_of true a b = a
one_of false a b = b

pub gates_choose : (first a b : Bool) → ((a && first) || (b && not first)) ≡ one_of first a b
gates_choose true true b = refl
gates_choose true false true = refl
gates_choose true false false = refl
gates_choose false true true = refl
gates_choose false true false = refl
gates_choose false false true = refl
gates_choose false false false = refl

pub flipped : (a : Bool) → not a ≡ xor a true
unfolding xor
flipped true = refl
flipped false = refl

pub not_flipped : (a : Bool) → a ≡ xor a false
unfolding xor
not_flipped true = refl
not_flipped false = refl
