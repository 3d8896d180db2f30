-- The bits of a sum modulo 2, one by one.
use Rattle.std.proofs.Common.{◌≡◌, ℕ, zero, suc, ◌<◌, Bool, false, List, [], ◌∷◌, length, get_or, refl, ap, arith}
use Rattle.std.specs.Bool.{xor}
use Rattle.duk_des.specs.Bits.{xor_bits}

pub length-xor_bits : (a b : List Bool) → length a ≡ length b → length (xor_bits a b) ≡ length a
length-xor_bits [] b h = refl
length-xor_bits (x ∷ xs) [] h = absurd (omega arith)
length-xor_bits (x ∷ xs) (y ∷ ys) h = ap suc (length-xor_bits xs ys (omega arith))

pub get_or-xor_bits : (a b : List Bool) (k : ℕ) → length a ≡ length b → k < length a → get_or (xor_bits a b) k false ≡ xor (get_or a k false) (get_or b k false)
get_or-xor_bits [] b k h below = absurd (omega arith)
get_or-xor_bits (x ∷ xs) [] k h below = absurd (omega arith)
get_or-xor_bits (x ∷ xs) (y ∷ ys) zero h below = refl
get_or-xor_bits (x ∷ xs) (y ∷ ys) (suc k) h below = get_or-xor_bits xs ys k (omega arith) (omega arith)
