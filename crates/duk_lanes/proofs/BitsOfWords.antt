-- The bits of words in a lane, where a word is written and where words are xored.
use Rattle.std.proofs.Common.{◌≡◌, ℕ, suc, ◌<◌, ◌≢◌, Bool, false, List, [], ◌∷◌, length, map, get_or, set, refl, ap, ◌∙◌, get_or-set_other, get_or-set_same, arith}
use Rattle.std.specs.Bool.{xor}
use Rattle.std.proofs.lemmas.List.{length-map, map-set}
use Rattle.duk_des.specs.Bits.{xor_bits}

pub both : {X Y Z : Type 0} (f : X → Y → Z) {x a : X} {y b : Y} → x ≡ a → y ≡ b → f x y ≡ f a b
both f {x} {a} {y} {b} e h = ap (λ v. f v y) e ∙ ap (λ v. f a v) h

-- a write leaves the bits of the other words
pub bit_elsewhere : {X : Type 0} (f : X → Bool) (xs : List X) (k j : ℕ) (x : X) → j ≢ k → get_or (map f (set xs k x)) j false ≡ get_or (map f xs) j false
bit_elsewhere f xs k j x other = ap (λ bits. get_or bits j false) (map-set f xs k x) ∙ get_or-set_other (map f xs) k j (f x) false other

pub bit_there : {X : Type 0} (f : X → Bool) (xs : List X) (k : ℕ) (x : X) → k < length xs → get_or (map f (set xs k x)) k false ≡ f x
bit_there f xs k x within =
    ap (λ bits. get_or bits k false) (map-set f xs k x) ∙ get_or-set_same (map f xs) k (f x) false (omega (arith, within, length-map xs f))

-- bits that are the sums of two lists' bits
pub summed : (a b sum : List Bool) → length a ≡ length b → length sum ≡ length a
    → ((k : ℕ) → k < length a → get_or sum k false ≡ xor (get_or a k false) (get_or b k false)) → sum ≡ xor_bits a b
summed [] b [] h long each = refl
summed [] b (s ∷ rest) h long each = absurd (omega arith)
summed (x ∷ xs) [] sum h long each = absurd (omega arith)
summed (x ∷ xs) (y ∷ ys) [] h long each = absurd (omega arith)
summed (x ∷ xs) (y ∷ ys) (s ∷ rest) h long each =
    ap (λ v. v ∷ rest) (each 0 (omega arith))
    ∙ ap (λ v. xor x y ∷ v) (summed xs ys rest (omega arith) (omega arith) (λ k below. each (suc k) (omega arith)))
