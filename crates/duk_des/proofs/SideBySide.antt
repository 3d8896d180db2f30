-- Lists side by side, each written out in its elements.
use Rattle.std.proofs.Common.{◌≡◌, ℕ, Bool, false, List, ◌∷◌, ◌++◌, ap, ◌∙◌}
use Rattle.duk_des.proofs.LiteralLists.{spelled}

pub appended : (count : ℕ) {a b rest bits : List Bool} → a ≡ b → rest ≡ bits → spelled false count 0 a ++ rest ≡ spelled false count 0 b ++ bits
appended count {a} {b} {rest} {bits} e h = ap (λ v. spelled false count 0 v ++ rest) e ∙ ap (λ v. spelled false count 0 b ++ v) h

pub consed : {X : Type 0} {x y : X} {xs ys : List X} → x ≡ y → xs ≡ ys → x ∷ xs ≡ y ∷ ys
consed {X} {x} {y} {xs} {ys} e h = ap (λ v. v ∷ xs) e ∙ ap (λ v. y ∷ v) h

pub both : {X Y Z : Type 0} (f : X → Y → Z) {x a : X} {y b : Y} → x ≡ a → y ≡ b → f x y ≡ f a b
both f {x} {a} {y} {b} e h = ap (λ v. f v y) e ∙ ap (λ v. f a v) h
