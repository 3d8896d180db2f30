-- A loop's step over a list that is mapped.
use Rattle.std.proofs.Common.{◌≡◌, ◌<◌, ◌∷◌, ◌∙◌, ◌++◌, [], ℕ, Bool, List, ap, ap₂, drop, filter, get_or, length, map, refl, suc, sym, take, true}
use Rattle.std.proofs.Math.Seq.{drop-cons}
use Rattle.std.proofs.lemmas.List.{map-append, take-append-drop}
use Rattle.std.proofs.lemmas.List.Elements.{filter-append}

-- the first that passes
pub first_mapped : {A B : Type 0} (f : A → B) (p : B → Bool) (xs : List A) (i : ℕ) (d : A) → i < length xs
    → filter p (map f (take i xs)) ≡ [] → p (f (get_or xs i d)) ≡ true
    → filter p (map f xs) ≡ f (get_or xs i d) ∷ filter p (map f (drop (suc i) xs))
first_mapped {A} {B} f p xs i d within none passes =
    ap (λ (ys : List A). filter p (map f ys)) (sym (take-append-drop i xs))
    ∙ ap (filter p) (map-append f (take i xs) (drop i xs))
    ∙ filter-append p (map f (take i xs)) (map f (drop i xs))
    ∙ ap₂ (λ (front : List B) (back : List A). front ++ filter p (map f back)) none (drop-cons xs i d within)
    ∙ rw passes refl
