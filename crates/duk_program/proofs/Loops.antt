-- A loop's step over a list that is mapped.
use Rattle.std.proofs.Common.{◌≡◌, ◌<◌, ◌∷◌, ◌∙◌, ◌++◌, [], ℕ, Bool, List, ap, ap₂, drop, filter, get_or, length, map, refl, suc, sym, take, true}
use Rattle.std.proofs.Math.Seq.{drop-cons}
use Rattle.std.proofs.lemmas.List.{map-append, take-append-drop}
use Rattle.std.proofs.lemmas.List.Elements.{filter-append}
use Rattle.std.proofs.lemmas.List.Folds.{list_any_at}
use Rattle.std.specs.List.{list_any}
use Rattle.clap.proofs.WalkLemmas.{list_any-map}

pub any_mapped : {A B : Type 0} (f : A → B) (p : B → Bool) (xs : List A) (i : ℕ) (d : A) → i < length xs
    → p (f (get_or xs i d)) ≡ true → list_any p (map f xs) ≡ true
any_mapped {A} {B} f p xs i d within passes =
    sym (list_any-map p f xs) ∙ list_any_at (λ x. p (f x)) xs i d within passes

-- the first that passes
pub first_mapped : {A B : Type 0} (f : A → B) (p : B → Bool) (xs : List A) (i : ℕ) (d : A) → i < length xs
    → filter p (map f (take i xs)) ≡ [] → p (f (get_or xs i d)) ≡ true
    → filter p (map f xs) ≡ f (get_or xs i d) ∷ filter p (map f (drop (suc i) xs))
first_mapped {A} {B} f p xs i d within none passes =
    ap (λ (ys : List A). filter p (map f ys)) (sym (take-append-drop i xs))
    ∙ ap (filter p) (map-append f (take i xs) (drop i xs))
    ∙ filter-append p (map f (take i xs)) (map f (drop i xs))
    ∙ ap₂ (λ (front : List B) (back : List A). front ++ filter p (map f back)) none (drop-cons xs i d within)
    ∙ rw passes refl
