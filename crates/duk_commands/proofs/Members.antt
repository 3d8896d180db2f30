-- Members of lists.
use Rattle.std.proofs.Common.{◌≡◌, ◌<◌, ◌⊎◌, inl, inr, ℕ, zero, suc, List, [], ◌∷◌, ◌++◌, Contains, length, get_or, refl, arith}
use Rattle.std.specs.List.{All, AllPairs}
use Rattle.std.proofs.lemmas.List.Elements.{All-append}
use Rattle.std.proofs.lemmas.List.Kept.{AllPairs-cons}

pub none_in : {A : Type 0} (thing : A) → ¬ Contains [] thing
none_in thing (k, within, is) = omega (arith, within)

pub first_in : {A : Type 0} (thing : A) (things : List A) → Contains (thing ∷ things) thing
first_in thing things = (0, omega arith, refl)

pub later_in : {A : Type 0} (first : A) (things : List A) (thing : A) → Contains things thing → Contains (first ∷ things) thing
later_in first things thing (k, within, is) = (suc k, omega (arith, within), is)

pub member_at : {A : Type 0} (things : List A) (k : ℕ) (d : A) → k < length things → Contains things (get_or things k d)
member_at [] k d within = absurd (omega (arith, within))
member_at (thing ∷ things) zero d within = first_in thing things
member_at (thing ∷ things) (suc k) d within = later_in thing things (get_or things k d) (member_at things k d (omega (arith, within)))

-- a member of a list is the first, or one of the others
pub member_cases : {A : Type 0} (first : A) (things : List A) (thing : A) → Contains (first ∷ things) thing → (first ≡ thing) ⊎ Contains things thing
member_cases first things thing (zero, within, is) = inl is
member_cases first things thing (suc k, within, is) = inr (k, omega (arith, within), is)

-- what all members meet
pub all_members : {A : Type 0} (P : A → Type 0) (things : List A) → ((thing : A) → Contains things thing → P thing) → All P things
all_members P things each k d within = each (get_or things k d) (member_at things k d within)

-- pairs of two lists, one after the other
pub pairs_append : {A : Type 0} (R : A → A → Type 0) (first second : List A) → AllPairs R first → AllPairs R second
    → ((one other : A) → Contains first one → Contains second other → R one other) → AllPairs R (first ++ second)
pairs_append R [] second a b across = b
pairs_append R (thing ∷ first) second a b across =
    AllPairs-cons R thing (first ++ second)
    (All-append (R thing) first second (λ k d within. a 0 (suc k) d (omega arith) (omega (arith, within))) (all_members (R thing) second (λ other is_in. across thing other (first_in thing first) is_in)))
    (pairs_append R first second (λ i j d before within. a (suc i) (suc j) d (omega (arith, before)) (omega (arith, within))) b (λ one other is_in. across one other (later_in thing first one is_in)))
