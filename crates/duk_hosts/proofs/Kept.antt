-- What is found among things one after the other, and what is not.
use Rattle.std.proofs.Common.{◌≡◌, ℕ, ◌+◌, ◌<◌, ◌≤◌, List, [], ◌∷◌, ◌++◌, ◌∙◌, Contains, ap, flat_map, get_or, inl, inr, length, subst, sym, take}
use Rattle.std.proofs.lemmas.List.{take_all, take_more}
use Rattle.duk_hosts.proofs.Members.{end_or, flat_from, flat_in}

-- none of these is one of a kind
abbrev pub NoneIs : {A : Type 0} → (A → Type 0) → List A → Type 0
NoneIs {A} Is things = (thing : A) → Contains things thing → ¬ Is thing

pub none_more : {A : Type 0} (Is : A → Type 0) (things : List A) (i : ℕ) (thing : A) → i < length things → thing ≡ get_or things i thing → NoneIs Is (take i things) → (¬ Is thing) → NoneIs Is (take (i + 1) things)
none_more Is things i thing within is none not =
    subst (NoneIs Is) (sym (take_more things i thing within ∙ ap (λ it. take i things ++ it ∷ []) (sym is)))
    (λ other is_in. elim (end_or (take i things) thing other is_in) [
      | inl before ↦ none other before
      | inr same ↦ subst (λ it. ¬ Is it) (sym same) not
    ])

pub none_at_all : {A : Type 0} (Is : A → Type 0) (things : List A) (i : ℕ) → length things ≤ i → NoneIs Is (take i things) → NoneIs Is things
none_at_all Is things i all none = subst (NoneIs Is) (take_all i things all) none

pub is_among : {A : Type 0} (things : List A) (i : ℕ) (thing : A) → i < length things → thing ≡ get_or things i thing → Contains things thing
is_among things i thing within is = (i, within, sym is)

-- of lists of which each thing has one
pub one_has : {A B : Type 0} (f : A → List B) (things : List A) (i : ℕ) (thing : A) (other : B) → i < length things → thing ≡ get_or things i thing → Contains (f thing) other → Contains (flat_map f things) other
one_has f things i thing other within is has = flat_in f things thing other (is_among things i thing within is) has

pub none_has : {A B : Type 0} (f : A → List B) (things : List A) (other : B) → NoneIs (λ thing. Contains (f thing) other) things → ¬ Contains (flat_map f things) other
none_has f things other none has = let from = flat_from f things other has in none from.0 from.1 from.2
