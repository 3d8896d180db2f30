-- Members of lists, and of what is made of them.
use Rattle.std.proofs.Common.{◌≡◌, ◌⊎◌, zero, suc, List, [], ◌∷◌, ◌++◌, Contains, flat_map, map, inl, inr, refl, sym, ap, subst, ◌∙◌, arith}
use Rattle.std.proofs.lemmas.List.{append-nil}
use Rattle.std.proofs.lemmas.List.Concat.{flat_map-append}
use Rattle.std.proofs.lemmas.List.Elements.{Contains-append_cases, Contains-append_left, Contains-append_right}

pub none_in : {A : Type 0} (thing : A) → ¬ Contains [] thing
none_in thing (k, within, is) = omega (arith, within)

pub the_only : {A : Type 0} (thing other : A) → Contains (thing ∷ []) other → other ≡ thing
the_only thing other (zero, within, is) = sym is
the_only thing other (suc k, within, is) = absurd (omega (arith, within))

pub the_one : {A : Type 0} (thing : A) → Contains (thing ∷ []) thing
the_one thing = (0, omega arith, refl)

-- a member of a list with one thing in front is that thing or was one
pub front_or : {A : Type 0} (first : A) (things : List A) (other : A) → Contains (first ∷ things) other → (other ≡ first) ⊎ Contains things other
front_or first things other contains = elim (Contains-append_cases (first ∷ []) things other contains) [
  | inl is ↦ inl (the_only first other is)
  | inr rest ↦ inr rest
]

-- a member of a list with one thing at its end was one or is that thing
pub end_or : {A : Type 0} (things : List A) (last other : A) → Contains (things ++ last ∷ []) other → Contains things other ⊎ (other ≡ last)
end_or things last other contains = elim (Contains-append_cases things (last ∷ []) other contains) [
  | inl before ↦ inl before
  | inr end ↦ inr (the_only last other end)
]

pub first_in : {A : Type 0} (first : A) (things : List A) → Contains (first ∷ things) first
first_in first things = Contains-append_left (first ∷ []) things first (the_one first)

pub later_in : {A : Type 0} (first : A) (things : List A) (other : A) → Contains things other → Contains (first ∷ things) other
later_in first things other is_in = Contains-append_right (first ∷ []) things other is_in

-- ---- lists of which each thing of a list has one

pub flat_in : {A B : Type 0} (f : A → List B) (things : List A) (thing : A) (other : B) → Contains things thing → Contains (f thing) other → Contains (flat_map f things) other
flat_in f [] thing other is_in has = absurd (none_in thing is_in)
flat_in f (first ∷ things) thing other is_in has = elim (front_or first things thing is_in) [
  | inl is ↦ Contains-append_left (f first) (flat_map f things) other (subst (λ thing. Contains (f thing) other) is has)
  | inr later ↦ Contains-append_right (f first) (flat_map f things) other (flat_in f things thing other later has)
]

pub flat_from : {A B : Type 0} (f : A → List B) (things : List A) (other : B) → Contains (flat_map f things) other → (thing : A) × Contains things thing × Contains (f thing) other
flat_from f [] other contains = absurd (none_in other contains)
flat_from f (first ∷ things) other contains = elim (Contains-append_cases (f first) (flat_map f things) other contains) [
  | inl here ↦ (first, first_in first things, here)
  | inr later ↦ let rest = flat_from f things other later in (rest.0, later_in first things rest.0 rest.1, rest.2)
]

-- that of one thing more
pub flat_end : {A B : Type 0} (f : A → List B) (things : List A) (last : A) → flat_map f (things ++ last ∷ []) ≡ flat_map f things ++ f last
flat_end f things last = flat_map-append f things (last ∷ []) ∙ ap (λ more. flat_map f things ++ more) (append-nil (f last))

-- a member of a list of things is made of one
pub made_of : {A B : Type 0} (f : A → B) (things : List A) (other : B) → Contains (map f things) other → (thing : A) × Contains things thing × (other ≡ f thing)
made_of f [] other contains = absurd (none_in other contains)
made_of f (first ∷ things) other contains = elim (front_or (f first) (map f things) other contains) [
  | inl is ↦ (first, first_in first things, is)
  | inr later ↦ let rest = made_of f things other later in (rest.0, later_in first things rest.0 rest.1, rest.2)
]

pub map_join : {A B : Type 0} (f : A → B) (things more : List A) → map f (things ++ more) ≡ map f things ++ map f more
map_join f [] more = refl
map_join f (first ∷ things) more = ap (λ rest. f first ∷ rest) (map_join f things more)

pub map_in : {A B : Type 0} (f : A → B) (things : List A) (thing : A) → Contains things thing → Contains (map f things) (f thing)
map_in f [] thing is_in = absurd (none_in thing is_in)
map_in f (first ∷ things) thing is_in = elim (front_or first things thing is_in) [
  | inl same ↦ subst (λ it. Contains (f first ∷ map f things) (f it)) (sym same) (first_in (f first) (map f things))
  | inr later ↦ later_in (f first) (map f things) (f thing) (map_in f things thing later)
]
