-- Things and stations in their places.
use Rattle.std.proofs.Common.{◌≡◌, ◌≢◌, ◌⊎◌, ◌+◌, ◌<◌, ℕ, List, [], ◌∷◌, zero, suc, All, Some, Contains, get_or, length, inl, inr, ap, refl, sym, subst, ◌∙◌, arith}
use Rattle.std.proofs.lemmas.List.{length-set}
use Rattle.std.proofs.lemmas.Option.{get_or_from_slice_get, slice_get-get_or, slice_get_within}
use Rattle.std.specs.List.{slice_get, slice_index_or, slice_set}
use Rattle.duk_stations.specs.Places.{ChangesOnly, HasNone, HasOne, IsAt}

-- what stands at a place within a list
pub stands_at : {A : Type 0} (things : List A) (place : ℕ) (thing : A) → place < length things → thing ≡ slice_index_or things place thing → slice_get things place ≡ Some thing
stands_at [] place thing within is = absurd (omega (arith, within))
stands_at (first ∷ things) zero thing within is = ap Some (sym is)
stands_at (first ∷ things) (suc place) thing within is = stands_at things place thing (omega (arith, within)) is

-- where a list has so many things, one of them is found
pub is_at : {A : Type 0} (things : List A) (number place count : ℕ) (thing : A) → number ≡ place + 1 → place < count → count ≡ length things → thing ≡ slice_index_or things place thing → IsAt things number thing
is_at things number place count thing number_is within counted is = record {
  place = place;
  number_is = number_is;
  thing_is = stands_at things place thing (subst (λ n. place < n) counted within) is;
}

-- what has a number in a list stands in it
pub at_contains : {A : Type 0} (things : List A) (number : ℕ) (thing : A) → IsAt things number thing → Contains things thing
at_contains things number thing at = (at.place, slice_get_within things at.place thing at.thing_is, get_or_from_slice_get things at.place thing thing at.thing_is)

-- what holds of each thing by its number holds of all
pub all_at : {A : Type 0} (P : A → Type 0) (things : List A) → ((number : ℕ) (thing : A) → IsAt things number thing → P thing) → All P things
all_at P things each place default within =
    each (place + 1) (get_or things place default) (record { place = place; number_is = refl; thing_is = slice_get-get_or things place default within })

-- a list of so many things has one of this number
pub has_one : {A : Type 0} (things : List A) (number place count : ℕ) → number ≡ place + 1 → place < count → count ≡ length things → HasOne things number
has_one things number place count number_is within counted = record { place = place; number_is = number_is; within = subst (λ n. place < n) counted within }

-- one that is there is not missing
pub not_missing : {A : Type 0} (things : List A) (number : ℕ) → HasOne things number → ¬ HasNone things number
not_missing things number one (inl none) = omega (arith, none, one.number_is)
not_missing things number one (inr past) = omega (arith, past, one.number_is, one.within)

-- the thing at a place changes
pub changes_at : {A : Type 0} (t place count : ℕ) (change : A → A → Type 0) (old : List A) (before after : A)
    → t ≡ place + 1 → place < count → count ≡ length old → before ≡ slice_index_or old place before → change before after
    → ChangesOnly t change old (slice_set old place after)
changes_at t place count change old before after number_is within counted is changed = record {
  place = place;
  before = before;
  after = after;
  number_is = number_is;
  was = stands_at old place before (subst (λ n. place < n) counted within) is;
  changed = changed;
  others = refl;
}

-- ---- one station changes

module _ {A : Type 0} (t : ℕ) (P : A → A → Type 0) (old new : List A) (change : ChangesOnly t P old new) where
  -- in another way too, that follows
  abbrev pub changes_as : (Q : A → A → Type 0) → (P change.before change.after → Q change.before change.after) → ChangesOnly t Q old new
  changes_as Q follows = record {
    place = change.place;
    before = change.before;
    after = change.after;
    number_is = change.number_is;
    was = change.was;
    changed = follows change.changed;
    others = change.others;
  }

  -- it stood there before
  pub before_at : IsAt old t change.before
  before_at = record { place = change.place; number_is = change.number_is; thing_is = change.was }

  -- there are as many, and one that is there stays
  pub as_many : length new ≡ length old
  as_many = ap length change.others ∙ length-set old change.place change.after

  pub stays_there : (u : ℕ) → HasOne old u → HasOne new u
  stays_there u one = record { place = one.place; number_is = one.number_is; within = subst (λ n. one.place < n) (sym as_many) one.within }

-- a list in which a thing is put where it stood is the same list
put_back : {A : Type 0} (things : List A) (place : ℕ) (thing : A) → slice_get things place ≡ Some thing → slice_set things place thing ≡ things
put_back [] place thing is = refl
put_back (first ∷ things) zero thing is = grind (arith, is)
put_back (first ∷ things) (suc place) thing is = ap (λ rest. first ∷ rest) (put_back things place thing is)

-- where it stays as it was, so do all
pub goes_nowhere : {A : Type 0} (t : ℕ) (P : A → A → Type 0) (old new : List A) (change : ChangesOnly t P old new) → change.after ≡ change.before → new ≡ old
goes_nowhere t P old new change same = change.others ∙ ap (λ thing. slice_set old change.place thing) same ∙ put_back old change.place change.before change.was

-- what stands in a list where a thing was put at a place: that thing there, and elsewhere what stood there
at_set : {A : Type 0} (things : List A) (place other : ℕ) (before after thing : A) → slice_get things place ≡ Some before → slice_get (slice_set things place after) other ≡ Some thing
    → ((other ≡ place) × (thing ≡ after)) ⊎ ((other ≢ place) × (slice_get things other ≡ Some thing))
at_set [] place other before after thing was is = grind (arith, was)
at_set (first ∷ things) zero zero before after thing was is = inl (refl, grind (arith, is))
at_set (first ∷ things) zero (suc other) before after thing was is = inr ((λ same. omega (arith, same)), is)
at_set (first ∷ things) (suc place) zero before after thing was is = inr ((λ same. omega (arith, same)), is)
at_set (first ∷ things) (suc place) (suc other) before after thing was is = elim (at_set things place other before after thing was is) [
  | inl same ↦ inl (ap suc same.0, same.1)
  | inr apart ↦ inr ((λ same. apart.0 (omega (arith, same))), apart.1)
]

-- each station then is that one, as it then is, or another one, as it was
pub after_at : {A : Type 0} (t : ℕ) (P : A → A → Type 0) (old new : List A) (change : ChangesOnly t P old new) (u : ℕ) (thing : A) → IsAt new u thing
    → ((u ≡ t) × (thing ≡ change.after)) ⊎ ((u ≢ t) × IsAt old u thing)
after_at t P old new change u thing at =
    let found = at_set old change.place at.place change.before change.after thing change.was (subst (λ list. slice_get list at.place ≡ Some thing) change.others at.thing_is) in
    elim found [
      | inl same ↦ inl (at.number_is ∙ ap (λ n. n + 1) same.0 ∙ sym change.number_is, same.1)
      | inr apart ↦ inr ((λ same. apart.0 (omega (arith, same, at.number_is, change.number_is))), record { place = at.place; number_is = at.number_is; thing_is = apart.1 })
    ]

-- what holds of each by its number holds of each then, where it still does of the others and does of that one
pub each_after : {A : Type 0} (t : ℕ) (P : A → A → Type 0) (old new : List A) (change : ChangesOnly t P old new) (Q R : ℕ → A → Type 0)
    → ((u : ℕ) (thing : A) → IsAt old u thing → Q u thing) → ((u : ℕ) (thing : A) → u ≢ t → Q u thing → R u thing) → R t change.after
    → (u : ℕ) (thing : A) → IsAt new u thing → R u thing
each_after t P old new change Q R each beside now u thing at = elim (after_at t P old new change u thing at) [
  | inl same ↦ subst (λ u. R u thing) (sym same.0) (subst (R t) (sym same.1) now)
  | inr apart ↦ beside u thing apart.0 (each u thing apart.1)
]
