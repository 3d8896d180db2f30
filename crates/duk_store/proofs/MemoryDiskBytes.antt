-- Lists with others written over a range of them.
use Rattle.std.proofs.Common.{◌≡◌, ◌⊎◌, inl, inr, ℕ, ◌+◌, ◌-◌, ◌<◌, ◌≤◌, List, ◌++◌, length, take, drop, get_or, replicate, Bool, true, false, refl, sym, ◌∙◌, arith, rules}
use Rattle.std.proofs.lemmas.Bool.{cases_lt, false≢true}
use Rattle.std.proofs.lemmas.List.{places, get_or-replicate, get_or_past, length-replicate}
use Rattle.duk_store.specs.MemoryDisk.{marked}

-- the list xs with ys over it from this place on
abbrev pub over : {X : Type 0} → List X → ℕ → ℕ → List X → List X
over xs at count ys = take at xs ++ (ys ++ drop (at + count) xs)

-- this place lies before a range or after it
abbrev pub IsOutside : ℕ → ℕ → ℕ → Type 0
IsOutside at count place = (place < at) ⊎ (at + count ≤ place)

-- this place lies in a range
abbrev pub IsInside : ℕ → ℕ → ℕ → Type 0
IsInside at count place = (at ≤ place) × (place < at + count)

pub inside_or_outside : (at count place : ℕ) → IsInside at count place ⊎ IsOutside at count place
inside_or_outside at count place = elim (cases_lt place at) [
  | inl before ↦ inr (inl before)
  | inr from ↦ elim (cases_lt place (at + count)) [
    | inl to ↦ inl (from, to)
    | inr following ↦ inr (inr following)
  ]
]

pub length_over : {X : Type 0} (xs ys : List X) (at count : ℕ) → at + count ≤ length xs → length ys ≡ count → length (over xs at count ys) ≡ length xs
length_over xs ys at count inside size = grind (arith, places)

pub over_inside : {X : Type 0} (xs ys : List X) (at count place : ℕ) (d : X) → at + count ≤ length xs → length ys ≡ count → IsInside at count place → get_or (over xs at count ys) place d ≡ get_or ys (place - at) d
over_inside xs ys at count place d inside size is_inside = grind (arith, places)

over_before : {X : Type 0} (xs ys : List X) (at count place : ℕ) (d : X) → at + count ≤ length xs → length ys ≡ count → place < at → get_or (over xs at count ys) place d ≡ get_or xs place d
over_before xs ys at count place d inside size before = grind (arith, places)

over_after : {X : Type 0} (xs ys : List X) (at count place : ℕ) (d : X) → at + count ≤ length xs → length ys ≡ count → at + count ≤ place → get_or (over xs at count ys) place d ≡ get_or xs place d
over_after xs ys at count place d inside size following = grind (arith, places)

pub over_outside : {X : Type 0} (xs ys : List X) (at count place : ℕ) (d : X) → at + count ≤ length xs → length ys ≡ count → IsOutside at count place → get_or (over xs at count ys) place d ≡ get_or xs place d
over_outside xs ys at count place d inside size (inl before) = over_before xs ys at count place d inside size before
over_outside xs ys at count place d inside size (inr following) = over_after xs ys at count place d inside size following

pub length_marked : (unsynced : List Bool) (at count : ℕ) → at + count ≤ length unsynced → length (marked at count unsynced) ≡ length unsynced
length_marked unsynced at count inside = grind (arith, places)

marked_inside : (unsynced : List Bool) (at count place : ℕ) → at + count ≤ length unsynced → IsInside at count place → get_or (marked at count unsynced) place false ≡ true
marked_inside unsynced at count place inside is_inside = grind (arith, places, get_or-replicate)

pub marked_outside : (unsynced : List Bool) (at count place : ℕ) → at + count ≤ length unsynced → IsOutside at count place → get_or (marked at count unsynced) place false ≡ get_or unsynced place false
marked_outside unsynced at count place inside outside = over_outside unsynced (replicate count true) at count place false inside (search (rules, places)) outside

pub marked_synced : (unsynced : List Bool) (at count place : ℕ) → at + count ≤ length unsynced → get_or (marked at count unsynced) place false ≡ false → IsOutside at count place × (get_or unsynced place false ≡ false)
marked_synced unsynced at count place inside is_synced = elim (inside_or_outside at count place) [
  | inl is_inside ↦ absurd (false≢true (sym is_synced ∙ marked_inside unsynced at count place inside is_inside))
  | inr outside ↦ (outside, sym (marked_outside unsynced at count place inside outside) ∙ is_synced)
]

pub marked_unsynced : (unsynced : List Bool) (at count place : ℕ) → at + count ≤ length unsynced → get_or (marked at count unsynced) place false ≡ true → IsInside at count place ⊎ (get_or unsynced place false ≡ true)
marked_unsynced unsynced at count place inside is_unsynced = elim (inside_or_outside at count place) [
  | inl is_inside ↦ inl is_inside
  | inr outside ↦ inr (sym (marked_outside unsynced at count place inside outside) ∙ is_unsynced)
]

pub false_or_true : (flag : Bool) → (flag ≡ false) ⊎ (flag ≡ true)
false_or_true false = inl refl
false_or_true true = inr refl

-- flags that are all false, also past their end
pub flag_false : (count place : ℕ) → get_or (replicate count false) place false ≡ false
flag_false count place = elim (cases_lt place count) [
  | inl below ↦ get_or-replicate count place false false below
  | inr past ↦ get_or_past (replicate count false) place false (omega (arith, length-replicate count false))
]
