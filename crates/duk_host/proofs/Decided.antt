-- What can be decided, and what can be found among finitely many.
use Rattle.std.proofs.Common.{◌≡◌, ◌≤◌, ◌<◌, ◌⊎◌, ℕ, zero, suc, Bool, true, false, List, [], ◌∷◌, length, All, Contains, Decides, bytes_eq, inl, inr, refl, subst, arith}
use Rattle.std.proofs.lemmas.Bool.Decides.{eqb_tells, leb_tells, not_from_Decides}
use Rattle.std.proofs.lemmas.List.Elements.{All-cons, All-head, All-nil, All-tail, Contains-append_right}
use Rattle.std.proofs.lemmas.Map.Made.{Contains-tail}
use Rattle.std.proofs.lemmas.Slice.Eq.{bytes_eq-Decides}

-- it holds, or does not
abbrev pub Decided : Type 0 → Type 0
Decided P = P ⊎ ¬ P

pub both : {P Q : Type 0} → Decided P → Decided Q → Decided (P × Q)
both (inl one) (inl two) = inl (one, two)
both (inl one) (inr not) = inr (λ all. not all.1)
both (inr not) two = inr (λ all. not all.0)

pub like : {P Q : Type 0} → (P → Q) → (Q → P) → Decided P → Decided Q
like to from (inl holds) = inl (to holds)
like to from (inr not) = inr (λ holds. not (from holds))

pub by_test : {P : Type 0} (test : Bool) → Decides test P → Decided P
by_test true decides = inl (decides.0 refl)
by_test false decides = inr (not_from_Decides false decides refl)

pub equal : (a b : ℕ) → Decided (a ≡ b)
equal a b = elim (eqb_tells a b) [
  | inl is ↦ inl is.1
  | inr not ↦ inr not.1
]

pub at_most : (a b : ℕ) → Decided (a ≤ b)
at_most a b = elim (leb_tells a b) [
  | inl is ↦ inl is.1
  | inr not ↦ inr (λ le. omega (arith, le, not.1))
]

pub less : (a b : ℕ) → Decided (a < b)
less a b = at_most (suc a) b

pub same_list : (one other : List ℕ) → Decided (one ≡ other)
same_list one other = by_test (bytes_eq one other) (bytes_eq-Decides one other)

pub each_of : (P : ℕ → Type 0) → ((x : ℕ) → Decided (P x)) → (xs : List ℕ) → Decided (All P xs)
each_of P decided [] = inl (All-nil P)
each_of P decided (x ∷ xs) = like (λ all. All-cons P x xs all.0 all.1) (λ all. (All-head P x xs all, All-tail P x xs all)) (both (decided x) (each_of P decided xs))

pub is_among : {X : Type 0} → ((a b : X) → Decided (a ≡ b)) → (xs : List X) (x : X) → Decided (Contains xs x)
is_among same [] x = inr (λ found. let lt = found.1 in omega (arith, lt))
is_among same (first ∷ xs) x = elim (same first x) [
  | inl is ↦ inl (0, omega arith, is)
  | inr apart ↦ like (λ found. Contains-append_right (first ∷ []) xs x found) (λ found. Contains-tail first xs x apart found) (is_among same xs x)
]

-- a number below a bound of which this holds
pub record Below (bound : ℕ) (P : ℕ → Type 0) : Type 0 where
  pub number : ℕ
  pub below : number < bound
  pub holds : P number

one_less : (P : ℕ → Type 0) (bound : ℕ) → ¬ P bound → Below (suc bound) P → Below bound P
one_less P bound not found = elim (equal found.number bound) [
  | inl is ↦ absurd (not (subst P is found.holds))
  | inr apart ↦ record { number = found.number; below = omega (arith, apart, found.below); holds = found.holds }
]

pub below : (P : ℕ → Type 0) → ((n : ℕ) → Decided (P n)) → (bound : ℕ) → Decided (Below bound P)
below P decided zero = inr (λ found. omega (arith, found.below))
below P decided (suc bound) = elim (decided bound) [
  | inl holds ↦ inl (record { number = bound; below = omega arith; holds = holds })
  | inr not ↦ like (λ found. record { number = found.number; below = omega (arith, found.below); holds = found.holds }) (one_less P bound not) (below P decided bound)
]

-- a list of so many numbers below a bound of which this holds
pub record ListOf (bound count : ℕ) (P : List ℕ → Type 0) : Type 0 where
  pub list : List ℕ
  pub counted : length list ≡ count
  pub each : All (λ x. x < bound) list
  pub holds : P list

none_but_nil : (bound : ℕ) (P : List ℕ → Type 0) → ¬ P [] → (list : List ℕ) → length list ≡ 0 → P list → ⊥
none_but_nil bound P not [] counted holds = not holds
none_but_nil bound P not (x ∷ xs) counted holds = absurd (omega (arith, counted))

with_first : (bound count : ℕ) (P : List ℕ → Type 0) → Below bound (λ x. ListOf bound count (λ xs. P (x ∷ xs))) → ListOf bound (suc count) P
with_first bound count P found = record {
  list = found.number ∷ found.holds.list;
  counted = omega (arith, found.holds.counted);
  each = All-cons (λ x. x < bound) found.number found.holds.list found.below found.holds.each;
  holds = found.holds.holds;
}

first_of : (bound count : ℕ) (P : List ℕ → Type 0) → (list : List ℕ) → length list ≡ suc count → All (λ x. x < bound) list → P list → Below bound (λ x. ListOf bound count (λ xs. P (x ∷ xs)))
first_of bound count P [] counted each holds = absurd (omega (arith, counted))
first_of bound count P (x ∷ xs) counted each holds = record {
  number = x;
  below = All-head (λ x. x < bound) x xs each;
  holds = record { list = xs; counted = omega (arith, counted); each = All-tail (λ x. x < bound) x xs each; holds = holds };
}

pub lists : (bound count : ℕ) (P : List ℕ → Type 0) → ((xs : List ℕ) → Decided (P xs)) → Decided (ListOf bound count P)
lists bound zero P decided = elim (decided []) [
  | inl holds ↦ inl (record { list = []; counted = refl; each = All-nil (λ x. x < bound); holds = holds })
  | inr not ↦ inr (λ found. none_but_nil bound P not found.list found.counted found.holds)
]
lists bound (suc count) P decided =
    like (with_first bound count P) (λ found. first_of bound count P found.list found.counted found.each found.holds)
    (below (λ x. ListOf bound count (λ xs. P (x ∷ xs))) (λ x. lists bound count (λ xs. P (x ∷ xs)) (λ xs. decided (x ∷ xs))) bound)

-- a list of fewer numbers than so many
pub short_lists : (bound most : ℕ) (P : List ℕ → Type 0) → ((xs : List ℕ) → Decided (P xs)) → Decided (Below most (λ count. ListOf bound count P))
short_lists bound most P decided = below (λ count. ListOf bound count P) (λ count. lists bound count P decided) most
