-- Marks of the numbers that are issued.
use Rattle.std.proofs.Common.{◌≡◌, ◌≢◌, ◌⊎◌, inl, inr, ◌+◌, ◌<◌, ℕ, zero, suc, Bool, true, false, List, [], ◌∷◌, All, Contains, length, get_or, drop, refl, sym, subst, arith, drop-cons}
use Rattle.std.specs.List.{AllPairs}
use Rattle.std.proofs.lemmas.List.Kept.{AllPairs-cons}
use Rattle.duk_ledger.specs.Issued.{Issues}
use Rattle.duk_commands.specs.Ledger.{AreNew}
use Rattle.duk_commands.specs.Numbers.{iksn_at}
use Rattle.duk_commands.specs.inner.Marks.{AreMarked, IsMarkedAlso, unmarked}
use Rattle.duk_commands.proofs.Members.{all_members, first_in, later_in, member_cases, none_in}

-- a number without a place changes no mark
pub no_mark : (marks : List Bool) (first iksn : ℕ) → ((p : ℕ) → p < length marks → iksn ≢ iksn_at first p) → IsMarkedAlso marks marks first iksn
no_mark marks first iksn none = record {
  size = refl;
  marked = λ p within. (λ was. inl was, elim [ inl was ↦ was | inr is ↦ absurd (none p within is) ]);
}

-- the places without a mark from a place on, by the mark there
pub after_marked : (marks : List Bool) (place : ℕ) → place < length marks → get_or marks place false ≡ true → unmarked (drop place marks) place ≡ unmarked (drop (place + 1) marks) (place + 1)
after_marked marks place inside marked =
    let next : place + 1 ≡ suc place = omega arith in
    rw (drop-cons marks place false inside, marked, next) refl

pub after_unmarked : (marks : List Bool) (place : ℕ) → place < length marks → get_or marks place false ≡ false → unmarked (drop place marks) place ≡ place ∷ unmarked (drop (place + 1) marks) (place + 1)
after_unmarked marks place inside clear =
    let next : place + 1 ≡ suc place = omega arith in
    rw (drop-cons marks place false inside, clear, next) refl

true_or_false : (b : Bool) → (b ≡ true) ⊎ (b ≡ false)
true_or_false true = inl refl
true_or_false false = inr refl

not_both : (b : Bool) → b ≡ true → b ≡ false → ⊥
not_both b is_true is_false = cc

-- the places without a mark are those without a mark
clear_in : (marks : List Bool) (start k : ℕ) → k < length marks → get_or marks k false ≡ false → Contains (unmarked marks start) (start + k)
clear_in [] start k inside clear = absurd (omega (arith, inside))
clear_in (true ∷ marks) start zero inside clear = absurd (not_both true refl clear)
clear_in (true ∷ marks) start (suc k) inside clear =
    let same : suc start + k ≡ start + suc k = omega arith in
    subst (λ p. Contains (unmarked marks (suc start)) p) same (clear_in marks (suc start) k (omega (arith, inside)) clear)
clear_in (false ∷ marks) start zero inside clear =
    let same : start ≡ start + 0 = omega arith in
    subst (λ p. Contains (start ∷ unmarked marks (suc start)) p) same (first_in start (unmarked marks (suc start)))
clear_in (false ∷ marks) start (suc k) inside clear =
    let same : suc start + k ≡ start + suc k = omega arith in
    later_in start (unmarked marks (suc start)) (start + suc k) (subst (λ p. Contains (unmarked marks (suc start)) p) same (clear_in marks (suc start) k (omega (arith, inside)) clear))

-- a place without a mark
record IsClear (marks : List Bool) (start p : ℕ) : Type 0 where
  k : ℕ
  inside : k < length marks
  clear : get_or marks k false ≡ false
  place_is : p ≡ start + k

one_further : (mark : Bool) (marks : List Bool) (start p : ℕ) → IsClear marks (suc start) p → IsClear (mark ∷ marks) start p
one_further mark marks start p is = record { k = suc is.k; inside = omega (arith, is.inside); clear = is.clear; place_is = omega (arith, is.place_is) }

clear_of : (marks : List Bool) (start p : ℕ) → Contains (unmarked marks start) p → IsClear marks start p
clear_of [] start p is_in = absurd (none_in p is_in)
clear_of (true ∷ marks) start p is_in = one_further true marks start p (clear_of marks (suc start) p is_in)
clear_of (false ∷ marks) start p is_in = elim (member_cases start (unmarked marks (suc start)) p is_in) [
  | inl is ↦ record { k = 0; inside = omega arith; clear = refl; place_is = omega (arith, is) }
  | inr later ↦ one_further false marks start p (clear_of marks (suc start) p later)
]

in_order : (marks : List Bool) (start : ℕ) → AllPairs (λ earlier later. earlier < later) (unmarked marks start)
in_order [] start = λ i j d before within. absurd (omega (arith, within))
in_order (true ∷ marks) start = in_order marks (suc start)
in_order (false ∷ marks) start =
    AllPairs-cons (λ earlier later. earlier < later) start (unmarked marks (suc start))
    (all_members (λ later. start < later) (unmarked marks (suc start)) (λ later is_in. let is = clear_of marks (suc start) later is_in in omega (arith, is.place_is)))
    (in_order marks (suc start))

-- they are places of the order
pub inside_order : (count : ℕ) (marks : List Bool) → length marks ≡ count → All (λ place. place < count) (unmarked marks 0)
inside_order count marks size =
    all_members (λ place. place < count) (unmarked marks 0) (λ place is_in. let is = clear_of marks 0 place is_in in omega (arith, is.place_is, is.inside, size))

-- and those whose numbers are not issued
pub new_places : (issues : Issues) (first count : ℕ) (marks : List Bool) → length marks ≡ count → AreMarked issues first marks → AreNew issues first count (unmarked marks 0)
new_places issues first count marks size marked = record {
  members = λ place. (
    λ is_in.
        let is = clear_of marks 0 place is_in in
        let same : place ≡ is.k = omega (arith, is.place_is) in
        let clear : get_or marks place false ≡ false = subst (λ k. get_or marks k false ≡ false) (sym same) is.clear in (
          omega (arith, same, is.inside, size),
          λ issued. not_both (get_or marks place false) ((marked place (omega (arith, same, is.inside))).1 issued) clear,
        ),
    λ is_new. elim (true_or_false (get_or marks place false)) [
      | inl set ↦ absurd (is_new.1 ((marked place (omega (arith, is_new.0, size))).0 set))
      | inr clear ↦
          let same : 0 + place ≡ place = omega arith in
          subst (λ p. Contains (unmarked marks 0) p) same (clear_in marks 0 place (omega (arith, is_new.0, size)) clear)
    ],
  );
  in_order = in_order marks 0;
}
