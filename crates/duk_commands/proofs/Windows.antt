-- The counters that `find` tries, and those that a terminal has left.
use Rattle.std.proofs.Common.{◌≡◌, ◌<◌, ◌≤◌, ◌^◌, ℕ, zero, suc, true, false, List, [], ◌∷◌, filter, length, nat_le, take, ap, refl, sym, subst, ◌∙◌, inl, inr, arith, le-leb}
use Rattle.std.proofs.lemmas.Bool.{cases_lt, cases_order}
use borrow.Author.Tests.{lt-leb}
use Rattle.duk_commands.specs.Find.{IsWindow}
use Rattle.duk_commands.specs.inner.Search.{AreLeft, IsFirstFrom}
use Rattle.duk_tree.specs.Next.{ComesAfter, IsChainAfter, IsLast, IsNextUsable}
use Rattle.duk_tree.specs.Path.{IsUsable, value_of}

pow_positive : (place : ℕ) → 0 < 2 ^ place
pow_positive zero = omega arith
pow_positive (suc place) = omega (arith, pow_positive place)

path_some : (path : List ℕ) → 1 ≤ length path → 0 < value_of path
path_some [] some = absurd (omega arith)
path_some (place ∷ parent) some = omega (arith, pow_positive place)

-- a usable counter is not zero
usable_some : (counter : ℕ) → IsUsable counter → 0 < counter
usable_some counter usable = omega (arith, path_some usable.path usable.not_the_root, usable.value_is)

-- ---- the first usable counter from the start on

-- it is the next one, where the start itself is not usable
pub first_by_next : (from next : ℕ) → ¬ IsUsable from → IsNextUsable from next → IsFirstFrom from next
first_by_next from next unusable is_next = record {
  is_usable = is_next.is_usable;
  not_below = omega (arith, is_next.is_above);
  is_least = λ other usable above.
      elim (cases_order from other) [
        | inl same ↦ absurd (unusable (subst IsUsable (sym same) usable))
        | inr apart ↦
            elim apart [
              | inl below ↦ is_next.is_least other usable below
              | inr behind ↦ absurd (omega arith)
            ]
      ];
}

-- and there is none, where the last one is not above the start
pub none_by_last : (from : ℕ) → ¬ IsUsable from → IsLast from → (other : ℕ) → IsUsable other → ¬ (from ≤ other)
none_by_last from unusable last other usable above =
    let same : other ≡ from = omega (arith, last other usable) in
    unusable (subst IsUsable same usable)

-- ---- the window

-- a test that keeps what is not below the start
kept : (from counter : ℕ) → from ≤ counter → nat_le from counter ≡ true
kept from counter above = le-leb from counter above

passed_over : (from counter : ℕ) → counter < from → nat_le from counter ≡ false
passed_over from counter below = lt-leb from counter below

-- it keeps all that come after a number that is not below
all_kept : (from counter : ℕ) (later : List ℕ) → from ≤ counter → IsChainAfter counter later → filter (λ n. nat_le from n) later ≡ later
all_kept from counter [] above chain = refl
all_kept from counter (next ∷ later) above chain =
    rw (kept from next (omega (arith, chain.0.is_above))) (ap (λ (l : List ℕ). next ∷ l) (all_kept from next later (omega (arith, chain.0.is_above)) chain.1))

-- where none is usable that is not below, it keeps none
none_kept : (from counter : ℕ) (numbers : List ℕ) → ((other : ℕ) → IsUsable other → ¬ (from ≤ other)) → IsChainAfter counter numbers
    → filter (λ n. nat_le from n) numbers ≡ []
none_kept from counter [] none chain = refl
none_kept from counter (next ∷ later) none chain =
    elim (cases_lt next from) [
      | inl below ↦ rw (passed_over from next below) (none_kept from next later none chain.1)
      | inr above ↦ absurd (none next chain.0.is_usable above)
    ]

-- what it keeps is the first number from the start on, and those after it
pub record Keeps (from first : ℕ) (numbers : List ℕ) : Type 0 where
  pub later : List ℕ
  pub after : IsChainAfter first later
  pub kept_are : filter (λ n. nat_le from n) numbers ≡ first ∷ later

from_first : (from first counter : ℕ) (numbers : List ℕ) → IsFirstFrom from first → counter < first → IsChainAfter counter numbers → Keeps from first numbers
from_first from first counter [] is_first below chain = absurd (omega (arith, chain first is_first.is_usable))
from_first from first counter (next ∷ later) is_first below chain =
    elim (cases_lt next first) [
      | inl before ↦
          elim (cases_lt next from) [
            | inl under ↦
                let rest = from_first from first next later is_first before chain.1 in
                record {
                  later = rest.later;
                  after = rest.after;
                  kept_are = rw (passed_over from next under) rest.kept_are;
                }
            | inr above ↦ absurd (omega (arith, is_first.is_least next chain.0.is_usable above))
          ]
      | inr not_before ↦
          let same : next ≡ first = omega (arith, chain.0.is_least first is_first.is_usable below) in
          let after = subst (λ n. IsChainAfter n later) same chain.1 in
          record {
            later = later;
            after = after;
            kept_are = rw (kept from next (omega (arith, is_first.not_below)))
                (ap (λ n. n ∷ filter (λ m. nat_le from m) later) same ∙ ap (λ (l : List ℕ). first ∷ l) (all_kept from first later is_first.not_below after));
          }
    ]

-- the counters that are tried are the first of those that a terminal has left which uses next the
-- first usable one from the start on
pub record IsFrontOf (first most : ℕ) (window : List ℕ) : Type 0 where
  pub numbers : List ℕ
  pub left : AreLeft first numbers
  pub window_is : window ≡ take most numbers

pub window_from : (from first most : ℕ) (window : List ℕ) → IsFirstFrom from first → IsWindow from most window → IsFrontOf first most window
window_from from first most window is_first is_window =
    let keeps = from_first from first 0 is_window.all is_first (usable_some first is_first.is_usable) is_window.all_usable in
    record {
      numbers = first ∷ keeps.later;
      left = inr (keeps.later, is_first.is_usable, keeps.after, refl);
      window_is = is_window.window_is ∙ ap (take most) keeps.kept_are;
    }

take_none : (most : ℕ) → take {A = ℕ} most [] ≡ []
take_none zero = refl
take_none (suc most) = refl

-- where none is usable from the start on, none is tried
pub no_window : (from most : ℕ) (window : List ℕ) → ((other : ℕ) → IsUsable other → ¬ (from ≤ other)) → IsWindow from most window → window ≡ []
no_window from most window none is_window =
    is_window.window_is ∙ ap (take most) (none_kept from 0 is_window.all none is_window.all_usable) ∙ take_none most

-- a window of any counters
pub some_window : (from most : ℕ) → ((counter : ℕ) → (numbers : List ℕ) × IsChainAfter counter numbers) → (window : List ℕ) × IsWindow from most window
some_window from most chains =
    let all = chains 0 in
    (take most (filter (λ n. nat_le from n) all.0), record { all = all.0; all_usable = all.1; window_is = refl })

-- ---- from one number to the next

-- after the next number, those that are left are those behind it
after_next : (counter next : ℕ) (later : List ℕ) → IsNextUsable counter next → IsChainAfter counter later → AreLeft next later
after_next counter next [] is_next chain = absurd (omega (arith, is_next.is_above, chain next is_next.is_usable))
after_next counter next (other ∷ later) is_next chain =
    let same : other ≡ next = omega (arith, chain.0.is_least next is_next.is_usable is_next.is_above, is_next.is_least other chain.0.is_usable chain.0.is_above) in
    inr (later, is_next.is_usable, subst (λ n. IsChainAfter n later) same chain.1, ap (λ n. n ∷ later) same)

after_last : (counter : ℕ) (later : List ℕ) → IsLast counter → IsChainAfter counter later → later ≡ []
after_last counter [] last chain = refl
after_last counter (other ∷ later) last chain = absurd (omega (arith, chain.0.is_above, last other chain.0.is_usable))

pub left_after : (counter next : ℕ) (later : List ℕ) → ComesAfter counter next → IsChainAfter counter later → AreLeft next later
left_after counter next later (inl is_next) chain = after_next counter next later is_next chain
left_after counter next later (inr (last, spent)) chain = inl (spent, after_last counter later last chain)
