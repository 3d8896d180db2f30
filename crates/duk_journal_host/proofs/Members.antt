-- Members of lists, and the numbers that entries use.
use Rattle.std.proofs.Common.{Bool, true, false, ◌≡◌, ◌≢◌, ◌↔◌, ◌⊎◌, ℕ, zero, suc, ◌<◌, List, [], ◌∷◌, ◌++◌, Contains, flat_map, length, get_or, inl, inr, refl, sym, subst, arith}
use Rattle.std.proofs.lemmas.List.Elements.{All-append, All-cons, All-nil, Contains-append_cases, Contains-append_left, Contains-append_right}
use Rattle.std.proofs.lemmas.List.Quantifiers.{all_pairs_push}
use Rattle.std.specs.Bool.{MatchBool}
use Rattle.duk_host.specs.Used.{AreUsable, IsOneMore, IsUsed}
use Rattle.duk_journal.specs.Groups.{Entries}
use Rattle.duk_journal.specs.Standing.{numbers_in, reversed_in, reversed_numbers, used_by}
use Rattle.duk_journal.specs.declared.entry.Entry.{Entry}
use Rattle.duk_store.specs.Log.{Numbers}
use Rattle.duk_tree.specs.Path.{IsUsable}
use Rattle.duk_tree.specs.Serial.{Serial}
use Rattle.duk_journal_host.specs.inner.Index.{IsListed}

pub none_in : {A : Type 0} (thing : A) → ¬ Contains [] thing
none_in thing (k, within, is) = omega (arith, within)

pub the_only : {A : Type 0} (thing other : A) → Contains (thing ∷ []) other → other ≡ thing
the_only thing other (zero, within, is) = sym is
the_only thing other (suc k, within, is) = absurd (omega (arith, within))

pub the_one : {A : Type 0} (thing : A) → Contains (thing ∷ []) thing
the_one thing = (0, omega arith, refl)

-- a member of a list with one thing in front is that thing or was one
pub front_or : {A : Type 0} (first : A) (things : List A) (other : A) → Contains (first ∷ things) other → (other ≡ first) ⊎ Contains things other
front_or first things other contains = elim (Contains-append_cases (first ∷ []) things other contains) [
  | inl is ↦ inl (the_only first other is)
  | inr rest ↦ inr rest
]

-- a member of a list with one thing at its end was one or is that thing
pub end_or : {A : Type 0} (things : List A) (last other : A) → Contains (things ++ last ∷ []) other → Contains things other ⊎ (other ≡ last)
end_or things last other contains = elim (Contains-append_cases things (last ∷ []) other contains) [
  | inl before ↦ inl before
  | inr end ↦ inr (the_only last other end)
]

pub contains_at : {A : Type 0} (things : List A) (k : ℕ) (d thing : A) → k < length things → get_or things k d ≡ thing → Contains things thing
contains_at [] k d thing within is = absurd (omega (arith, within))
contains_at (first ∷ things) zero d thing within is = (0, omega arith, is)
contains_at (first ∷ things) (suc k) d thing within is =
    let rest = contains_at things k d thing (omega (arith, within)) is in (suc rest.0, omega (arith, rest.1), rest.2)

-- ---- lists of which each thing of a list has one

pub flat_in : {A B : Type 0} (f : A → List B) (things : List A) (thing : A) (other : B) → Contains things thing → Contains (f thing) other → Contains (flat_map f things) other
flat_in f [] thing other is_in has = absurd (none_in thing is_in)
flat_in f (first ∷ things) thing other is_in has = elim (front_or first things thing is_in) [
  | inl is ↦ Contains-append_left (f first) (flat_map f things) other (subst (λ thing. Contains (f thing) other) is has)
  | inr later ↦ Contains-append_right (f first) (flat_map f things) other (flat_in f things thing other later has)
]

pub flat_from : {A B : Type 0} (f : A → List B) (things : List A) (other : B) → Contains (flat_map f things) other → (thing : A) × Contains things thing × Contains (f thing) other
flat_from f [] other contains = absurd (none_in other contains)
flat_from f (first ∷ things) other contains = elim (Contains-append_cases (f first) (flat_map f things) other contains) [
  | inl here ↦ (first, Contains-append_left (first ∷ []) things first (the_one first), here)
  | inr later ↦ let rest = flat_from f things other later in (rest.0, Contains-append_right (first ∷ []) things rest.0 rest.1, rest.2)
]

pub flat_more : {A B : Type 0} (f : A → List B) (things more : List A) (other : B) → Contains (flat_map f things) other → Contains (flat_map f (things ++ more)) other
flat_more f things more other contains =
    let from = flat_from f things other contains in
    flat_in f (things ++ more) from.0 other (Contains-append_left things more from.0 from.1) from.2

-- the own number of an entry is used
pub own_used : (entries : Entries) (entry : Entry) → Contains entries entry → Contains (used_by entries) entry.number
own_used entries entry is_in =
    flat_in numbers_in entries entry entry.number is_in (Contains-append_left (entry.number ∷ []) (reversed_in entry.number entry.decided) entry.number (the_one entry.number))

-- a number that is reversed is used
pub reversed_used : (entries : Entries) (number : Serial) → Contains (reversed_numbers entries) number → Contains (used_by entries) number
reversed_used entries number contains =
    let from = flat_from (λ entry. reversed_in entry.number entry.decided) entries number contains in
    flat_in numbers_in entries from.0 number from.1 (Contains-append_right (from.0.number ∷ []) (reversed_in from.0.number from.0.decided) number from.2)

-- ---- the used numbers of an index

-- the list with a number at its end has the used numbers with it
contains_more : (numbers used more : Numbers) (ksn : Serial) → ((other : Serial) → Contains numbers other ↔ IsUsed used other) → IsOneMore used ksn more
    → (other : Serial) → Contains (numbers ++ ksn ∷ []) other ↔ IsUsed more other
contains_more numbers used more ksn members one_more other = (
  λ contains. elim (end_or numbers ksn other contains) [
    | inl before ↦ (one_more other).1 (inl ((members other).0 before))
    | inr last ↦ (one_more other).1 (inr last)
  ],
  λ is_used. elim ((one_more other).0 is_used) [
    | inl was ↦ Contains-append_left numbers (ksn ∷ []) other ((members other).1 was)
    | inr same ↦ Contains-append_right numbers (ksn ∷ []) other (subst (λ number. Contains (ksn ∷ []) number) (sym same) (the_one ksn))
  ],
)

-- a list of numbers that may be used, with one more of these at its end
usable_number : (numbers : Numbers) (ksn : Serial) → AreUsable numbers → IsUsable ksn.counter → ¬ Contains numbers ksn → AreUsable (numbers ++ ksn ∷ [])
usable_number numbers ksn are usable fresh = record {
  usable = All-append (λ number. IsUsable number.counter) numbers (ksn ∷ []) are.usable
      (All-cons (λ number. IsUsable number.counter) ksn [] usable (All-nil (λ number. IsUsable number.counter)));
  once = all_pairs_push (λ earlier later. earlier ≢ later) numbers ksn are.once
      (λ k d within same. fresh (contains_at numbers k d ksn within same));
}

-- used numbers of a list, with one that is perhaps used already, are those of a list
pub listed_more : (used more : Numbers) (ksn : Serial) (fresh : Bool) → IsListed used → IsUsable ksn.counter → MatchBool fresh (¬ IsUsed used ksn) (IsUsed used ksn) → IsOneMore used ksn more → IsListed more
listed_more used more ksn true (numbers, lists) usable new one_more = (
  numbers ++ ksn ∷ [],
  record {
    usable = usable_number numbers ksn lists.usable usable (λ contains. new ((lists.members ksn).0 contains));
    members = contains_more numbers used more ksn lists.members one_more;
  },
)
listed_more used more ksn false (numbers, lists) usable was one_more = (
  numbers,
  record {
    usable = lists.usable;
    members = λ other. (
      λ contains. (one_more other).1 (inl ((lists.members other).0 contains)),
      λ is_used. elim ((one_more other).0 is_used) [
        | inl before ↦ (lists.members other).1 before
        | inr same ↦ (lists.members other).1 (subst (λ number. IsUsed used number) (sym same) was)
      ],
    );
  },
)
