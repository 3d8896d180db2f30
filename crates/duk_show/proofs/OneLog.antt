-- Numbers that one log keeps, one after another, up to the first that does not go with those before it.
use Rattle.std.proofs.Common.{◌≡◌, ◌≢◌, ◌==◌, ◌+◌, ◌<◌, ◌≤◌, ◌++◌, ◌∷◌, ℕ, zero, suc, Bool, true, false, Result, Ok, Err, IfOk, Option, Some, None, List, [], Contains, get_or, length, map, take, inl, inr, refl, ap, sym, subst, ◌∙◌, length-append, arith}
use Rattle.std.proofs.lemmas.Bool.{eqb-true}
use Rattle.std.proofs.lemmas.List.Elements.{All-append, All-cons, All-nil, Contains-append_cases, Contains-append_left, Contains-append_right}
use Rattle.std.proofs.lemmas.List.Quantifiers.{all_pairs_push}
use Rattle.std.proofs.lemmas.Nat.{pow_pos}
use Rattle.std.specs.Bool.{MatchBool}
use Rattle.std.specs.Prelude.{MatchOption, if◌then◌else◌}
use Rattle.duk_host.specs.Used.{AreUsable, IsOneMore, IsUsed, Lists}
use Rattle.duk_store.specs.Log.{Numbers}
use Rattle.duk_tree.specs.Path.{IsUsable, value_of}
use Rattle.duk_tree.specs.Serial.{Serial}
use Rattle.duk_show.specs.Log.{AreIssued, AreOfOneLog, IsFirstOther, IsTaken}
use Rattle.duk_show.specs.declared.one_log.Keeps.{Keeps}
use Rattle.duk_show.specs.declared.one_log.Keeps.TheVariants.{Used, Issued}
use Rattle.duk_show.specs.inner.OneLog.{AreUsableAs, as_used, kept_of, other_counter}

the_only : {A : Type 0} (thing other : A) → Contains (thing ∷ []) other → other ≡ thing
the_only thing other (zero, within, is) = sym is
the_only thing other (suc k, within, is) = absurd (omega (arith, within))

the_one : {A : Type 0} (thing : A) → Contains (thing ∷ []) thing
the_one thing = (0, omega arith, refl)

contains_at : {A : Type 0} (things : List A) (k : ℕ) (d thing : A) → k < length things → get_or things k d ≡ thing → Contains things thing
contains_at [] k d thing within is = absurd (omega (arith, within))
contains_at (first ∷ things) zero d thing within is = (0, omega arith, is)
contains_at (first ∷ things) (suc k) d thing within is =
    let rest = contains_at things k d thing (omega (arith, within)) is in (suc rest.0, omega (arith, rest.1), rest.2)

-- numbers that may be used, with one more at their end
usable_more : (numbers : Numbers) (ksn : Serial) → AreUsable numbers → IsUsable ksn.counter → ¬ Contains numbers ksn → AreUsable (numbers ++ ksn ∷ [])
usable_more numbers ksn are usable fresh = record {
  usable = All-append (λ number. IsUsable number.counter) numbers (ksn ∷ []) are.usable
      (All-cons (λ number. IsUsable number.counter) ksn [] usable (All-nil (λ number. IsUsable number.counter)));
  once = all_pairs_push (λ earlier later. earlier ≢ later) numbers ksn are.once
      (λ k d within same. fresh (contains_at numbers k d ksn within same));
}

-- the used numbers are those of a list, with one more at its end
lists_more : (numbers used more : Numbers) (ksn : Serial) → Lists numbers used → IsUsable ksn.counter → ¬ IsUsed used ksn → IsOneMore used ksn more
    → Lists (numbers ++ ksn ∷ []) more
lists_more numbers used more ksn lists usable fresh one_more = record {
  usable = usable_more numbers ksn lists.usable usable (λ contains. fresh ((lists.members ksn).0 contains));
  members = λ other. (
    λ contains. elim (Contains-append_cases numbers (ksn ∷ []) other contains) [
      | inl before ↦ (one_more other).1 (inl ((lists.members other).0 before))
      | inr last ↦ (one_more other).1 (inr (the_only ksn other last))
    ],
    λ is_used. elim ((one_more other).0 is_used) [
      | inl was ↦ Contains-append_left numbers (ksn ∷ []) other ((lists.members other).1 was)
      | inr same ↦ Contains-append_right numbers (ksn ∷ []) other (subst (λ number. Contains (ksn ∷ []) number) (sym same) (the_one ksn))
    ],
  );
}

-- the number at the end of a list
last_number : (numbers : Numbers) (d ksn : Serial) → get_or (numbers ++ ksn ∷ []) (length numbers) d ≡ ksn
last_number [] d ksn = refl
last_number (first ∷ numbers) d ksn = last_number numbers d ksn

-- a number before it
front_number : (numbers : Numbers) (d ksn : Serial) (k : ℕ) → k < length numbers → get_or (numbers ++ ksn ∷ []) k d ≡ get_or numbers k d
front_number [] d ksn k within = absurd (omega (arith, within))
front_number (first ∷ numbers) d ksn zero within = refl
front_number (first ∷ numbers) d ksn (suc k) within = front_number numbers d ksn k (omega (arith, within))

-- nor one that stands before
used_last : (numbers : Numbers) (ksn : Serial) → Contains numbers ksn → ¬ AreUsable (numbers ++ ksn ∷ [])
used_last numbers ksn (k, within, is) are =
    are.once k (length numbers) ksn within (omega (arith, length-append numbers (ksn ∷ []))) (front_number numbers ksn ksn k within ∙ is ∙ sym (last_number numbers ksn ksn))

-- what is told of a number that was added
pub taken : {E : Type 0} (used : Numbers) (ksn : Serial) (more : Numbers) (added : Result Bool E) → IsUsable ksn.counter → IfOk added (λ fresh. IsOneMore used ksn more)
    → IfOk added (λ fresh. MatchBool fresh (¬ IsUsed used ksn) (IsUsed used ksn)) → IfOk added (IsTaken used ksn more)
taken used ksn more (Ok true) usable one_more fresh = λ numbers lists. lists_more numbers used more ksn lists usable fresh one_more
taken used ksn more (Ok false) usable one_more fresh = λ numbers lists. used_last numbers ksn ((lists.members ksn).1 fresh)
taken used ksn more (Err why) usable one_more fresh = tt

-- ---- initial key serial numbers as ones that may be used

one_usable : IsUsable 1
one_usable = record {
  path = 0 ∷ [];
  path_is = (omega arith, tt);
  value_is = refl;
  not_the_root = omega arith;
  ten_ones_at_most = omega arith;
}

no_zero_path : (path : List ℕ) → value_of path ≡ 0 → 1 ≤ length path → ⊥
no_zero_path [] value some = omega arith
no_zero_path (place ∷ parent) value some = omega (arith, value, pow_pos place)

zero_unusable : ¬ IsUsable 0
zero_unusable is = no_zero_path is.path is.value_is is.not_the_root

-- a counter that may be used so is zero, and zero may be used so
other_usable : (counter : ℕ) (b : Bool) → (counter == 0) ≡ b → IsUsable (if b then 1 else 0) → counter ≡ 0
other_usable counter true same usable = eqb-true counter 0 same
other_usable counter false same usable = absurd (zero_unusable usable)

zero_of_usable : (counter : ℕ) → IsUsable (other_counter counter) → counter ≡ 0
zero_of_usable counter usable = other_usable counter (counter == 0) refl usable

usable_of_zero : (counter : ℕ) → counter ≡ 0 → IsUsable (other_counter counter)
usable_of_zero counter none = subst (λ n. IsUsable (other_counter n)) (sym none) one_usable

-- without its counter a number is its initial key serial number
same_iksn : (a b : Serial) → a.counter ≡ 0 → b.counter ≡ 0 → (as_used Issued a).iksn ≡ (as_used Issued b).iksn → a ≡ b
same_iksn a b none none_too same =
    ap (λ (n : ℕ). record { iksn = n; counter = a.counter }) same
    ∙ ap (λ (n : ℕ). record { iksn = b.iksn; counter = n }) (none ∙ sym none_too)

get_or_map : (f : Serial → Serial) (numbers : Numbers) (k : ℕ) (d e : Serial) → k < length numbers → get_or (map f numbers) k d ≡ f (get_or numbers k e)
get_or_map f [] k d e within = absurd (omega (arith, within))
get_or_map f (first ∷ numbers) zero d e within = refl
get_or_map f (first ∷ numbers) (suc k) d e within = get_or_map f numbers k d e (omega (arith, within))

length_map : (f : Serial → Serial) (numbers : Numbers) → length (map f numbers) ≡ length numbers
length_map f [] = refl
length_map f (first ∷ numbers) = ap suc (length_map f numbers)

map_same : (numbers : Numbers) → map (as_used Used) numbers ≡ numbers
map_same [] = refl
map_same (first ∷ numbers) = ap (λ (rest : Numbers). first ∷ rest) (map_same numbers)

-- numbers are those of a ledger where they may have been used so
issued_of_usable : (numbers : Numbers) → AreUsableAs Issued numbers → AreIssued numbers
issued_of_usable numbers are =
    let same_length : length (map (as_used Issued) numbers) ≡ length numbers = length_map (as_used Issued) numbers in
    record {
      initial = λ k d within. zero_of_usable (get_or numbers k d).counter
          (subst (λ (n : Serial). IsUsable n.counter) (get_or_map (as_used Issued) numbers k d d within)
          (are.usable k d (omega (arith, same_length, within))));
      once = λ i j d before within same. are.once i j d before (omega (arith, same_length, within))
          (get_or_map (as_used Issued) numbers i d d (omega (arith, before, within)) ∙ ap (as_used Issued) same
          ∙ sym (get_or_map (as_used Issued) numbers j d d within));
    }

usable_of_issued : (numbers : Numbers) → AreIssued numbers → AreUsableAs Issued numbers
usable_of_issued numbers are =
    let same_length : length (map (as_used Issued) numbers) ≡ length numbers = length_map (as_used Issued) numbers in
    record {
      usable = λ k d within.
          let inside : k < length numbers = omega (arith, same_length, within) in
          subst (λ (n : Serial). IsUsable n.counter) (sym (get_or_map (as_used Issued) numbers k d d inside))
          (usable_of_zero (get_or numbers k d).counter (are.initial k d inside));
      once = λ i j d before within same.
          let last : j < length numbers = omega (arith, same_length, within) in
          let first : i < length numbers = omega (arith, before, last) in
          let numbers_same : as_used Issued (get_or numbers i d) ≡ as_used Issued (get_or numbers j d) =
          sym (get_or_map (as_used Issued) numbers i d d first) ∙ same ∙ get_or_map (as_used Issued) numbers j d d last in
          are.once i j d before last
          (same_iksn (get_or numbers i d) (get_or numbers j d) (are.initial i d first) (are.initial j d last)
          (ap (λ (n : Serial). n.iksn) numbers_same));
    }

-- ---- which log it is

of_one_log : (keeps : Keeps) (numbers : Numbers) → AreUsableAs keeps numbers → AreOfOneLog numbers
of_one_log Used numbers are = inl (subst AreUsable (map_same numbers) are)
of_one_log Issued numbers are = inr (issued_of_usable numbers are)

-- the first number says it
first_says : (b : Bool) (first : Serial) (rest : Numbers) → (first.counter == 0) ≡ b → AreOfOneLog (first ∷ rest)
    → AreUsableAs (if b then Issued else Used) (first ∷ rest)
first_says true first rest same (inl used) =
    absurd (zero_unusable (subst IsUsable (eqb-true first.counter 0 same) (used.usable 0 first (omega arith))))
first_says true first rest same (inr issued) = usable_of_issued (first ∷ rest) issued
first_says false first rest same (inl used) = subst AreUsable (sym (map_same (first ∷ rest))) used
first_says false first rest same (inr issued) =
    let none : first.counter ≡ 0 = issued.initial 0 first (omega arith) in
    let both : true ≡ false = sym (ap (λ (n : ℕ). n == 0) none) ∙ same in
    absurd (grind (arith, both))

begins_so : (numbers : Numbers) (place : ℕ) → place < length numbers → AreOfOneLog (take (suc place) numbers)
    → AreUsableAs (kept_of numbers) (take (suc place) numbers)
begins_so [] place there are = absurd (omega (arith, there))
begins_so (first ∷ rest) place there are = first_says (first.counter == 0) first (take place rest) refl are

found_other : (numbers : Numbers) (place : ℕ) → IsFirstOther (AreUsableAs (kept_of numbers)) numbers place → IsFirstOther AreOfOneLog numbers place
found_other numbers place first =
    let next : place + 1 ≡ suc place = omega arith in
    record {
      there = first.there;
      before = of_one_log (kept_of numbers) (take place numbers) first.before;
      with_it = λ are. first.with_it
          (subst (λ (n : ℕ). AreUsableAs (kept_of numbers) (take n numbers)) (sym next)
          (begins_so numbers place first.there (subst (λ (n : ℕ). AreOfOneLog (take n numbers)) next are)));
    }

-- what is found of the numbers as such is found of a log
pub found : {E : Type 0} (keeps : Keeps) (numbers : Numbers) (result : Result (Option ℕ) E) → keeps ≡ kept_of numbers
    → IfOk result (λ place. MatchOption place (AreUsableAs keeps numbers) (IsFirstOther (AreUsableAs keeps) numbers))
    → IfOk result (λ place. MatchOption place (AreOfOneLog numbers) (IsFirstOther AreOfOneLog numbers))
found keeps numbers (Ok None) same are = of_one_log keeps numbers are
found keeps numbers (Ok (Some place)) same first =
    found_other numbers place (subst (λ (k : Keeps). IsFirstOther (AreUsableAs k) numbers place) same first)
found keeps numbers (Err why) same all = tt
