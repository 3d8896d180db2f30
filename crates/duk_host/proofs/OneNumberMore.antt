-- Lists of used numbers, and one more at their end.
use Rattle.std.proofs.Common.{◌≡◌, ◌≢◌, ◌↔◌, ℕ, zero, suc, ◌<◌, [], ◌∷◌, ◌++◌, Contains, length, get_or, inl, inr, refl, sym, subst, arith}
use Rattle.std.proofs.lemmas.List.Elements.{All-append, All-cons, All-nil, Contains-append_cases, Contains-append_left, Contains-append_right}
use Rattle.std.proofs.lemmas.List.Quantifiers.{all_pairs_push}
use Rattle.duk_store.specs.Log.{LogMeaning, Numbers, IsAppended}
use Rattle.duk_tree.specs.Path.{IsUsable}
use Rattle.duk_tree.specs.Serial.{Serial}
use Rattle.duk_host.specs.inner.Host.{LogHolds}
use Rattle.duk_host.specs.inner.Reading.{IsTakenIn}
use Rattle.duk_host.specs.Used.{AreUsable, IsOneMore, IsUsed, Lists}

one_contains : (ksn other : Serial) → Contains (ksn ∷ []) other → ksn ≡ other
one_contains ksn other (zero, within, is) = is
one_contains ksn other (suc k, within, is) = absurd (omega (arith, within))

the_one : (ksn : Serial) → Contains (ksn ∷ []) ksn
the_one ksn = (0, omega arith, refl)

contains_at : (numbers : Numbers) (k : ℕ) (d ksn : Serial) → k < length numbers → get_or numbers k d ≡ ksn → Contains numbers ksn
contains_at [] k d ksn within is = absurd (omega (arith, within))
contains_at (number ∷ numbers) zero d ksn within is = (0, omega arith, is)
contains_at (number ∷ numbers) (suc k) d ksn within is =
    let rest = contains_at numbers k d ksn (omega (arith, within)) is in (suc rest.0, omega (arith, rest.1), rest.2)

-- the list with a number at its end has the used numbers with it
pub contains_more : (numbers used more : Numbers) (ksn : Serial) → ((other : Serial) → Contains numbers other ↔ IsUsed used other) → IsOneMore used ksn more
    → (other : Serial) → Contains (numbers ++ ksn ∷ []) other ↔ IsUsed more other
contains_more numbers used more ksn members one_more other = (
  λ contains. elim (Contains-append_cases numbers (ksn ∷ []) other contains) [
    | inl before ↦ (one_more other).1 (inl ((members other).0 before))
    | inr last ↦ (one_more other).1 (inr (sym (one_contains ksn other last)))
  ],
  λ is_used. elim ((one_more other).0 is_used) [
    | inl was ↦ Contains-append_left numbers (ksn ∷ []) other ((members other).1 was)
    | inr same ↦ Contains-append_right numbers (ksn ∷ []) other (subst (λ number. Contains (ksn ∷ []) number) (sym same) (the_one ksn))
  ],
)

-- a list of numbers that may be used, with one more of these at its end
pub usable_more : (numbers : Numbers) (ksn : Serial) → AreUsable numbers → IsUsable ksn.counter → ¬ Contains numbers ksn → AreUsable (numbers ++ ksn ∷ [])
usable_more numbers ksn are usable fresh = record {
  usable = All-append (λ number. IsUsable number.counter) numbers (ksn ∷ []) are.usable
      (All-cons (λ number. IsUsable number.counter) ksn [] usable (All-nil (λ number. IsUsable number.counter)));
  once = all_pairs_push (λ earlier later. earlier ≢ later) numbers ksn are.once
      (λ k d within same. fresh (contains_at numbers k d ksn within same));
}

-- the used ones are those of the list with the number that was taken in
pub lists_more : (numbers : Numbers) (used : Numbers) (ksn : Serial) (more : Numbers) → Lists numbers used → IsTakenIn used ksn more → Lists (numbers ++ ksn ∷ []) more
lists_more numbers used ksn more lists taken = record {
  usable = usable_more numbers ksn lists.usable taken.usable (λ contains. taken.fresh ((lists.members ksn).0 contains));
  members = contains_more numbers used more ksn lists.members taken.one_more;
}

-- a log with one number more holds the used numbers with it
pub holds_more :
    {L : Type 0} (meaning : LogMeaning L) (old new : L) (used : Numbers) (ksn : Serial) (more : Numbers)
    → LogHolds (meaning.state_of old) used → IsAppended meaning old new ksn → IsTakenIn used ksn more → LogHolds (meaning.state_of new) more
holds_more meaning old new used ksn more holds appended taken = record {
  runs = appended.runs;
  lists = λ honest.
      let was_honest = appended.nature.honest.1 honest in
      let earlier = holds.lists was_honest in
      (earlier.0 ++ ksn ∷ [], appended.finds was_honest earlier.0 earlier.1, lists_more earlier.0 used ksn more earlier.2 taken);
}
