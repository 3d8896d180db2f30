-- What the calls of a cell in turn leave.
use Rattle.std.proofs.Common.{◌≡◌, ◌⊎◌, inl, inr, ℕ, false, List, [], ◌∷◌, Some, sym, ◌∙◌, subst}
use Rattle.std.proofs.lemmas.Bool.{false≢true}
use Rattle.duk_store.specs.Cell.{CellMeaning, Kept, PutFailed}
use Rattle.duk_store.specs.CellCalls.{AreCellCalls, FindsAtMostTwo, FindsOneOf, FindsOneWhileItRuns, IsCellCall}
use Rattle.duk_store.specs.StoreState.{FindsAsBefore, FindsOnly, FindsWithin, StoreState}
use Rattle.duk_store.specs.declared.fault.StoreFault.{StoreFault}
use Rattle.duk_store.specs.declared.fault.StoreFault.TheVariants as fault

-- what holds of a cell at all times
pub record IsNarrow (store : StoreState Kept) : Type 0 where
  pub honest : store.honest
  pub at_most_two : FindsAtMostTwo store
  pub one_while_it_runs : FindsOneWhileItRuns store

finds_one : (store : StoreState Kept) (kept : Kept) → FindsOnly store kept → FindsAtMostTwo store
finds_one store kept only = (kept, kept, λ value found. inl ((only value).0 found))

pub narrow_by_one : (store : StoreState Kept) (kept : Kept) → store.honest → FindsOnly store kept → IsNarrow store
narrow_by_one store kept h only = record {
  honest = h;
  at_most_two = finds_one store kept only;
  one_while_it_runs = λ runs. (kept, only);
}

-- a store that is stopped, and finds these alone
narrow_stopped : (store : StoreState Kept) → store.honest → store.running ≡ false → FindsAtMostTwo store → IsNarrow store
narrow_stopped store h stopped two = record {
  honest = h;
  at_most_two = two;
  one_while_it_runs = λ runs. absurd (false≢true (sym stopped ∙ runs));
}

within_two : (old new : StoreState Kept) → FindsAtMostTwo old → FindsWithin new old.found → FindsAtMostTwo new
within_two old new two within = (two.0, two.1, λ value found. two.2 value (within value found))

-- nothing changes of what it finds
narrow_stays : (old new : StoreState Kept) → IsNarrow old → new.honest → new.running ≡ old.running → FindsAsBefore old new → IsNarrow new
narrow_stays old new was h running found = record {
  honest = h;
  at_most_two = within_two old new was.at_most_two (λ value left. (found was.honest value).0 left);
  one_while_it_runs = λ runs.
      let one = was.one_while_it_runs (sym running ∙ runs) in
      (one.0, λ value. (λ left. (one.1 value).0 ((found was.honest value).0 left), λ is. (found was.honest value).1 ((one.1 value).1 is)));
}

one_of : (store : StoreState Kept) (kept value : Kept) (body : List ℕ) → FindsOnly store kept → store.found value ⊎ (value ≡ Some body) → (value ≡ kept) ⊎ (value ≡ Some body)
one_of store kept value body only (inl was) = inl ((only value).0 was)
one_of store kept value body only (inr is) = inr is

module _ {C : Type 0} (meaning : CellMeaning C) where
  -- a put that failed leaves the old body or the new one
  pub old_or_new : (old new : C) (kept : Kept) (body : List ℕ) (why : StoreFault) → (meaning.state_of old).honest → FindsOnly (meaning.state_of old) kept → PutFailed meaning old new body why → FindsOneOf (meaning.state_of new) kept (Some body)
  old_or_new old new kept body fault.Device h only failed value found =
      one_of (meaning.state_of old) kept value body only (failed.stops.within h value found)
  old_or_new old new kept body fault.Stopped h only failed value found =
      inl ((only value).0 ((failed.stays.found h value).0 found))
  old_or_new old new kept body fault.Worn h only failed value found =
      inl ((only value).0 ((failed.stays.found h value).0 found))
  old_or_new old new kept body fault.Damaged h only failed value found = absurd failed
  old_or_new old new kept body fault.NoMemory h only failed value found = absurd failed

  put_failed : (old new : C) (body : List ℕ) (why : StoreFault) → IsNarrow (meaning.state_of old) → PutFailed meaning old new body why → IsNarrow (meaning.state_of new)
  put_failed old new body fault.Device was failed =
      let one = was.one_while_it_runs failed.was_running in
      narrow_stopped (meaning.state_of new) (failed.stops.nature.honest.0 was.honest) failed.stops.stopped
      (one.0, Some body, old_or_new old new one.0 body fault.Device was.honest one.1 failed)
  put_failed old new body fault.Stopped was failed =
      narrow_stays (meaning.state_of old) (meaning.state_of new) was (failed.stays.nature.honest.0 was.honest) failed.stays.running failed.stays.found
  put_failed old new body fault.Worn was failed =
      narrow_stays (meaning.state_of old) (meaning.state_of new) was (failed.stays.nature.honest.0 was.honest) failed.stays.running failed.stays.found
  put_failed old new body fault.Damaged was failed = absurd failed
  put_failed old new body fault.NoMemory was failed = absurd failed

  call_narrow : (old new : C) → IsNarrow (meaning.state_of old) → IsCellCall meaning old new → IsNarrow (meaning.state_of new)
  call_narrow old new was (inl (inl done)) =
      let settles = done.1.settles in
      narrow_by_one (meaning.state_of new) done.0 (settles.nature.honest.0 was.honest) (settles.finds was.honest)
  call_narrow old new was (inl (inr failed)) =
      let stops = failed.1.stops in
      narrow_stopped (meaning.state_of new) (stops.nature.honest.0 was.honest) stops.stopped
      (within_two (meaning.state_of old) (meaning.state_of new) was.at_most_two (stops.within was.honest))
  call_narrow old new was (inr (inl (body, inl done))) =
      narrow_by_one (meaning.state_of new) (Some body) (done.settles.nature.honest.0 was.honest) (done.settles.finds was.honest)
  call_narrow old new was (inr (inl (body, inr failed))) = put_failed old new body failed.0 was failed.1
  call_narrow old new was (inr (inr armed)) =
      narrow_stays (meaning.state_of old) (meaning.state_of new) was (armed.honest.0 was.honest) armed.running armed.found

  pub calls_narrow : (first last : C) (after_each : List C) → IsNarrow (meaning.state_of first) → AreCellCalls meaning first after_each last → IsNarrow (meaning.state_of last)
  calls_narrow first last [] was calls = subst (λ cell. IsNarrow (meaning.state_of cell)) (sym calls) was
  calls_narrow first last (next ∷ later) was calls = calls_narrow next last later (call_narrow first next was calls.0) calls.1
