-- Runs that go on by one event.
use Rattle.std.proofs.Common.{◌≡◌, ◌+◌, ◌++◌, ◌∷◌, [], ℕ, zero, suc, List, Some, take, refl, sym, ap, subst, ◌∙◌, arith, append_assoc, append-nil}
use Rattle.std.specs.List.{slice_get}
use Rattle.duk_books.specs.Run.{IsRun, Run}
use Rattle.duk_books.specs.inner.Run.{IsStepInto}
use Rattle.duk_books.specs.Step.{Step}
use Rattle.duk_books.specs.Books.{BooksOf, Meanings}
use Rattle.duk_books.specs.declared.event.Event.{Event}
use Rattle.duk_books.specs.declared.outcome.Outcome.{Outcome}

take_next : (events : List Event) (place : ℕ) (event : Event) → slice_get events place ≡ Some event → take (place + 1) events ≡ take place events ++ event ∷ []
take_next [] zero event is = grind (arith, is)
take_next [] (suc place) event is = grind (arith, is)
take_next (first ∷ events) zero event is = grind (arith, is)
take_next (first ∷ events) (suc place) event is = grind (arith, is, take_next events place event)

-- a run goes on by a step
run_on : {C B J I : Type 0} (m : Meanings C B J I) (old mid new : BooksOf C B J I) (events : List Event) (outcomes : List Outcome) (event : Event) (outcome : Outcome)
    → Run m old events outcomes mid → Step m mid event outcome new → Run m old (events ++ event ∷ []) (outcomes ++ outcome ∷ []) new
run_on m old mid new [] [] event outcome run step = (new, subst (λ from. Step m from event outcome new) run step, refl)
run_on m old mid new [] (other ∷ outcomes) event outcome run step = absurd run
run_on m old mid new (first ∷ events) [] event outcome run step = absurd run
run_on m old mid new (first ∷ events) (other ∷ outcomes) event outcome run step = (run.0, run.1, run_on m run.0 mid new events outcomes event outcome run.2 step)

-- before the first event
pub run_none : {C B J I : Type 0} (m : Meanings C B J I) (old : BooksOf C B J I) (events : List Event) (before : List Outcome) → IsRun m old (take 0 events) before before old
run_none m old events before = record { outcomes = []; gained = sym (append-nil before); run = refl }

-- one event more is done
pub run_next : {C B J I : Type 0} (m : Meanings C B J I) (old mid new : BooksOf C B J I) (events : List Event) (place : ℕ) (event : Event) (before between after : List Outcome)
    → IsRun m old (take place events) before between mid → slice_get events place ≡ Some event → IsStepInto m mid event between after new
    → IsRun m old (take (place + 1) events) before after new
run_next m old mid new events place event before between after run is step = record {
  outcomes = run.outcomes ++ step.outcome ∷ [];
  gained = step.gained ∙ ap (λ list. list ++ step.outcome ∷ []) run.gained ∙ append_assoc before run.outcomes (step.outcome ∷ []);
  run = subst (λ done. Run m old done (run.outcomes ++ step.outcome ∷ []) new) (sym (take_next events place event is))
      (run_on m old mid new (take place events) run.outcomes event step.outcome run.run step.step);
}
