-- Runs whose outcomes say of no store that it is worn, event by event.
use Rattle.std.proofs.Common.{◌≡◌, ◌∷◌, [], List, refl}
use Rattle.std.specs.List.{All}
use Rattle.std.proofs.lemmas.List.Elements.{All-head, All-tail}
use Rattle.duk_books.specs.Books.{BooksOf, Meanings}
use Rattle.duk_books.specs.Run.{Run}
use Rattle.duk_books.specs.Step.{Step}
use Rattle.duk_books.specs.WayOut.{ReportsNoWear}
use Rattle.duk_books.specs.declared.event.Event.{Event}
use Rattle.duk_books.specs.declared.outcome.Outcome.{Outcome}

-- the first event of a run whose outcomes say of no store that it is worn
pub record RunsFirst {C B J I : Type 0} (m : Meanings C B J I) (old : BooksOf C B J I) (first : Event) (events : List Event) (outcomes : List Outcome) (new : BooksOf C B J I) : Type 0 where
  pub outcome : Outcome
  pub others : List Outcome
  pub outcomes_are : outcomes ≡ outcome ∷ others
  pub mid : BooksOf C B J I
  pub step : Step m old first outcome mid
  pub rest : Run m mid events others new
  pub unworn : ReportsNoWear outcome
  pub all_unworn : All ReportsNoWear others

pub runs_first : {C B J I : Type 0} (m : Meanings C B J I) (old new : BooksOf C B J I) (first : Event) (events : List Event) (outcomes : List Outcome) → Run m old (first ∷ events) outcomes new → All ReportsNoWear outcomes → RunsFirst m old first events outcomes new
runs_first m old new first events [] run unworn = absurd run
runs_first m old new first events (outcome ∷ others) run unworn = record {
  outcome = outcome;
  others = others;
  outcomes_are = refl;
  mid = run.0;
  step = run.1;
  rest = run.2;
  unworn = All-head ReportsNoWear outcome others unworn;
  all_unworn = λ k default within. All-tail ReportsNoWear outcome others unworn k default within;
}

pub run_ends : {C B J I : Type 0} (m : Meanings C B J I) (old new : BooksOf C B J I) (outcomes : List Outcome) → Run m old [] outcomes new → (new ≡ old) × (outcomes ≡ [])
run_ends m old new [] run = (run, refl)
run_ends m old new (outcome ∷ outcomes) run = absurd run
