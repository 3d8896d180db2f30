-- What only private functions and proofs say beside `Run.antt`: this project's own.
use Rattle.std.specs.Prelude.{◌≡◌, ◌++◌, ◌∷◌, [], List}
use Rattle.duk_books.specs.Step.{Step}
use Rattle.duk_books.specs.Books.{BooksOf, Meanings}
use Rattle.duk_books.specs.declared.event.Event.{Event}
use Rattle.duk_books.specs.declared.outcome.Outcome.{Outcome}

-- one event is done
pub record IsStepInto
    {C B J I : Type 0} (m : Meanings C B J I) (old : BooksOf C B J I) (event : Event)
    (before after : List Outcome) (new : BooksOf C B J I) : Type 0 where
  pub outcome : Outcome
  pub gained : after ≡ before ++ outcome ∷ []
  pub step : Step m old event outcome new
