-- What a call leads to: this project's own.
use Rattle.std.specs.Prelude.{◌≡◌, ◌⊎◌, List}
use Rattle.duk_books.specs.Books.{BooksOf, Meanings}
use Rattle.duk_books.specs.Reached.{IsLeft}
use Rattle.duk_books.specs.Run.{Run}
use Rattle.duk_books.specs.declared.event.Event.{Event}
use Rattle.duk_books.specs.declared.outcome.Outcome.{Outcome}

-- how a call leads on: events happened, with these outcomes, and then perhaps the host was refused
-- memory
pub record CallLeads
    {C B J I : Type 0} (m : Meanings C B J I) (old : BooksOf C B J I) (outcomes : List Outcome)
    (new : BooksOf C B J I) : Type 0 where
  pub events : List Event
  pub mid : BooksOf C B J I
  pub run : Run m old events outcomes mid
  pub left : (new ≡ mid) ⊎ IsLeft m mid new
