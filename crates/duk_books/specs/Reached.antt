-- What tills, host and network may come to: this project's own.
use Rattle.std.specs.Prelude.{◌⊎◌, ℕ, zero, suc}
use Rattle.duk_books.specs.Books.{BooksOf, Meanings}
use Rattle.duk_books.specs.First.{IsFirst}
use Rattle.duk_books.specs.Restart.{IsHostLeft}
use Rattle.duk_books.specs.Step.{Step}
use Rattle.duk_books.specs.Up.{IsHostOutOfMemory}
use Rattle.duk_books.specs.declared.event.Event.{Event}
use Rattle.duk_books.specs.declared.outcome.Outcome.{Outcome}

-- an event happened
pub record Happens {C B J I : Type 0} (m : Meanings C B J I) (old new : BooksOf C B J I)
    : Type 0 where
  pub event : Event
  pub outcome : Outcome
  pub step : Step m old event outcome new

-- the host was refused memory, in its restart or for a frame
abbrev pub IsLeft : {C B J I : Type 0} → Meanings C B J I → BooksOf C B J I → BooksOf C B J I
    → Type 0
IsLeft m old new = IsHostLeft m old new ⊎ ((k : ℕ) × IsHostOutOfMemory m old k new)

-- how all moves on: an event happened, or the host was refused memory
abbrev pub Moves : {C B J I : Type 0} → Meanings C B J I → BooksOf C B J I → BooksOf C B J I
    → Type 0
Moves m old new = Happens m old new ⊎ IsLeft m old new

-- after so many moves from where nothing had happened yet
abbrev pub IsReachedBy : {C B J I : Type 0} → Meanings C B J I → ℕ → BooksOf C B J I → Type 0
IsReachedBy m zero books = IsFirst m books
IsReachedBy {C} {B} {J} {I} m (suc moves) books =
    (before : BooksOf C B J I) × IsReachedBy m moves before × Moves m before books

-- what was new once, and then moved on by events alone
abbrev pub Reached : {C B J I : Type 0} → Meanings C B J I → BooksOf C B J I → Type 0
Reached m books = (moves : ℕ) × IsReachedBy m moves books
