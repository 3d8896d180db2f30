-- Who owned the number of a request or a reversal when it was sent: this project's own.
use Rattle.std.specs.Prelude.{◌≡◌, ◌++◌, ◌∷◌, List}
use Rattle.duk_books.specs.Books.{BooksOf, Meanings}
use Rattle.duk_books.specs.Numbers.{IsSentByOwner}
use Rattle.duk_books.specs.Run.{Run}
use Rattle.duk_books.specs.Step.{Step}
use Rattle.duk_books.specs.declared.event.Event.{Event}
use Rattle.duk_books.specs.declared.outcome.Outcome.{Outcome}

-- where a request or a reversal is sent after these outcomes, the till owned the initial key serial
-- number just before
abbrev pub IsOwnedBefore : {C B J I : Type 0} → Meanings C B J I → BooksOf C B J I → List Outcome
    → Outcome → Type 0
IsOwnedBefore {C} {B} {J} {I} m old earlier outcome =
    (events : List Event) (event : Event) (before after : BooksOf C B J I)
    → Run m old events earlier before → Step m before event outcome after
    → IsSentByOwner before.owners outcome

-- so it is of each request and each reversal that was sent in a call
abbrev pub SentByOwners : {C B J I : Type 0} → Meanings C B J I → BooksOf C B J I → List Outcome
    → Type 0
SentByOwners m old outcomes =
    (earlier later : List Outcome) (outcome : Outcome) → outcomes ≡ earlier ++ outcome ∷ later
    → IsOwnedBefore m old earlier outcome
