-- A list of events, and what may come of them: this project's own.
use Rattle.std.specs.Prelude.{◌≡◌, ◌⊎◌, ◌++◌, ◌∷◌, [], ℕ, List, Some, take, slice_get}
use Rattle.duk_books.specs.Restart.{IsHostLeft}
use Rattle.duk_books.specs.Step.{Step}
use Rattle.duk_books.specs.Up.{IsUpLeft}
use Rattle.duk_books.specs.Books.{BooksOf, Meanings}
use Rattle.duk_books.specs.declared.event.Event.{Event}
use Rattle.duk_books.specs.declared.event.Event.TheVariants as event
use Rattle.duk_books.specs.declared.outcome.Outcome.{Outcome}
use Rattle.duk_books.specs.declared.runs.RunFault.{RunFault}
use Rattle.duk_books.specs.declared.runs.RunFault.TheVariants.{NoMemory}

-- from old, these events may have these outcomes, one each, and lead to new
abbrev pub Run : {C B J I : Type 0} → Meanings C B J I → BooksOf C B J I → List Event → List Outcome
    → BooksOf C B J I → Type 0
Run m old [] [] new = new ≡ old
Run {C} {B} {J} {I} m old (event ∷ events) (outcome ∷ outcomes) new =
    (mid : BooksOf C B J I) × Step m old event outcome mid × Run m mid events outcomes new
Run m old [] (outcome ∷ outcomes) new = ⊥
Run m old (event ∷ events) [] new = ⊥

-- an event that was refused memory leaves all as it was; of a frame that reaches the host, and of the
-- host's restart, it may leave the host stopped
abbrev pub IsRefusedMemory : {C B J I : Type 0} → Meanings C B J I → BooksOf C B J I → Event
    → BooksOf C B J I → Type 0
IsRefusedMemory m old (event.Up k) new = IsUpLeft m old k new
IsRefusedMemory m old event.RestartHost new = (new ≡ old) ⊎ IsHostLeft m old new
IsRefusedMemory m old _ new = new ≡ old

-- all events are done
pub record IsRun
    {C B J I : Type 0} (m : Meanings C B J I) (old : BooksOf C B J I) (events : List Event)
    (before after : List Outcome) (new : BooksOf C B J I) : Type 0 where
  pub outcomes : List Outcome
  pub gained : after ≡ before ++ outcomes
  pub run : Run m old events outcomes new

-- so many events are done, and the next one was refused memory
pub record IsRunUpTo
    {C B J I : Type 0} (m : Meanings C B J I) (old : BooksOf C B J I) (events : List Event)
    (before after : List Outcome) (done : ℕ) (new : BooksOf C B J I) : Type 0 where
  pub mid : BooksOf C B J I
  pub refused : Event
  pub done_part : IsRun m old (take done events) before after mid
  pub next : slice_get events done ≡ Some refused
  pub left : IsRefusedMemory m mid refused new

-- why a run ends before all events are done, and what that leaves
abbrev pub RunRefused : {C B J I : Type 0} → Meanings C B J I → BooksOf C B J I → List Event
    → List Outcome → List Outcome → BooksOf C B J I → RunFault → Type 0
RunRefused m old events before after new (NoMemory done) =
    IsRunUpTo m old events before after done new
