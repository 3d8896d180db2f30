-- What only private functions and proofs say beside `Play.antt`: this project's own.
use Rattle.std.specs.Prelude.{◌⊎◌, [], ℕ, List}
use Rattle.duk_books.specs.Books.{BooksOf, Meanings}
use Rattle.duk_books.specs.Run.{IsRunUpTo, Run}
use Rattle.duk_books.specs.declared.event.Event.{Event}
use Rattle.duk_books.specs.declared.outcome.Outcome.{Outcome}
use Rattle.duk_config.specs.declared.fault.ScriptFault.{ScriptFault}
use Rattle.duk_config.specs.declared.fault.ScriptFault.TheVariants as fault
use Rattle.duk_io.specs.Known.{Known}
use Rattle.duk_io.specs.Sink.{IsCut, IsWritten}
use Rattle.duk_play.specs.OutcomeText.{lines_of}

-- events have these outcomes from a start on, and lead to the last
abbrev pub HaveOutcomes : {C B J I : Type 0} → Meanings C B J I → BooksOf C B J I
    → BooksOf C B J I → List Event → List Outcome → Type 0
HaveOutcomes m start last events outcomes = Run m start events outcomes last

-- the first events have these outcomes, the next one was refused memory, and that leaves the last
abbrev pub HaveOutcomesInPart : {C B J I : Type 0} → Meanings C B J I → BooksOf C B J I
    → BooksOf C B J I → List Event → List Outcome → Type 0
HaveOutcomesInPart m start last events outcomes =
    (done : ℕ) × IsRunUpTo m start events [] outcomes done last

-- the first events are done, and their outcomes are written
pub record AreDoneInPart
    {C B J I : Type 0} (m : Meanings C B J I) (start last : BooksOf C B J I) (events : List Event)
    (old new : Known) : Type 0 where
  pub outcomes : List Outcome
  pub have : HaveOutcomesInPart m start last events outcomes
  pub written : IsWritten old new (lines_of outcomes)

-- all events are done, or the first ones, and the writing of their outcomes is cut off
pub record AreDoneAndCut
    {C B J I : Type 0} (m : Meanings C B J I) (start last : BooksOf C B J I) (events : List Event)
    (old new : Known) : Type 0 where
  pub outcomes : List Outcome
  pub have : HaveOutcomes m start last events outcomes
      ⊎ HaveOutcomesInPart m start last events outcomes
  pub cut : IsCut old new (lines_of outcomes)

-- why not all events are done and written, once they are begun: memory is refused to an event only,
-- and the lines of those before it are written
abbrev pub EventsRefused : {C B J I : Type 0} → Meanings C B J I → BooksOf C B J I
    → BooksOf C B J I → List Event → Known → Known → ScriptFault → Type 0
EventsRefused m start last events old new fault.WriteFailed =
    AreDoneAndCut m start last events old new
EventsRefused m start last events old new fault.NoMemory =
    AreDoneInPart m start last events old new
EventsRefused m start last events old new _ = ⊥
