-- What the events of a script do, and what is written of it: this project's own.
use Rattle.std.specs.Prelude.{Some, slice_get, ◌≡◌, ◌⊎◌, ℕ, Bool, true, false, List, take}
use Rattle.duk_books.specs.Books.{BooksOf, Meanings}
use Rattle.duk_books.specs.Run.{Run}
use Rattle.duk_books.specs.declared.event.Event.{Event}
use Rattle.duk_books.specs.declared.outcome.Outcome.{Outcome}
use Rattle.duk_config.specs.Settings.{Settings}
use Rattle.duk_config.specs.declared.fault.ScriptFault.{ScriptFault}
use Rattle.duk_config.specs.declared.fault.ScriptFault.TheVariants as fault
use Rattle.duk_io.specs.Known.{Known}
use Rattle.duk_io.specs.Sink.{IsCut, IsUntouched, IsWritten}
use Rattle.duk_play.specs.Opening.{AreEndsBroughtUp, StartsCalm, in_memory, new_disk_books, new_memory_books, on_disk}
use Rattle.duk_play.specs.OutcomeText.{lines_of}

-- from the first on, over stores that were honest, sound and calm, the ends were brought up, and then
-- the events had these outcomes and led to the last
pub record LeadsTo
    {C B J I : Type 0} (m : Meanings C B J I) (first : BooksOf C B J I) (events : List Event)
    (outcomes : List Outcome) (last : BooksOf C B J I) : Type 0 where
  pub start : BooksOf C B J I
  pub starts : StartsCalm m first
  pub opened : AreEndsBroughtUp m first start
  pub run : Run m start events outcomes last

-- events have these outcomes from the first on
abbrev pub ArePlayedIn : {C B J I : Type 0} → Meanings C B J I → BooksOf C B J I → List Event
    → List Outcome → Type 0
ArePlayedIn {C} {B} {J} {I} m first events outcomes =
    (last : BooksOf C B J I) × LeadsTo m first events outcomes last

-- the events of a script have these outcomes over the tills and the host of a configuration: over
-- cells on disks, or in memory
abbrev pub ArePlayedOn : Bool → Settings → List Event → List Outcome → Type 0
ArePlayedOn true config = ArePlayedIn on_disk (new_disk_books config)
ArePlayedOn false config = ArePlayedIn in_memory (new_memory_books config)

-- the events of a script have these outcomes over the stores that the configuration names
abbrev pub ArePlayed : Settings → List Event → List Outcome → Type 0
ArePlayed config = ArePlayedOn config.disk config

-- which outcomes events may have
abbrev pub Playing : Type 1
Playing = List Event → List Outcome → Type 0

-- all events are done, and their outcomes are written
abbrev pub IsPlayed : Playing → List Event → Known → Known → Type 0
IsPlayed may_have events old new =
    (outcomes : List Outcome) × may_have events outcomes × IsWritten old new (lines_of outcomes)

-- the first events have these outcomes, and the next one was refused memory
pub record ArePlayedInPart (may_have : Playing) (events : List Event) (outcomes : List Outcome)
    : Type 0 where
  pub done : ℕ
  pub refused : Event
  pub next : slice_get events done ≡ Some refused
  pub played : may_have (take done events) outcomes

-- the first events are done, and their outcomes are written
pub record IsPlayedUpTo (may_have : Playing) (events : List Event) (old new : Known)
    : Type 0 where
  pub outcomes : List Outcome
  pub played : ArePlayedInPart may_have events outcomes
  pub written : IsWritten old new (lines_of outcomes)

-- all events are done, or the first ones, and the writing of their outcomes is cut off
pub record IsPlayedAndCut (may_have : Playing) (events : List Event) (old new : Known)
    : Type 0 where
  pub outcomes : List Outcome
  pub played : may_have events outcomes ⊎ ArePlayedInPart may_have events outcomes
  pub cut : IsCut old new (lines_of outcomes)

-- why not all events are done and written
abbrev pub PlayRefused : Playing → List Event → Known → Known → ScriptFault → Type 0
PlayRefused may_have events old new fault.WriteFailed = IsPlayedAndCut may_have events old new
PlayRefused may_have events old new fault.NoMemory =
    IsUntouched old new ⊎ IsPlayedUpTo may_have events old new
PlayRefused may_have events old new _ = ⊥
