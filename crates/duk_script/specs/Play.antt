-- What the events of a script do, and what is written of it: this project's own.
use Rattle.std.specs.Prelude.{Some, slice_get, ◌≡◌, ◌⊎◌, ℕ, Bool, true, false, List, replicate, take}
use Rattle.duk_config.specs.Settings.{Settings}
use Rattle.duk_config.specs.declared.fault.ScriptFault.{ScriptFault}
use Rattle.duk_config.specs.declared.fault.ScriptFault.TheVariants as fault
use Rattle.duk_io.specs.Known.{Known}
use Rattle.duk_io.specs.Sink.{IsCut, IsUntouched, IsWritten}
use Rattle.duk_net.specs.InMemory.{MemoryWorld, in_memory, new_terminal}
use Rattle.duk_net.specs.Run.{Run}
use Rattle.duk_net.specs.World.{Meanings, WorldOf}
use Rattle.duk_net.specs.declared.event.Event.{Event}
use Rattle.duk_net.specs.declared.outcome.Outcome.{Outcome}
use Rattle.duk_script.specs.OnDisk.{DiskWorld, new_disk_terminal, new_log_on_disk, on_disk}
use Rattle.duk_script.specs.Opening.{AreEndsBroughtUp, StartsCalm, new_world_of}
use Rattle.duk_script.specs.OutcomeText.{lines_of}
use Rattle.duk_store.specs.MemoryLog.{new_log}

-- events have these outcomes in a first world, once its ends were brought up. Its stores were
-- honest, sound and calm
pub record ArePlayedIn
    {C L I : Type 0} (m : Meanings C L I) (first : WorldOf C L I) (events : List Event)
    (outcomes : List Outcome) : Type 0 where
  pub start : WorldOf C L I
  pub last : WorldOf C L I
  pub starts : StartsCalm m first
  pub opened : AreEndsBroughtUp m first start
  pub run : Run m start events outcomes last

-- the world of a configuration over stores in memory, as it is made
abbrev pub new_memory_world : Settings → MemoryWorld
new_memory_world config =
    new_world_of config (new_log config.log) (replicate config.terminals new_terminal)

-- the world of a configuration over stores on disks, as it is made
abbrev pub new_disk_world : Settings → DiskWorld
new_disk_world config = new_world_of config (new_log_on_disk config.log)
    (replicate config.terminals new_disk_terminal)

-- the events of a script have these outcomes in the world of a configuration: over disks, or over
-- stores in memory
abbrev pub ArePlayedOn : Bool → Settings → List Event → List Outcome → Type 0
ArePlayedOn true config = ArePlayedIn on_disk (new_disk_world config)
ArePlayedOn false config = ArePlayedIn in_memory (new_memory_world config)

-- the events of a script have these outcomes over the stores that the configuration names
abbrev pub ArePlayed : Settings → List Event → List Outcome → Type 0
ArePlayed config = ArePlayedOn config.disk config

-- which outcomes events may have
abbrev pub Playing : Type 1
Playing = List Event → List Outcome → Type 0

-- all events are done, and their outcomes are written
abbrev pub IsPlayed : Playing → List Event → Known → Known → Type 0
IsPlayed may_have events old new =
    (outcomes : List Outcome) × may_have events outcomes × IsWritten old new (lines_of outcomes)

-- the first events have these outcomes, and the next one was refused memory
pub record ArePlayedInPart (may_have : Playing) (events : List Event) (outcomes : List Outcome)
    : Type 0 where
  pub done : ℕ
  pub refused : Event
  pub next : slice_get events done ≡ Some refused
  pub played : may_have (take done events) outcomes

-- the first events are done, and their outcomes are written
pub record IsPlayedUpTo (may_have : Playing) (events : List Event) (old new : Known)
    : Type 0 where
  pub outcomes : List Outcome
  pub played : ArePlayedInPart may_have events outcomes
  pub written : IsWritten old new (lines_of outcomes)

-- all events are done, or the first ones, and the writing of their outcomes is cut off
pub record IsPlayedAndCut (may_have : Playing) (events : List Event) (old new : Known)
    : Type 0 where
  pub outcomes : List Outcome
  pub played : may_have events outcomes ⊎ ArePlayedInPart may_have events outcomes
  pub cut : IsCut old new (lines_of outcomes)

-- why not all events are done and written
abbrev pub PlayRefused : Playing → List Event → Known → Known → ScriptFault → Type 0
PlayRefused may_have events old new fault.WriteFailed = IsPlayedAndCut may_have events old new
PlayRefused may_have events old new fault.NoMemory =
    IsUntouched old new ⊎ IsPlayedUpTo may_have events old new
PlayRefused may_have events old new _ = ⊥
