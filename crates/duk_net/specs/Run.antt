-- A list of events, and what may come of them: this project's own.
use Rattle.std.specs.Prelude.{◌≡◌, ◌⊎◌, ◌++◌, ◌∷◌, [], ℕ, List, Some, take, slice_get}
use Rattle.duk_net.specs.Restart.{IsHostLeft}
use Rattle.duk_net.specs.Step.{Step}
use Rattle.duk_net.specs.World.{Meanings, WorldOf}
use Rattle.duk_net.specs.declared.event.Event.{Event}
use Rattle.duk_net.specs.declared.event.Event.TheVariants as event
use Rattle.duk_net.specs.declared.outcome.Outcome.{Outcome}
use Rattle.duk_net.specs.declared.runs.NetFault.{NetFault}
use Rattle.duk_net.specs.declared.runs.NetFault.TheVariants.{NoMemory}

-- from old, these events may have these outcomes, one each, and lead to new
abbrev pub Run : {C L I : Type 0} → Meanings C L I → WorldOf C L I → List Event → List Outcome
    → WorldOf C L I → Type 0
Run m old [] [] new = new ≡ old
Run {C} {L} {I} m old (event ∷ events) (outcome ∷ outcomes) new =
    (mid : WorldOf C L I) × Step m old event outcome mid × Run m mid events outcomes new
Run m old [] (outcome ∷ outcomes) new = ⊥
Run m old (event ∷ events) [] new = ⊥

-- an event that was refused memory leaves the world as it was; of the host's restart it may leave
-- the host stopped
abbrev pub IsRefusedMemory : {C L I : Type 0} → Meanings C L I → WorldOf C L I → Event
    → WorldOf C L I → Type 0
IsRefusedMemory m old event.RestartHost new = (new ≡ old) ⊎ IsHostLeft m old new
IsRefusedMemory m old _ new = new ≡ old

-- all events are done
pub record IsRun
    {C L I : Type 0} (m : Meanings C L I) (old : WorldOf C L I) (events : List Event)
    (before after : List Outcome) (new : WorldOf C L I) : Type 0 where
  pub outcomes : List Outcome
  pub gained : after ≡ before ++ outcomes
  pub run : Run m old events outcomes new

-- so many events are done, and the next one was refused memory
pub record IsRunUpTo
    {C L I : Type 0} (m : Meanings C L I) (old : WorldOf C L I) (events : List Event)
    (before after : List Outcome) (done : ℕ) (new : WorldOf C L I) : Type 0 where
  pub mid : WorldOf C L I
  pub refused : Event
  pub done_part : IsRun m old (take done events) before after mid
  pub next : slice_get events done ≡ Some refused
  pub left : IsRefusedMemory m mid refused new

-- why a run ends before all events are done, and what that leaves
abbrev pub RunRefused : {C L I : Type 0} → Meanings C L I → WorldOf C L I → List Event
    → List Outcome → List Outcome → WorldOf C L I → NetFault → Type 0
RunRefused m old events before after new (NoMemory done) =
    IsRunUpTo m old events before after done new
