-- The worlds that there may be: this project's own.
use Rattle.std.specs.Prelude.{◌≡◌, ◌⊎◌, ℕ, zero, suc, List}
use Rattle.duk_net.specs.First.{IsFirstWorld}
use Rattle.duk_net.specs.Restart.{IsHostLeft}
use Rattle.duk_net.specs.Run.{Run}
use Rattle.duk_net.specs.Step.{Step}
use Rattle.duk_net.specs.World.{Meanings, WorldOf}
use Rattle.duk_net.specs.declared.event.Event.{Event}
use Rattle.duk_net.specs.declared.outcome.Outcome.{Outcome}

-- an event happened
pub record Happens {C L I : Type 0} (m : Meanings C L I) (old new : WorldOf C L I) : Type 0 where
  pub event : Event
  pub outcome : Outcome
  pub step : Step m old event outcome new

-- how a world moves on: an event happened, or a restart of the host was refused memory
abbrev pub Moves : {C L I : Type 0} → Meanings C L I → WorldOf C L I → WorldOf C L I → Type 0
Moves m old new = Happens m old new ⊎ IsHostLeft m old new

-- after so many moves from a world in which nothing had happened yet
abbrev pub IsReachedBy : {C L I : Type 0} → Meanings C L I → ℕ → WorldOf C L I → Type 0
IsReachedBy m zero world = IsFirstWorld m world
IsReachedBy {C} {L} {I} m (suc moves) world =
    (before : WorldOf C L I) × IsReachedBy m moves before × Moves m before world

-- a world that was new once, and then moved on by events alone
abbrev pub Reached : {C L I : Type 0} → Meanings C L I → WorldOf C L I → Type 0
Reached m world = (moves : ℕ) × IsReachedBy m moves world

-- how a call leads from a world to another: events happened, with these outcomes, and then perhaps
-- a restart of the host was refused memory
pub record CallLeads
    {C L I : Type 0} (m : Meanings C L I) (old : WorldOf C L I) (outcomes : List Outcome)
    (new : WorldOf C L I) : Type 0 where
  pub events : List Event
  pub mid : WorldOf C L I
  pub run : Run m old events outcomes mid
  pub left : (new ≡ mid) ⊎ IsHostLeft m mid new
