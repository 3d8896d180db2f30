-- The first world of a script, and its ends brought up: this project's own.
use Rattle.std.specs.Prelude.{◌+◌, ◌++◌, ◌∷◌, zero, suc, ℕ, List, [], All, length}
use Rattle.duk_config.specs.NewHost.{new_host_of}
use Rattle.duk_config.specs.Settings.{Settings}
use Rattle.duk_host.specs.Table.{CardTable}
use Rattle.duk_net.specs.Calm.{HasSoundStores, ReportsBroughtUp, IsCalmAt}
use Rattle.duk_net.specs.First.{IsFirstWorld, first_world}
use Rattle.duk_net.specs.Run.{Run}
use Rattle.duk_net.specs.World.{Meanings, WorldOf}
use Rattle.duk_net.specs.declared.event.End.{End}
use Rattle.duk_net.specs.declared.event.Event.{Event}
use Rattle.duk_net.specs.declared.event.Event.TheVariants.{RestartHost, RestartTerm}
use Rattle.duk_net.specs.declared.outcome.Outcome.{Outcome}
use Rattle.duk_term.specs.Terminal.{TerminalOf}

-- the world of a configuration with this log and these terminals, as it is made
abbrev pub new_world_of : {C L : Type 0} → Settings → L → List (TerminalOf C)
    → WorldOf C L CardTable
new_world_of config log terminals =
    first_world (new_host_of config log) config.loading terminals

-- the restarts of the host and of so many terminals
abbrev pub opening : ℕ → List Event
opening zero = RestartHost ∷ []
opening (suc count) = opening count ++ RestartTerm (count + 1) ∷ []

-- a world in which nothing happened yet, every store of which is honest, sound and calm
pub record StartsCalm {C L I : Type 0} (m : Meanings C L I) (first : WorldOf C L I) : Type 0 where
  pub is_first : IsFirstWorld m first
  pub sound : HasSoundStores m first
  pub calm : (end : End) → IsCalmAt m first end

-- all ends of a first world are restarted, and each is brought up
pub record AreEndsBroughtUp {C L I : Type 0} (m : Meanings C L I) (first opened : WorldOf C L I)
    : Type 0 where
  pub outcomes : List Outcome
  pub restarted : Run m first (opening (length first.terminals)) outcomes opened
  pub brought_up : All ReportsBroughtUp outcomes
