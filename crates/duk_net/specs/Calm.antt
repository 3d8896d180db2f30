-- Which faults a world with sound and calm stores reports: this project's own.
use Rattle.std.specs.Prelude.{◌≡◌, ◌⊎◌, ◌++◌, ◌∷◌, List, All, Any}
use Rattle.duk_host.specs.declared.fault.HostFault.{HostFault}
use Rattle.duk_host.specs.declared.fault.HostFault.TheVariants as host_fault
use Rattle.duk_store.specs.declared.fault.StoreFault.{StoreFault}
use Rattle.duk_store.specs.declared.fault.StoreFault.TheVariants.{Damaged, Device}
use Rattle.duk_term.specs.Terminal.{TerminalOf}
use Rattle.duk_stations.specs.Calm.{IsCellFault}
use Rattle.duk_net.specs.World.{Meanings, WorldOf}
use Rattle.duk_stations.specs.Places.{HasOne, IsAt}
use Rattle.duk_net.specs.declared.event.End.{End}
use Rattle.duk_net.specs.declared.event.End.TheVariants as end
use Rattle.duk_net.specs.declared.event.Event.{Event}
use Rattle.duk_net.specs.declared.event.Event.TheVariants as event
use Rattle.duk_net.specs.declared.outcome.Outcome.{Outcome}
use Rattle.duk_net.specs.declared.outcome.Outcome.TheVariants as came

-- a terminal's cell was made over what its own type left in a medium of right size
abbrev pub HasSoundCell : {C L I : Type 0} → Meanings C L I → TerminalOf C → Type 0
HasSoundCell m terminal = (m.cell.state_of terminal.cell).sound

-- so were all stores of a world
pub record HasSoundStores {C L I : Type 0} (m : Meanings C L I) (world : WorldOf C L I)
    : Type 0 where
  pub log : (m.host.log.state_of world.host.log).sound
  pub cells : All (HasSoundCell m) world.terminals

-- the store of an end is calm
abbrev pub IsCalmAt : {C L I : Type 0} → Meanings C L I → WorldOf C L I → End → Type 0
IsCalmAt m world end.Host = (m.host.log.state_of world.host.log).calm
IsCalmAt m world (end.Term t) =
    (terminal : TerminalOf _) → IsAt world.terminals t terminal
    → (m.cell.state_of terminal.cell).calm

-- the host refused since its log failed so
abbrev pub IsLogFault : HostFault → StoreFault → Type 0
IsLogFault (host_fault.Store why) fault = why ≡ fault
IsLogFault _ fault = ⊥

-- an outcome says that the store of an end failed so
abbrev pub ReportsFault : Outcome → End → StoreFault → Type 0
ReportsFault (came.TermFaulted u why) (end.Term t) fault = (u ≡ t) × IsCellFault why fault
ReportsFault (came.HostFaulted why) end.Host fault = IsLogFault why fault
ReportsFault _ _ fault = ⊥

-- an outcome says of no end that its store is damaged
abbrev pub ReportsNoDamage : Outcome → Type 0
ReportsNoDamage outcome = (end : End) → ¬ ReportsFault outcome end Damaged

-- the outcome is that the store of an end was armed
abbrev pub ReportsArming : End → Outcome → Type 0
ReportsArming end (came.Armed armed steps) = armed ≡ end
ReportsArming end _ = ⊥

-- where outcomes say that a device step of an end's store failed, one before it says that the
-- store was armed
abbrev pub FailsOnceArmed : End → List Outcome → Type 0
FailsOnceArmed end outcomes =
    (earlier later : List Outcome) (outcome : Outcome)
    → outcomes ≡ earlier ++ outcome ∷ later → ReportsFault outcome end Device
    → Any (ReportsArming end) earlier

-- the store of an end is calm yet, unless one of the outcomes says that it was armed
abbrev pub StaysCalm : {C L I : Type 0} → Meanings C L I → End → WorldOf C L I → List Outcome
    → Type 0
StaysCalm m end world outcomes = Any (ReportsArming end) outcomes ⊎ IsCalmAt m world end

-- a restart of an end that is there
abbrev pub IsRestartEvent : {C L I : Type 0} → WorldOf C L I → Event → Type 0
IsRestartEvent world (event.RestartTerm t) = HasOne world.terminals t
IsRestartEvent world event.RestartHost = Unit {0}
IsRestartEvent world _ = ⊥

-- the outcome is that an end was brought up
abbrev pub ReportsBroughtUp : Outcome → Type 0
ReportsBroughtUp (came.TermNext t next) = Unit {0}
ReportsBroughtUp (came.HostUsed used) = Unit {0}
ReportsBroughtUp _ = ⊥
