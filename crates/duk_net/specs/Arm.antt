-- The store of an end of a world is armed: this project's own.
use Rattle.std.specs.Prelude.{◌≡◌, ℕ}
use Rattle.duk_host.specs.Host.{HostOf}
use Rattle.duk_host.specs.Restart.{PreservesEnds}
use Rattle.duk_store.specs.StoreState.{StaysButCalm}
use Rattle.duk_term.specs.Terminal.{TerminalOf}
use Rattle.duk_net.specs.World.{Meanings, ChangesTerminal, WorldOf}
use Rattle.duk_stations.specs.Places.{HasNone}
use Rattle.duk_net.specs.declared.event.End.{End}
use Rattle.duk_net.specs.declared.event.End.TheVariants as end
use Rattle.duk_net.specs.declared.outcome.Outcome.{Outcome}
use Rattle.duk_net.specs.declared.outcome.Outcome.TheVariants as outcome

-- a terminal's cell is armed
pub record ArmsCell
    {C L I : Type 0} (m : Meanings C L I) (steps : ℕ) (before after : TerminalOf C) : Type 0 where
  pub armed : m.cell.arms before.cell steps after.cell
  pub stays : StaysButCalm (m.cell.state_of before.cell) (m.cell.state_of after.cell)
  pub state : after.state ≡ before.state

-- the host's log is armed
pub record ArmsLog
    {C L I : Type 0} (m : Meanings C L I) (steps : ℕ) (before after : HostOf L I) : Type 0 where
  pub armed : m.host.log.arms before.log steps after.log
  pub stays : StaysButCalm (m.host.log.state_of before.log) (m.host.log.state_of after.log)
  pub counted : m.host.log.count after.log ≡ m.host.log.count before.log
  pub capacity : m.host.log.capacity after.log ≡ m.host.log.capacity before.log
  pub ends : PreservesEnds before after
  pub state : after.state ≡ before.state

-- what comes of arming the host's log
abbrev pub ArmsHost : {C L I : Type 0} → Meanings C L I → WorldOf C L I → ℕ → Outcome
    → WorldOf C L I → Type 0
ArmsHost m old steps (outcome.Armed armed passed) new =
    (armed ≡ end.Host) × (passed ≡ steps) × ArmsLog m steps old.host new.host
    × (new ≡ record old { host = new.host })
ArmsHost m old steps _ new = ⊥

-- what comes of arming a terminal's cell
abbrev pub ArmsTerminal : {C L I : Type 0} → Meanings C L I → WorldOf C L I → ℕ → ℕ → Outcome
    → WorldOf C L I → Type 0
ArmsTerminal m old t steps outcome.NoSuchTerminal new = HasNone old.terminals t × (new ≡ old)
ArmsTerminal m old t steps (outcome.Armed armed passed) new =
    (armed ≡ end.Term t) × (passed ≡ steps) × ChangesTerminal t (ArmsCell m steps) old new
ArmsTerminal m old t steps _ new = ⊥

-- what comes of arming the store of an end
abbrev pub Arms : {C L I : Type 0} → Meanings C L I → WorldOf C L I → End → ℕ → Outcome
    → WorldOf C L I → Type 0
Arms m old end.Host steps outcome new = ArmsHost m old steps outcome new
Arms m old (end.Term t) steps outcome new = ArmsTerminal m old t steps outcome new
