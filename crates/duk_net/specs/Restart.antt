-- An end of a world is restarted: this project's own.
use Rattle.std.specs.Prelude.{◌≡◌, ◌≢◌, ◌⊎◌, ℕ}
use Rattle.duk_host.specs.Restart.{IsHostRestarted, HostRestartNoMemory, HostRestartRefused}
use Rattle.duk_host.specs.declared.fault.HostFault.{HostFault}
use Rattle.duk_host.specs.declared.fault.HostFault.TheVariants.{NoMemory}
use Rattle.duk_store.specs.Cell.{CellMeaning}
use Rattle.duk_term.specs.Restart.{IsTerminalRestarted, TerminalRestartRefused}
use Rattle.duk_term.specs.Terminal.{TerminalOf, next_of}
use Rattle.duk_term.specs.declared.answer.Next.{Next}
use Rattle.duk_net.specs.World.{FindsNoTerminal, Meanings, ChangesTerminal, WorldOf}
use Rattle.duk_net.specs.declared.outcome.Outcome.{Outcome}
use Rattle.duk_net.specs.declared.outcome.Outcome.TheVariants as outcome

-- a terminal is brought up, and answers which number it uses next
pub record Reopens
    {C : Type 0} (meaning : CellMeaning C) (next : Next)
    (before after : TerminalOf C) : Type 0 where
  pub restarted : IsTerminalRestarted meaning before after
  pub next_is : next ≡ next_of after.state

-- how a terminal is restarted; whatever comes of it, its cell is armed no more
abbrev pub TakesRestart : {C : Type 0} → CellMeaning C → ℕ → Outcome → TerminalOf C → TerminalOf C
    → Type 0
TakesRestart meaning t (outcome.TermNext u next) before after =
    (u ≡ t) × Reopens meaning next before after × meaning.disarmed after.cell
TakesRestart meaning t (outcome.TermFaulted u why) before after =
    (u ≡ t) × TerminalRestartRefused meaning before after why × meaning.disarmed after.cell
TakesRestart meaning t _ before after = ⊥

-- what comes of a terminal's restart
abbrev pub RestartsTerminal : {C L I : Type 0} → Meanings C L I → WorldOf C L I → ℕ → Outcome
    → WorldOf C L I → Type 0
RestartsTerminal m old t outcome new =
    FindsNoTerminal old t outcome new ⊎ ChangesTerminal t (TakesRestart m.cell t outcome) old new

-- the host is restarted, and answers how many numbers are used; its log is armed no more
pub record IsHostReopened
    {C L I : Type 0} (m : Meanings C L I) (old : WorldOf C L I) (used : ℕ)
    (new : WorldOf C L I) : Type 0 where
  pub host : IsHostRestarted m.host.log old.host new.host used
  pub counted : m.host.log.count new.host.log ≡ used
  pub capacity : m.host.log.capacity new.host.log ≡ m.host.log.capacity old.host.log
  pub disarmed : m.host.log.disarmed new.host.log
  pub rest : new ≡ record old { host = new.host }

-- the host's restart is refused, but not as out of memory
pub record HostReopenFaulted
    {C L I : Type 0} (m : Meanings C L I) (old : WorldOf C L I) (why : HostFault)
    (new : WorldOf C L I) : Type 0 where
  pub not_memory : why ≢ NoMemory
  pub host : HostRestartRefused m.host.log old.host new.host why
  pub capacity : m.host.log.capacity new.host.log ≡ m.host.log.capacity old.host.log
  pub disarmed : m.host.log.disarmed new.host.log
  pub rest : new ≡ record old { host = new.host }

-- what comes of the host's restart
abbrev pub RestartsHost : {C L I : Type 0} → Meanings C L I → WorldOf C L I → Outcome
    → WorldOf C L I → Type 0
RestartsHost m old (outcome.HostUsed used) new = IsHostReopened m old used new
RestartsHost m old (outcome.HostFaulted why) new = HostReopenFaulted m old why new
RestartsHost m old _ new = ⊥

-- the host's restart was refused memory: the host is stopped, and its log may be restarted
pub record IsHostLeft {C L I : Type 0} (m : Meanings C L I) (old new : WorldOf C L I) : Type 0 where
  pub host : HostRestartNoMemory m.host.log old.host new.host
  pub capacity : m.host.log.capacity new.host.log ≡ m.host.log.capacity old.host.log
  pub disarmed : m.host.log.disarmed new.host.log
  pub rest : new ≡ record old { host = new.host }
