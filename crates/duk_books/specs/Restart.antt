-- An end is restarted: this project's own.
use Rattle.std.specs.Prelude.{◌≡◌, ◌≢◌, ◌⊎◌, ℕ, Ok, Err}
use Rattle.duk_host.specs.declared.fault.HostFault.{HostFault}
use Rattle.duk_host.specs.declared.fault.HostFault.TheVariants.{NoMemory}
use Rattle.duk_journal_host.specs.Restart.{HostRestartNoMemory, HostRestartRefused, IsHostRestarted}
use Rattle.duk_term.specs.Terminal.{next_of}
use Rattle.duk_store.specs.Cell.{CellMeaning}
use Rattle.duk_till.specs.Lifetime.{IsCalled, Restart}
use Rattle.duk_till.specs.Till.{TillOf, approved_in}
use Rattle.duk_books.specs.Books.{BooksOf, FindsNoTill, Meanings}
use Rattle.duk_stations.specs.Places.{ChangesOnly}
use Rattle.duk_books.specs.Sales.{TakesSale}
use Rattle.duk_books.specs.declared.outcome.Outcome.{Outcome}
use Rattle.duk_books.specs.declared.outcome.Outcome.TheVariants as outcome

-- how a till is restarted; whatever comes of it, its terminal's cell is armed no more
abbrev pub TakesRestart : {C B : Type 0} → CellMeaning C → CellMeaning B → ℕ → Outcome → TillOf C B
    → TillOf C B → Type 0
TakesRestart cell book t (outcome.TillNext u next state) before after =
    (u ≡ t) × (next ≡ next_of after.terminal.state)
    × IsCalled cell book (Restart (Ok state)) before after
    × cell.disarmed after.terminal.cell
TakesRestart cell book t (outcome.TillFaulted u why) before after =
    (u ≡ t) × IsCalled cell book (Restart (Err why)) before after
    × cell.disarmed after.terminal.cell
TakesRestart cell book t _ before after = ⊥

-- a till is restarted, and what it then has as approved is entered into the merchants' book
pub record IsTillBroughtUp
    {C B J I : Type 0} (m : Meanings C B J I) (old : BooksOf C B J I) (t : ℕ) (outcome : Outcome)
    (new : BooksOf C B J I) : Type 0 where
  pub till : ChangesOnly t (TakesRestart m.cell m.book t outcome) old.tills new.tills
  pub sales : TakesSale old.sales t (approved_in till.after.state) new.sales
  pub rest : new ≡ record old { tills = new.tills; sales = new.sales }

-- what comes of a till's restart
abbrev pub RestartsTill : {C B J I : Type 0} → Meanings C B J I → BooksOf C B J I → ℕ → Outcome
    → BooksOf C B J I → Type 0
RestartsTill m old t outcome new =
    FindsNoTill old t outcome new ⊎ IsTillBroughtUp m old t outcome new

-- the host is restarted, and answers how many entries its journal keeps; that is armed no more
pub record IsHostReopened
    {C B J I : Type 0} (m : Meanings C B J I) (old : BooksOf C B J I) (kept : ℕ)
    (new : BooksOf C B J I) : Type 0 where
  pub host : IsHostRestarted m.host old.host new.host kept
  pub capacity : m.host.journal.capacity new.host.journal
      ≡ m.host.journal.capacity old.host.journal
  pub disarmed : m.host.journal.disarmed new.host.journal
  pub rest : new ≡ record old { host = new.host }

-- the host's restart is refused, but not as out of memory
pub record HostReopenFaulted
    {C B J I : Type 0} (m : Meanings C B J I) (old : BooksOf C B J I) (why : HostFault)
    (new : BooksOf C B J I) : Type 0 where
  pub not_memory : why ≢ NoMemory
  pub host : HostRestartRefused m.host.journal old.host new.host why
  pub capacity : m.host.journal.capacity new.host.journal
      ≡ m.host.journal.capacity old.host.journal
  pub disarmed : m.host.journal.disarmed new.host.journal
  pub rest : new ≡ record old { host = new.host }

-- what comes of the host's restart
abbrev pub RestartsHost : {C B J I : Type 0} → Meanings C B J I → BooksOf C B J I → Outcome
    → BooksOf C B J I → Type 0
RestartsHost m old (outcome.HostKeeps kept) new = IsHostReopened m old kept new
RestartsHost m old (outcome.HostFaulted why) new = HostReopenFaulted m old why new
RestartsHost m old _ new = ⊥

-- the host's restart was refused memory: the host and its journal are stopped
pub record IsHostLeft {C B J I : Type 0} (m : Meanings C B J I) (old new : BooksOf C B J I)
    : Type 0 where
  pub host : HostRestartNoMemory m.host.journal old.host new.host
  pub capacity : m.host.journal.capacity new.host.journal
      ≡ m.host.journal.capacity old.host.journal
  pub disarmed : m.host.journal.disarmed new.host.journal
  pub rest : new ≡ record old { host = new.host }
