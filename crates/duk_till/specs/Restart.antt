-- A till's restart: this project's own.
use Rattle.std.specs.Prelude.{◌≡◌, ◌⊎◌, ℕ, List, Option, Some, IfSome}
use Rattle.duk_store.specs.Cell.{CellMeaning}
use Rattle.duk_store.specs.Restart.{Restarted, RestartFailed}
use Rattle.duk_store.specs.declared.fault.StoreFault.{StoreFault}
use Rattle.duk_store.specs.declared.fault.StoreFault.TheVariants.{Damaged}
use Rattle.duk_term.specs.Restart.{IsTerminalRestarted, TerminalRestartRefused}
use Rattle.duk_till.specs.Image.{IsLastBody, kept_of}
use Rattle.duk_till.specs.Last.{AreLastFields}
use Rattle.duk_till.specs.Till.{TillOf}
use Rattle.duk_till.specs.declared.fault.TillFault.{TillFault}
use Rattle.duk_till.specs.declared.fault.TillFault.TheVariants as fault
use Rattle.duk_till.specs.declared.last.Last.{Last}
use Rattle.duk_till.specs.declared.state.TillState.TheVariants.{Stopped, Running}

-- the book's restart found this last purchase, of which each field is what its name says; the book
-- is armed no more
pub record FoundLast {J : Type 0} (meaning : CellMeaning J) (old new : J) (last : Option Last)
    : Type 0 where
  pub cell : Restarted (meaning.state_of old) (meaning.state_of new) (kept_of last)
  pub disarmed : meaning.disarmed new
  pub fields : IfSome last AreLastFields

-- a restart that is done: that of the terminal is, the book is as its own restart leaves it, and the
-- till has the last purchase that was found there, an open one too
pub record IsTillRestarted
    {C J : Type 0} (cell : CellMeaning C) (book : CellMeaning J) (old new : TillOf C J)
    : Type 0 where
  pub last : Option Last
  pub terminal : IsTerminalRestarted cell old.terminal new.terminal
  pub found : FoundLast book old.book new.book last
  pub state_is : new.state ≡ Running last

-- the book kept bytes that are no body of a last purchase; it is armed no more
pub record FoundNoLast {J : Type 0} (meaning : CellMeaning J) (old new : J) : Type 0 where
  pub bytes : List ℕ
  pub cell : Restarted (meaning.state_of old) (meaning.state_of new) (Some bytes)
  pub disarmed : meaning.disarmed new
  pub no_body : (last : Last) → ¬ IsLastBody bytes last

-- the book's restart failed; the book is armed no more
pub record BookFailed {J : Type 0} (meaning : CellMeaning J) (old new : J) (why : StoreFault)
    : Type 0 where
  pub cell : RestartFailed (meaning.state_of old) (meaning.state_of new) why
  pub disarmed : meaning.disarmed new

-- why the book is not brought up
abbrev pub BookRestartFailed : {J : Type 0} → CellMeaning J → J → J → StoreFault → Type 0
BookRestartFailed meaning old new why =
    BookFailed meaning old new why ⊎ ((why ≡ Damaged) × FoundNoLast meaning old new)

-- why a restart is refused, and what that leaves: the till is stopped
abbrev pub TillRestartRefused : {C J : Type 0} → CellMeaning C → CellMeaning J → TillOf C J
    → TillOf C J → TillFault → Type 0
TillRestartRefused cell book old new (fault.Terminal why) =
    TerminalRestartRefused cell old.terminal new.terminal why × (new.book ≡ old.book)
    × (new.state ≡ Stopped)
TillRestartRefused cell book old new (fault.Store why) =
    IsTerminalRestarted cell old.terminal new.terminal
    × BookRestartFailed book old.book new.book why
    × (new.state ≡ Stopped)
TillRestartRefused cell book old new _ = ⊥
