-- A terminal's restart: this project's own.
use Rattle.std.specs.Prelude.{◌≡◌, ◌⊎◌, ℕ, List, Some, None}
use Rattle.duk_store.specs.Cell.{CellMeaning, Kept}
use Rattle.duk_store.specs.Restart.{Restarted, RestartFailed}
use Rattle.duk_store.specs.declared.fault.StoreFault.{StoreFault}
use Rattle.duk_store.specs.declared.fault.StoreFault.TheVariants.{Damaged}
use Rattle.duk_term.specs.Body.{IsTerminalBody, set_of_body}
use Rattle.duk_term.specs.Terminal.{TerminalOf}
use Rattle.duk_term.specs.declared.fault.TermFault.{TermFault}
use Rattle.duk_term.specs.declared.fault.TermFault.TheVariants as fault
use Rattle.duk_term.specs.declared.state.State.{State}
use Rattle.duk_term.specs.declared.state.State.TheVariants.{Stopped, Empty, Loaded}

-- the state that a terminal takes from what its cell keeps: with nothing kept it has no registers,
-- and of a body it has those of the image; nothing is pending
abbrev pub Opens : Kept → State → Type 0
Opens None state = state ≡ Empty
Opens (Some body) state = IsTerminalBody body × (state ≡ Loaded (set_of_body body) None)

-- a restart that is done: the cell's restart is, and the terminal has what it found, as it stands
pub record IsTerminalRestarted
    {C : Type 0} (meaning : CellMeaning C) (old new : TerminalOf C) : Type 0 where
  pub kept : Kept
  pub cell : Restarted (meaning.state_of old.cell) (meaning.state_of new.cell) kept
  pub opens : Opens kept new.state

-- the cell kept bytes that are no body
pub record FoundNoBody
    {C : Type 0} (meaning : CellMeaning C) (old new : TerminalOf C) : Type 0 where
  pub bytes : List ℕ
  pub cell : Restarted (meaning.state_of old.cell) (meaning.state_of new.cell) (Some bytes)
  pub no_body : ¬ IsTerminalBody bytes

-- a restart that failed: the terminal is stopped, since its cell's restart failed, or found no body
pub record TerminalRestartStopped
    {C : Type 0} (meaning : CellMeaning C) (old new : TerminalOf C)
    (why : StoreFault) : Type 0 where
  pub stopped : new.state ≡ Stopped
  pub cause : RestartFailed (meaning.state_of old.cell) (meaning.state_of new.cell) why
      ⊎ ((why ≡ Damaged) × FoundNoBody meaning old new)

-- why a restart is refused
abbrev pub TerminalRestartRefused : {C : Type 0} → CellMeaning C → TerminalOf C → TerminalOf C
    → TermFault → Type 0
TerminalRestartRefused meaning old new (fault.Store why) =
    TerminalRestartStopped meaning old new why
TerminalRestartRefused meaning old new _ = ⊥
