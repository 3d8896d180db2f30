-- How a station may go on, a weaker machine below the worlds of terminals and of tills: this project's
-- own.
--
-- A station is the terminal in it: its state, and what its cell may find after a stop. Beside the
-- stations the machine has the keys of the host's security module, the numbers that were used, and
-- who owns which initial key serial number. In a move one station goes on, or is loaded, or nothing
-- happens to any. A frame goes out only where a station takes its next number, and that number is
-- used from then on; whoever is loaded owns the initial key serial number, and nobody else does.
--
-- What the frames say, what the host makes of them, and what a till writes into its book, stand in
-- the worlds. A world shows that each of its steps is such a move; what follows of moves alone is
-- proved here: what is known of registers and images, that no number is used twice, and what stores
-- keep of their nature.
use Rattle.std.specs.Prelude.{◌≡◌, ◌⊎◌, ℕ, List, Some}
use Rattle.duk_regs.specs.Registers.{HaveSixteenBytes, RegisterSet}
use Rattle.duk_store.specs.Cell.{CellMeaning, IsPut}
use Rattle.duk_store.specs.StoreState.{StaysButCalm}
use Rattle.duk_store.specs.declared.fault.StoreFault.{StoreFault}
use Rattle.duk_term.specs.Begin.{BeginStopped, TakesFrom, pending_of}
use Rattle.duk_term.specs.Body.{body_bytes}
use Rattle.duk_term.specs.Load.{IsTerminalLoaded, LoadStopped, Loading}
use Rattle.duk_term.specs.Reply.{completed}
use Rattle.duk_term.specs.Restart.{IsTerminalRestarted, TerminalRestartStopped}
use Rattle.duk_term.specs.Terminal.{TerminalOf}
use Rattle.duk_term.specs.declared.state.State.TheVariants.{Loaded}

-- the next number is taken, for a request or for a reversal, and the registers that are left are kept
-- (a frame goes out under it then, or the number is lost)
pub record TakesNext {C : Type 0} (cell : CellMeaning C) (before after : TerminalOf C)
    : Type 0 where
  pub set : RegisterSet
  pub key : List ℕ
  pub left : RegisterSet
  pub takes : TakesFrom before.state set key left
  pub left_are : HaveSixteenBytes left.registers
  pub state_is : after.state ≡ Loaded left (Some (pending_of set key))
  pub kept : IsPut cell before.cell after.cell (body_bytes left)

-- how else a station goes on that is not loaded: not at all; it stops, since its cell failed as a
-- number was taken; it restarts, or stops since it cannot; it waits no more; or its cell is armed
pub data Goes {C : Type 0} (cell : CellMeaning C) (before after : TerminalOf C) : Type 0 where
  unmoved : after ≡ before → Goes cell before after
  stops_short : (why : StoreFault) → BeginStopped cell before after why → Goes cell before after
  reopens : IsTerminalRestarted cell before after → Goes cell before after
  reopening_stops : (why : StoreFault) → TerminalRestartStopped cell before after why
      → Goes cell before after
  waits_no_more : after ≡ record { cell = before.cell; state = completed before.state }
      → Goes cell before after
  is_armed : StaysButCalm (cell.state_of before.cell) (cell.state_of after.cell)
      → after.state ≡ before.state → Goes cell before after

-- it goes on so, or takes its next number
abbrev pub GoesOn : {C : Type 0} → CellMeaning C → TerminalOf C → TerminalOf C → Type 0
GoesOn cell before after = Goes cell before after ⊎ TakesNext cell before after

-- how a load leaves a station: as it was; loaded; or stopped, where its cell failed and may have kept
-- the image. Where it may have, the station owns the initial key serial number then
pub data GoesLoaded
    {C : Type 0} (cell : CellMeaning C) (owned : Type 0) (asked : Loading)
    (before after : TerminalOf C) : Type 0 where
  not_loaded : after ≡ before → GoesLoaded cell owned asked before after
  is_loaded : owned → IsTerminalLoaded cell asked before after
      → GoesLoaded cell owned asked before after
  loading_stops : (why : StoreFault) → owned → LoadStopped cell asked before after why
      → GoesLoaded cell owned asked before after
