-- What only private functions and proofs say beside `Terminal.antt`: this project's own.
use Rattle.std.specs.Prelude.{◌≡◌, true, ℕ, List, None}
use Rattle.duk_store.specs.Cell.{CellMeaning, Kept, PutFailed}
use Rattle.duk_store.specs.StoreState.{StoreState, FindsOnly}
use Rattle.duk_regs.specs.Registers.{RegisterSet}
use Rattle.duk_term.specs.declared.fault.TermFault.{TermFault}
use Rattle.duk_term.specs.declared.fault.TermFault.TheVariants as fault
use Rattle.duk_term.specs.declared.state.State.{State}
use Rattle.duk_term.specs.declared.state.State.TheVariants.{Stopped, Empty, Loaded}
use Rattle.duk_term.specs.Terminal.{TerminalOf, HasRegistersIn}

-- the cell runs, and a restart would find this alone
pub record CellHolds (cell : StoreState Kept) (kept : Kept) : Type 0 where
  pub runs : cell.running ≡ true
  pub finds : cell.honest → FindsOnly cell kept

-- the cell runs, and a restart would find one body alone, which keeps these registers
pub record CellHoldsRegisters (cell : StoreState Kept) (set : RegisterSet) : Type 0 where
  pub runs : cell.running ≡ true
  pub finds : cell.honest → (kept : Kept) × FindsOnly cell kept × HasRegistersIn set kept

-- what the cell of a running terminal holds: nothing, or a body that keeps its registers
abbrev pub Agrees : StoreState Kept → State → Type 0
Agrees cell Stopped = Unit {0}
Agrees cell Empty = CellHolds cell None
Agrees cell (Loaded set pending) = CellHoldsRegisters cell set

-- an image that was not kept: the terminal is stopped
abbrev pub IsImageNotKept : {C : Type 0} → CellMeaning C → List ℕ → TerminalOf C → TerminalOf C
    → TermFault → Type 0
IsImageNotKept meaning body old new (fault.Store why) =
    (new.state ≡ Stopped) × PutFailed meaning old.cell new.cell body why
IsImageNotKept meaning body old new _ = ⊥
