-- A terminal: what it is, and what its store holds of it: this project's own.
use Rattle.std.specs.Prelude.{◌≡◌, ◌⊎◌, ℕ, List, Some, ◌==◌, if◌then◌else◌}
use Rattle.duk_store.specs.Cell.{CellMeaning, Kept, PutFailed}
use Rattle.duk_store.specs.declared.fault.StoreFault.{StoreFault}
use Rattle.duk_store.specs.StoreState.{FindsWithin}
use Rattle.duk_regs.specs.Registers.{RegisterSet}
use Rattle.duk_tree.specs.Next.{spent_counter}
use Rattle.duk_tree.specs.Serial.{Serial}
use Rattle.duk_term.specs.Body.{KeepsRegisters, body_bytes}
use Rattle.duk_term.specs.declared.answer.Next.{Next}
use Rattle.duk_term.specs.declared.answer.Next.TheVariants as next
use Rattle.duk_term.specs.declared.state.State.{State}
use Rattle.duk_term.specs.declared.state.State.TheVariants.{Stopped, Empty, Loaded}

-- a terminal: its cell, and its state, which is stopped, or running with nothing, or running with
-- registers and perhaps a pending transaction
pub record TerminalOf (C : Type 0) : Type 0 where
  pub cell : C
  pub state : State

-- the key serial number of the number that registers use next
abbrev pub serial_of : RegisterSet → Serial
serial_of set = record { iksn = set.iksn; counter = set.counter }

-- a cell keeps these registers, where it keeps this
abbrev pub HasRegistersIn : RegisterSet → Kept → Type 0
HasRegistersIn set kept = (body : List ℕ) × (kept ≡ Some body) × KeepsRegisters body set

-- what a terminal answers of its next number
abbrev pub next_of : State → Next
next_of Stopped = next.Stopped
next_of Empty = next.Empty
next_of (Loaded set pending) =
    if set.counter == spent_counter then next.Spent else next.At (serial_of set)

-- the cell promises, of the body of the terminal's registers, what it promises of each body that it
-- has acknowledged
abbrev pub PromisesBody : {C : Type 0} → CellMeaning C → TerminalOf C → Type 0
PromisesBody meaning terminal =
    (set : RegisterSet) × (pending : _) × (terminal.state ≡ Loaded set pending)
    × meaning.after_put terminal.cell (body_bytes set)

-- the image of these registers was not kept: the terminal is stopped, and a restart would find such
-- a thing as the cell held before, or that image
pub record StopsBetween
    {C : Type 0} (meaning : CellMeaning C) (held : Kept → Type 0) (set : RegisterSet)
    (old new : TerminalOf C) (why : StoreFault) : Type 0 where
  pub stopped : new.state ≡ Stopped
  pub not_kept : PutFailed meaning old.cell new.cell (body_bytes set) why
  pub within : (meaning.state_of old.cell).honest → FindsWithin (meaning.state_of new.cell)
      (λ kept. held kept ⊎ (kept ≡ Some (body_bytes set)))
