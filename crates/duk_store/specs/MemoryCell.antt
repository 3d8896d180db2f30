-- A cell in memory: this project's own.
use Rattle.std.specs.Prelude.{◌≡◌, ◌⊎◌, ℕ, false, List, Some, None}
use Rattle.duk_store.specs.Cell.{CellMeaning, Kept}
use Rattle.duk_store.specs.Device.{Device, HavePassed, IsDueAt, armed, new_device, started}
use Rattle.duk_store.specs.StoreState.{StoreState}
use Rattle.duk_store.specs.declared.fault.StoreFault.{StoreFault}
use Rattle.duk_store.specs.declared.fault.StoreFault.TheVariants as fault

-- what a cell in memory is: what it keeps, and its device
pub record MemoryCell : Type 0 where
  pub kept : Kept
  pub device : Device

-- a new cell: nothing is kept
abbrev pub new_cell : MemoryCell
new_cell = record { kept = None; device = new_device }

-- its state: a restart finds what it keeps, and it is calm where no step is to fail
abbrev pub memory_cell_state : MemoryCell → StoreState Kept
memory_cell_state cell = record {
  honest = Unit {0};
  sound = Unit {0};
  calm = cell.device.passes ≡ None;
  running = cell.device.running;
  found = λ kept. kept ≡ cell.kept;
  failures = cell.device.failures;
}

-- the cell, brought up
abbrev pub restarted : MemoryCell → MemoryCell
restarted cell = record cell { device = started cell.device }

-- the cell, armed: so many steps are to pass
abbrev pub armed_cell : ℕ → MemoryCell → MemoryCell
armed_cell steps cell = record cell { device = armed steps cell.device }

-- what cells in memory mean: none is ever worn, and none promises anything more of itself after a
-- write
abbrev pub memory_cell_meaning : CellMeaning MemoryCell
memory_cell_meaning = record {
  state_of = memory_cell_state;
  worn = λ cell. ⊥;
  disarmed = λ cell. cell.device.passes ≡ None;
  arms = λ old steps new. new ≡ armed_cell steps old;
  after_put = λ cell body. Unit {0};
}

-- a write is done: both of its steps pass, and the new body is kept
pub record IsMemoryPut (old new : MemoryCell) (body : List ℕ) : Type 0 where
  pub passed : HavePassed old.device new.device
  pub kept : new.kept ≡ Some body

-- a write is refused: the cell is stopped
pub record IsMemoryStopped (old new : MemoryCell) : Type 0 where
  pub stopped : old.device.running ≡ false
  pub same : new ≡ old

-- a write fails at its first step: the cell keeps what it kept
pub record IsFirstStepDue (old new : MemoryCell) : Type 0 where
  pub due : IsDueAt 0 old.device new.device
  pub kept : new.kept ≡ old.kept

-- a write fails at its second step: the cell keeps the new body
pub record IsSecondStepDue (old new : MemoryCell) (body : List ℕ) : Type 0 where
  pub due : IsDueAt 1 old.device new.device
  pub kept : new.kept ≡ Some body

-- why a write is not done
abbrev pub MemoryPutFailed : MemoryCell → MemoryCell → List ℕ → StoreFault → Type 0
MemoryPutFailed old new body fault.Device = IsFirstStepDue old new ⊎ IsSecondStepDue old new body
MemoryPutFailed old new body fault.Stopped = IsMemoryStopped old new
MemoryPutFailed old new body _ = ⊥
