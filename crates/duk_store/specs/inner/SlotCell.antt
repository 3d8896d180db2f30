-- What only private functions and proofs say beside `SlotCell.antt`: this project's own.
use Rattle.std.specs.Prelude.{◌≡◌, ◌≢◌, ◌⊎◌, ◌<◌, ℕ, true, List, Some}
use Rattle.duk_store.specs.Cell.{Kept}
use Rattle.duk_store.specs.Disk.{DiskMeaning, DiskState, HasFailed, PreservesDisk, LeavesChanged, LeavesReads}
use Rattle.duk_store.specs.SlotFormat.{HoldsAlone, IsOpen, KeepsBody, cell_disk_size, other_than, sequence_of, slot_at}
use Rattle.duk_store.specs.inner.SlotFormat.{IsEmpty}
use Rattle.duk_store.specs.declared.fault.StoreFault.{StoreFault}
use Rattle.duk_store.specs.declared.fault.StoreFault.TheVariants.{Damaged, Device}
use Rattle.duk_store.specs.declared.slot_format.Place.{Place}
use Rattle.duk_store.specs.declared.slot_format.SlotState.{SlotState}
use Rattle.duk_store.specs.declared.slot_format.SlotState.TheVariants.{Empty, Holds, Stopped}
use Rattle.duk_store.specs.SlotCell.{SlotCellOf, is_running, MayFind}

-- the disk has one image, and the cell holds nothing, or one body alone of this sequence
abbrev pub HoldsNothing : DiskState → Type 0
HoldsNothing disk = LeavesReads disk × IsEmpty disk.reads

abbrev pub HoldsOne : Place → ℕ → DiskState → Type 0
HoldsOne place sequence disk =
    LeavesReads disk × ((body : List ℕ) × HoldsAlone place sequence body disk.reads)

-- what a cell knows of its disk is so
abbrev pub Knows : DiskState → SlotState → Type 0
Knows disk Stopped = Unit {0}
Knows disk Empty = (disk.size ≡ cell_disk_size) × (disk.honest → HoldsNothing disk)
Knows disk (Holds place sequence) =
    (disk.size ≡ cell_disk_size) × (disk.honest → HoldsOne place sequence disk)

-- a cell is brought up: it found what it keeps, and knows its disk
pub record IsCellBroughtUp (old new : DiskState) (state : SlotState) (kept : Kept) : Type 0 where
  pub nature : PreservesDisk old new
  pub no_failure : new.failures ≡ old.failures
  pub disarmed : new.disarmed
  pub runs : is_running state ≡ true
  pub knows : Knows new state
  pub found : old.honest → MayFind old kept
  pub keeps : old.honest → LeavesReads new × KeepsBody new.reads kept

-- what a stop leaves of a disk on which both slots are open and none is newer, or which has another
-- size
abbrev pub IsDamagedDisk : DiskState → Type 0
IsDamagedDisk disk = (disk.size ≢ cell_disk_size)
    ⊎ ((bytes : List ℕ) × disk.may_leave bytes × ((kept : Kept) → ¬ KeepsBody bytes kept))

pub record FoundDamage (old new : DiskState) : Type 0 where
  pub no_failure : new.failures ≡ old.failures
  pub damage : old.honest → IsDamagedDisk old

-- why a cell is not brought up
abbrev pub IsRecoveryFault : DiskState → DiskState → StoreFault → Type 0
IsRecoveryFault old new Device = HasFailed old new Device
IsRecoveryFault old new Damaged = FoundDamage old new
IsRecoveryFault old new _ = ⊥

pub record RecoveryFailed (old new : DiskState) (fault : StoreFault) : Type 0 where
  pub nature : PreservesDisk old new
  pub disarmed : new.disarmed
  pub cause : IsRecoveryFault old new fault

-- the disk has one image, on which this slot may be filled with this sequence: it is closed, and
-- the other one is of smaller sequence
pub record IsReadyFor (place : Place) (sequence : ℕ) (disk : DiskState) : Type 0 where
  pub leaves : LeavesReads disk
  pub closed : ¬ IsOpen (slot_at place disk.reads)
  pub older : sequence_of (slot_at (other_than place) disk.reads) < sequence

-- bytes keep what they kept, or the new body
abbrev pub KeepsOldOrNew : List ℕ → List ℕ → List ℕ → Type 0
KeepsOldOrNew body before after =
    ((kept : Kept) → KeepsBody before kept → KeepsBody after kept) ⊎ KeepsBody after (Some body)

-- a device step failed in that
pub record ReplaceFailed (body : List ℕ) (old new : DiskState) (fault : StoreFault) : Type 0 where
  pub nature : PreservesDisk old new
  pub failed : HasFailed old new fault
  pub changed : LeavesChanged (KeepsOldOrNew body) old new

-- once a device step failed in that
pub record CellReplaceFailed
    {D : Type 0} (meaning : DiskMeaning D) (body : List ℕ) (old new : SlotCellOf D)
    (fault : StoreFault) : Type 0 where
  pub disk : ReplaceFailed body (meaning.state_of old.disk) (meaning.state_of new.disk) fault
  pub state : new.state ≡ Stopped
