-- A cell on a disk: this project's own.
use Rattle.std.specs.Prelude.{◌≡◌, ◌↔◌, ◌+◌, ◌-◌, ◌^◌, ℕ, Bool, true, false, List, Some, replicate}
use Rattle.duk_store.specs.Cell.{CellMeaning, Kept}
use Rattle.duk_store.specs.Disk.{DiskMeaning, DiskState, PreservesDisk, LeavesReads}
use Rattle.duk_store.specs.SlotFormat.{HoldsAlone, IsOpen, KeepsBody, cell_disk_size, commit_of, other_than, slot_at}
use Rattle.duk_store.specs.StoreState.{StoreState}
use Rattle.duk_store.specs.declared.slot_format.Place.{Place}
use Rattle.duk_store.specs.declared.slot_format.Place.TheVariants.{First}
use Rattle.duk_store.specs.declared.slot_format.SlotState.{SlotState}
use Rattle.duk_store.specs.declared.slot_format.SlotState.TheVariants.{Empty, Holds, Stopped}

-- a cell on a disk: the disk, and what the cell knows of it
pub record SlotCellOf (D : Type 0) : Type 0 where
  pub disk : D
  pub state : SlotState

-- a cell as it is made: it is stopped
abbrev pub new_slot_cell : {D : Type 0} → D → SlotCellOf D
new_slot_cell disk = record { disk = disk; state = Stopped }

-- whether it runs
abbrev pub is_running : SlotState → Bool
is_running Stopped = false
is_running _ = true

-- a restart may find this: some bytes that a stop could leave keep it
abbrev pub MayFind : DiskState → Kept → Type 0
MayFind disk kept = (bytes : List ℕ) × disk.may_leave bytes × KeepsBody bytes kept

-- it runs with this body kept
pub record RunsWithBody (disk : DiskState) (state : SlotState) (body : List ℕ) : Type 0 where
  pub runs : is_running state ≡ true
  pub kept : MayFind disk (Some body)

-- the disk has the size of a cell's, and all bytes that a stop could leave keep something
pub record IsSoundDisk (disk : DiskState) : Type 0 where
  pub size : disk.size ≡ cell_disk_size
  pub each_keeps : (bytes : List ℕ) → disk.may_leave bytes → (kept : Kept) × KeepsBody bytes kept

-- the state of a cell, by that of its disk
abbrev pub slot_cell_state : DiskState → SlotState → StoreState Kept
slot_cell_state disk state = record {
  honest = disk.honest;
  sound = IsSoundDisk disk;
  calm = disk.calm;
  running = is_running state;
  found = MayFind disk;
  failures = disk.failures;
}

-- a disk of which a stop leaves 1,024 zero bytes, whether or not a device step is to fail
pub record IsZeroDisk (disk : DiskState) : Type 0 where
  pub size : disk.size ≡ cell_disk_size
  pub zeros : (bytes : List ℕ) → disk.may_leave bytes ↔ (bytes ≡ replicate cell_disk_size 0)

-- a new disk
pub record IsBlankDisk (disk : DiskState) : Type 0 where
  pub honest : disk.honest
  pub calm : disk.calm
  pub zero : IsZeroDisk disk

-- a stop leaves one image of the disk, which holds one body alone
pub record LeavesOneBody (disk : DiskState) (body : List ℕ) : Type 0 where
  pub image : List ℕ
  pub leaves : (bytes : List ℕ) → disk.may_leave bytes ↔ (bytes ≡ image)
  pub place : Place
  pub sequence : ℕ
  pub alone : HoldsAlone place sequence body image

-- this body stands alone on an honest disk, and a restart would find it alone
abbrev pub StandsAlone : DiskState → List ℕ → Type 0
StandsAlone disk body =
    disk.honest → ((kept : Kept) → MayFind disk kept ↔ (kept ≡ Some body)) × LeavesOneBody disk body

-- whatever a stop leaves of an honest disk, the slot of this state has this body, with the state's
-- sequence, and the other one is closed and zero
pub record IsInItsSlot (disk : DiskState) (state : SlotState) (body : List ℕ) : Type 0 where
  pub place : Place
  pub sequence : ℕ
  pub state_is : state ≡ Holds place sequence
  pub alone : (bytes : List ℕ) → disk.may_leave bytes → HoldsAlone place sequence body bytes

-- a cell of the last sequence takes no further body
abbrev pub IsWorn : SlotState → Type 0
IsWorn (Holds place sequence) = sequence ≡ 2 ^ 64 - 1
IsWorn _ = ⊥

-- what cells on the disks of one kind mean
abbrev pub slot_cell_meaning : {D : Type 0} → DiskMeaning D → CellMeaning (SlotCellOf D)
slot_cell_meaning meaning = record {
  state_of = λ cell. slot_cell_state (meaning.state_of cell.disk) cell.state;
  worn = λ cell. IsWorn cell.state;
  disarmed = λ cell. (meaning.state_of cell.disk).disarmed;
  arms = λ old steps new. meaning.arms old.disk steps new.disk × (new.state ≡ old.state);
  after_put = λ cell body. StandsAlone (meaning.state_of cell.disk) body;
}

-- what a restart may do to the bytes of its disk: they keep what they kept, and the commit byte of
-- a slot that reads closed stays
pub record IsRestored (before after : List ℕ) : Type 0 where
  pub keeps : (kept : Kept) → KeepsBody before kept ↔ KeepsBody after kept
  pub commits : (place : Place) → ¬ IsOpen (slot_at place before)
      → commit_of (slot_at place after) ≡ commit_of (slot_at place before)

-- a body is put in the place of what was kept
pub record IsReplaced (place : Place) (sequence : ℕ) (body : List ℕ) (old new : DiskState)
    : Type 0 where
  pub nature : PreservesDisk old new
  pub no_failure : new.failures ≡ old.failures
  pub holds : old.honest → LeavesReads new × HoldsAlone place sequence body new.reads

-- what a cell knows once a body is put in the place of what it kept
pub record IsCellReplaced
    {D : Type 0} (meaning : DiskMeaning D) (place : Place) (sequence : ℕ) (body : List ℕ)
    (old new : SlotCellOf D) : Type 0 where
  pub disk : IsReplaced place sequence body (meaning.state_of old.disk) (meaning.state_of new.disk)
  pub state : new.state ≡ Holds place sequence

-- the slot that a put fills, and its sequence: the first one, and 1, where nothing is kept; else
-- the slot that does not count, and one more
abbrev pub IsNextOf : SlotState → Place → ℕ → Type 0
IsNextOf Stopped place sequence = ⊥
IsNextOf Empty place sequence = (place ≡ First) × (sequence ≡ 1)
IsNextOf (Holds full last) place sequence =
    (place ≡ other_than full) × (sequence ≡ last + 1)

-- a body is put in the next slot, with the next sequence
pub record IsPutNext
    {D : Type 0} (meaning : DiskMeaning D) (body : List ℕ) (old new : SlotCellOf D) : Type 0 where
  pub place : Place
  pub sequence : ℕ
  pub is_next : IsNextOf old.state place sequence
  pub replaced : IsCellReplaced meaning place sequence body old new
