-- What each step of a put and of a restart does to the two slots of a cell's disk, where it is done
-- and where it fails: this project's own.
use Rattle.std.specs.Prelude.{◌≡◌, ◌≢◌, ◌⊎◌, ◌↔◌, ℕ, Bool, true, List, replicate}
use Rattle.duk_store.specs.Disk.{DiskState, HasFailed, PreservesBytes, PreservesDisk, LeavesChanged, LeavesReads, LeavesWithin}
use Rattle.duk_store.specs.SlotFormat.{IsBlank, IsOpen, after_commit, cell_disk_size, commit_of, other_than, slot_at}
use Rattle.duk_store.specs.inner.SlotFormat.{Says, SlotsSay, contents_of}
use Rattle.duk_store.specs.declared.fault.StoreFault.{StoreFault}
use Rattle.duk_store.specs.declared.fault.StoreFault.TheVariants.{Damaged, Device}
use Rattle.duk_store.specs.declared.slot_format.Place.{Place}
use Rattle.duk_store.specs.declared.slot_format.Place.TheVariants.{First, Second}
use Rattle.duk_store.specs.declared.slot_format.Slot.{Slot}
use Rattle.duk_store.specs.declared.slot_format.Slots.{Slots}

-- what a step may do to the bytes of a disk, or of a slot
abbrev pub Change : Type 1
Change = List ℕ → List ℕ → Type 0

-- a step is done: a stop leaves what a read gives, which comes by this change from what a stop
-- could leave before
pub record IsStepDone (change : Change) (old new : DiskState) : Type 0 where
  pub nature : PreservesDisk old new
  pub no_failure : new.failures ≡ old.failures
  pub leaves : old.honest → LeavesReads new
  pub changed : old.honest → (before : List ℕ) × old.may_leave before × change before new.reads

-- a device step failed: whatever a stop leaves comes by this change from what it could leave before
pub record IsStepFailed (change : Change) (old new : DiskState) (fault : StoreFault) : Type 0 where
  pub nature : PreservesDisk old new
  pub failed : HasFailed old new fault
  pub changed : LeavesChanged change old new

-- the slot at this place changes so, and the other one stays
pub record ChangesAt (place : Place) (change : Change) (before after : List ℕ) : Type 0 where
  pub this : change (slot_at place before) (slot_at place after)
  pub beside : slot_at (other_than place) after ≡ slot_at (other_than place) before

-- a slot is filled and opened
pub record IsFilled (sequence : ℕ) (body before after : List ℕ) : Type 0 where
  pub is_open : IsOpen after
  pub contents : after_commit after ≡ contents_of sequence body

-- it is filled in part: its commit byte is as it was, or its sequence and body are whole after any
-- commit byte
abbrev pub IsPartlyFilled : ℕ → List ℕ → Change
IsPartlyFilled sequence body before after =
    (commit_of after ≡ commit_of before) ⊎ (after_commit after ≡ contents_of sequence body)

-- a slot is closed; in part, any commit byte stands before its contents
pub record IsClosed (before after : List ℕ) : Type 0 where
  pub commit : commit_of after ≡ 0
  pub contents : after_commit after ≡ after_commit before

abbrev pub IsPartlyClosed : Change
IsPartlyClosed before after = after_commit after ≡ after_commit before

-- a slot is wiped; in part, any bytes stand after its commit byte
pub record IsWiped (before after : List ℕ) : Type 0 where
  pub commit : commit_of after ≡ commit_of before
  pub zeros : after_commit after ≡ replicate 511 0

abbrev pub IsPartlyWiped : Change
IsPartlyWiped before after = commit_of after ≡ commit_of before

-- both slots are wiped
pub record IsWipedBoth (before after : List ℕ) : Type 0 where
  pub commits : (place : Place) → commit_of (slot_at place after) ≡ commit_of (slot_at place before)
  pub zeros : (place : Place) → after_commit (slot_at place after) ≡ replicate 511 0

-- the commit bytes of both slots stay, and any bytes may stand after them
abbrev pub BothCommitsStay : Change
BothCommitsStay before after =
    (place : Place) → commit_of (slot_at place after) ≡ commit_of (slot_at place before)

-- both are wiped in part: the second slot stays until the first one is wiped
pub record IsPartlyWipedBoth (before after : List ℕ) : Type 0 where
  pub commits : BothCommitsStay before after
  pub in_turn : (slot_at Second after ≡ slot_at Second before)
      ⊎ (after_commit (slot_at First after) ≡ replicate 511 0)

-- a slot is read, and nothing changes
pub record IsRead (place : Place) (old new : DiskState) (slot : Slot) : Type 0 where
  pub nature : PreservesDisk old new
  pub no_failure : new.failures ≡ old.failures
  pub bytes : PreservesBytes old new
  pub says : old.honest → Says (slot_at place old.reads) slot

-- the disk is brought up, and both of its slots are read: a stop leaves what a read gives, which is
-- one of the states that a stop could leave before
pub record IsFound (old new : DiskState) (slots : Slots) : Type 0 where
  pub done : IsStepDone (◌≡◌) old new
  pub disarmed : new.disarmed
  pub size : new.size ≡ cell_disk_size
  pub says : old.honest → SlotsSay new.reads slots

-- the disk has another size than two slots
pub record HasOtherSize (old new : DiskState) : Type 0 where
  pub nature : PreservesDisk old new
  pub no_failure : new.failures ≡ old.failures
  pub within : LeavesWithin old new
  pub size : old.size ≢ cell_disk_size

-- why the slots are not found
abbrev pub IsFindFault : DiskState → DiskState → StoreFault → Type 0
IsFindFault old new Device = IsStepFailed (◌≡◌) old new Device
IsFindFault old new Damaged = HasOtherSize old new
IsFindFault old new _ = ⊥

pub record FindFailed (old new : DiskState) (fault : StoreFault) : Type 0 where
  pub disarmed : new.disarmed
  pub cause : IsFindFault old new fault

-- a slot is emptied: closed, and wiped
pub record IsEmptied (before after : List ℕ) : Type 0 where
  pub commit : commit_of after ≡ 0
  pub zeros : after_commit after ≡ replicate 511 0

-- it is emptied in part: not wiped yet, or closed, with any bytes after its commit byte
abbrev pub IsPartlyEmptied : Change
IsPartlyEmptied before after = (after_commit after ≡ after_commit before) ⊎ (commit_of after ≡ 0)

-- a slot is cleared: closed if it was open, and wiped
pub record IsCleared (before after : List ℕ) : Type 0 where
  pub blank : IsBlank after
  pub commit : ¬ IsOpen before → commit_of after ≡ commit_of before

-- it is cleared in part: the commit byte of an open slot is torn, or the slot is closed, with any
-- bytes after its commit byte, which is as it was where it was closed before
abbrev pub IsPartlyCleared : Change
IsPartlyCleared before after =
    (IsOpen before × (after_commit after ≡ after_commit before))
    ⊎ (¬ IsOpen after × (¬ IsOpen before → commit_of after ≡ commit_of before))

-- the disk has one image, of which this says whether the slot at a place is open
pub record KnowsCommit (place : Place) (is_open : Bool) (disk : DiskState) : Type 0 where
  pub leaves : LeavesReads disk
  pub commit : (is_open ≡ true) ↔ IsOpen (slot_at place disk.reads)
