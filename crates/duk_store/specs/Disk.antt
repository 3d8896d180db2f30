-- What a disk means, and what its calls do to that: this project's own. A stop may leave any bytes
-- where something was written since the last sync that succeeded, and leaves all others.
use Rattle.std.specs.Prelude.{◌≡◌, ◌≢◌, ◌⊎◌, ◌↔◌, ◌+◌, ◌<◌, ◌≤◌, ◌++◌, ℕ, List, length, take, drop, slice_index}
use Rattle.duk_store.specs.declared.fault.StoreFault.{StoreFault}
use Rattle.duk_store.specs.declared.fault.StoreFault.TheVariants.{Device}

-- what may be said of a disk
pub record DiskState : Type 1 where
  -- it keeps to this model, so that what is said of its bytes is so
  pub honest : Type 0
  -- no device step fails
  pub calm : Type 0
  -- no device step is to fail on account of arming
  pub disarmed : Type 0
  -- how many bytes it has
  pub size : ℕ
  -- how many device steps have failed, modulo a power of two
  pub failures : ℕ
  -- the bytes that a read gives
  pub reads : List ℕ
  -- the bytes that a stop could leave
  pub may_leave : List ℕ → Type 0

-- what the disks of one kind mean
pub record DiskMeaning (D : Type 0) : Type 1 where
  pub state_of : D → DiskState
  -- how arming with a number of steps leaves it
  pub arms : D → ℕ → D → Type 0

-- what a read gives is one of the states that a stop could leave
abbrev pub ReadsMayStay : DiskState → Type 0
ReadsMayStay disk = disk.honest → disk.may_leave disk.reads

-- each state that a stop could leave has the size of the disk
abbrev pub LeavesItsSize : DiskState → Type 0
LeavesItsSize disk =
    disk.honest → (bytes : List ℕ) → disk.may_leave bytes → length bytes ≡ disk.size

-- what no call changes: honesty and size stay, and calm and disarming end by arming alone
pub record PreservesDisk (old new : DiskState) : Type 0 where
  pub honest : old.honest ↔ new.honest
  pub size : new.size ≡ old.size
  pub calm : old.calm → new.calm
  pub disarmed : old.disarmed → new.disarmed

-- a disk that is to fail on account of arming still is
abbrev pub StaysArmed : DiskState → DiskState → Type 0
StaysArmed old new = new.disarmed → old.disarmed

-- a device step failed
pub record HasFailed (old new : DiskState) (fault : StoreFault) : Type 0 where
  pub fault_is : fault ≡ Device
  pub failure : new.failures ≢ old.failures
  pub not_calm : ¬ old.calm

-- a read gives what it gave, and a stop could leave what it could leave
pub record PreservesBytes (old new : DiskState) : Type 0 where
  pub reads : new.reads ≡ old.reads
  pub may_leave : (bytes : List ℕ) → new.may_leave bytes ↔ old.may_leave bytes

-- the bytes of this range
abbrev pub range_of : ℕ → ℕ → List ℕ → List ℕ
range_of at count bytes = take count (drop at bytes)

-- bytes with these written over them from this place on
abbrev pub written : List ℕ → ℕ → List ℕ → List ℕ
written old at bytes = take at old ++ (bytes ++ drop (at + length bytes) old)

-- bytes that differ from the old ones in this range alone
pub record DiffersWithin (at count : ℕ) (old new : List ℕ) : Type 0 where
  pub same_length : length new ≡ length old
  pub outside : (place : ℕ) → (place < at) ⊎ (at + count ≤ place)
      → slice_index new place ≡ slice_index old place

-- each state that a stop could leave now comes by this change from one that it could leave before
abbrev pub LeavesChanged : (List ℕ → List ℕ → Type 0) → DiskState → DiskState → Type 0
LeavesChanged change old new =
    old.honest → (bytes : List ℕ) → new.may_leave bytes
    → (before : List ℕ) × old.may_leave before × change before bytes

-- a stop could leave nothing that it could not leave before
abbrev pub LeavesWithin : DiskState → DiskState → Type 0
LeavesWithin old new = old.honest → (bytes : List ℕ) → new.may_leave bytes → old.may_leave bytes

-- a stop leaves what a read gives
abbrev pub LeavesReads : DiskState → Type 0
LeavesReads disk = (bytes : List ℕ) → disk.may_leave bytes ↔ (bytes ≡ disk.reads)

-- all is synced: a read gives what it gave, and a stop leaves that
pub record IsSynced (old new : DiskState) : Type 0 where
  pub reads : new.reads ≡ old.reads
  pub leaves : LeavesReads new

-- an armed disk is as it was, but for calm
pub record StaysButArmed (old new : DiskState) : Type 0 where
  pub honest : old.honest ↔ new.honest
  pub size : new.size ≡ old.size
  pub no_failure : new.failures ≡ old.failures
  pub bytes : PreservesBytes old new
