-- A disk in memory: this project's own.
use Rattle.std.specs.Prelude.{◌≡◌, ◌+◌, ◌-◌, ◌++◌, ℕ, Bool, true, false, List, length, take, drop, replicate, get_or, slice_index, None}
use Rattle.duk_store.specs.Disk.{DiskMeaning, DiskState, written}
use Rattle.duk_store.specs.DiskDevice.{DiskDevice, IsCalmDevice, armed_device, disarmed_device, failing_once, new_disk_device}
use Rattle.duk_store.specs.declared.memory_disk.Filling.{Filling}
use Rattle.duk_store.specs.declared.memory_disk.Filling.TheVariants.{Old, New, Fill}

-- what a disk in memory is: the bytes that a read gives; those that it gave after the last sync
-- that succeeded; those that it would give if each write since had succeeded; which of them were
-- written since; what a restart makes of these; and its device
pub record MemoryDisk : Type 0 where
  pub reads : List ℕ
  pub synced : List ℕ
  pub wanted : List ℕ
  pub unsynced : List Bool
  pub filling : Filling
  pub device : DiskDevice

-- a new disk: zeros, all of them synced, and a restart leaves what was synced
abbrev pub new_disk : ℕ → MemoryDisk
new_disk size = record {
  reads = replicate size 0;
  synced = replicate size 0;
  wanted = replicate size 0;
  unsynced = replicate size false;
  filling = Old;
  device = new_disk_device;
}

-- the same with these bytes in front
abbrev pub new_disk_with : List ℕ → ℕ → MemoryDisk
new_disk_with front size = record {
  reads = front ++ replicate (size - length front) 0;
  synced = front ++ replicate (size - length front) 0;
  wanted = front ++ replicate (size - length front) 0;
  unsynced = replicate size false;
  filling = Old;
  device = new_disk_device;
}

-- something was written at this place since the last sync that succeeded
abbrev pub IsUnsyncedAt : MemoryDisk → ℕ → Type 0
IsUnsyncedAt disk place = get_or disk.unsynced place false ≡ true

-- nothing was
abbrev pub IsSyncedAt : MemoryDisk → ℕ → Type 0
IsSyncedAt disk place = get_or disk.unsynced place false ≡ false

-- it keeps to the model of a disk: where nothing was written since the last sync, what was synced
-- is what a read gives and what is wanted
pub record IsHonestDisk (disk : MemoryDisk) : Type 0 where
  pub synced_length : length disk.synced ≡ length disk.reads
  pub wanted_length : length disk.wanted ≡ length disk.reads
  pub unsynced_length : length disk.unsynced ≡ length disk.reads
  pub reads_synced : (place : ℕ) → IsSyncedAt disk place
      → slice_index disk.reads place ≡ slice_index disk.synced place
  pub wanted_synced : (place : ℕ) → IsSyncedAt disk place
      → slice_index disk.wanted place ≡ slice_index disk.synced place

-- a stop could leave these bytes: those that were synced, but where something was written since
pub record CouldLeave (disk : MemoryDisk) (bytes : List ℕ) : Type 0 where
  pub same_length : length bytes ≡ length disk.reads
  pub as_synced : (place : ℕ) → IsSyncedAt disk place
      → slice_index bytes place ≡ slice_index disk.synced place

-- its state
abbrev pub memory_disk_state : MemoryDisk → DiskState
memory_disk_state disk = record {
  honest = IsHonestDisk disk;
  calm = IsCalmDevice disk.device;
  disarmed = disk.device.passes ≡ None;
  size = length disk.reads;
  failures = disk.device.failures;
  reads = disk.reads;
  may_leave = CouldLeave disk;
}

-- the disk, armed to fail at each step after so many
abbrev pub armed_disk : ℕ → MemoryDisk → MemoryDisk
armed_disk steps disk = record disk { device = armed_device steps disk.device }

-- the disk, asked to fail at one step, after so many
abbrev pub disk_failing_once : ℕ → MemoryDisk → MemoryDisk
disk_failing_once steps disk = record disk { device = failing_once steps disk.device }

-- what disks in memory mean
abbrev pub memory_disk_meaning : DiskMeaning MemoryDisk
memory_disk_meaning = record {
  state_of = memory_disk_state;
  arms = λ old steps new. new ≡ armed_disk steps old;
}

-- the same disk, but for its device
abbrev pub SameButDevice : MemoryDisk → MemoryDisk → Type 0
SameButDevice disk new = new ≡ record disk { device = new.device }

-- this range counts as written since the last sync
abbrev pub marked : ℕ → ℕ → List Bool → List Bool
marked at count unsynced = take at unsynced ++ (replicate count true ++ drop (at + count) unsynced)

-- the disk with a write that failed: its range counts as written, and its bytes are wanted
abbrev pub wanting : MemoryDisk → ℕ → List ℕ → MemoryDisk
wanting disk at bytes = record disk {
  wanted = written disk.wanted at bytes;
  unsynced = marked at (length bytes) disk.unsynced;
}

-- the disk with a write that succeeded: a read gives its bytes as well
abbrev pub written_disk : MemoryDisk → ℕ → List ℕ → MemoryDisk
written_disk disk at bytes = record (wanting disk at bytes) { reads = written disk.reads at bytes }

-- the disk with a sync that succeeded: what a read gives is what was synced and what is wanted, and
-- nothing was written since
abbrev pub synced_disk : MemoryDisk → MemoryDisk
synced_disk disk = record disk {
  synced = disk.reads;
  wanted = disk.reads;
  unsynced = replicate (length disk.reads) false;
}

-- the disk, armed no more
abbrev pub disarmed_disk : MemoryDisk → MemoryDisk
disarmed_disk disk = record disk { device = disarmed_device disk.device }

-- the byte that this filling leaves at a place that was written since the last sync
abbrev pub byte_left : Filling → MemoryDisk → ℕ → ℕ
byte_left Old disk place = slice_index disk.synced place
byte_left New disk place = slice_index disk.wanted place
byte_left (Fill byte) disk place = byte

-- each byte that was written since the last sync is what the filling leaves there, and nothing else
-- changes
pub record IsRefilled (old new : MemoryDisk) : Type 0 where
  pub disk_is : new ≡ record old { reads = new.reads }
  pub same_length : length new.reads ≡ length old.reads
  pub filled : (place : ℕ) → IsUnsyncedAt old place
      → slice_index new.reads place ≡ byte_left old.filling old place
  pub others : (place : ℕ) → IsSyncedAt old place
      → slice_index new.reads place ≡ slice_index old.reads place

-- Of what follows only the code of the disk speaks.
