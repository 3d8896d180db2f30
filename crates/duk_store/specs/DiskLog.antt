-- A log of used numbers on a disk, as records of its format: this project's own.
use Rattle.std.specs.Prelude.{◌≡◌, ◌/◌, ℕ, Option, None}
use Rattle.duk_store.specs.Disk.{DiskMeaning, DiskState}
use Rattle.duk_store.specs.DiskRecords.{IsSoundDisk, IsZeroDisk, MayFindItems, RecordsOf, count_in, records_state}
use Rattle.duk_store.specs.Log.{LogMeaning, Numbers}
use Rattle.duk_store.specs.LogFormat.{log_format}
use Rattle.duk_store.specs.RecordFormat.{record_length}
use Rattle.duk_store.specs.StoreState.{StoreState}
use Rattle.duk_store.specs.declared.log_format.LogFormat.{LogFormat}

-- a log on a disk: its records
abbrev pub DiskLogOf : Type 0 → Type 0
DiskLogOf D = RecordsOf D LogFormat

-- a log as it is made: it is stopped
abbrev pub new_disk_log : {D : Type 0} → D → DiskLogOf D
new_disk_log disk = record { disk = disk; format = record {}; kept = None }

-- a restart may find this list: some bytes that a stop could leave keep it
abbrev pub MayFindNumbers : DiskState → Numbers → Type 0
MayFindNumbers disk numbers = MayFindItems log_format disk numbers

-- the disk has the size of a log's, and all bytes that a stop could leave keep some list
abbrev pub IsSoundLogDisk : DiskState → Type 0
IsSoundLogDisk disk = IsSoundDisk log_format disk

-- the state of a log, by that of its disk
abbrev pub disk_log_state : DiskState → Option ℕ → StoreState Numbers
disk_log_state disk kept = records_state log_format disk kept

-- what logs on the disks of one kind mean
abbrev pub disk_log_meaning : {D : Type 0} → DiskMeaning D → LogMeaning (DiskLogOf D)
disk_log_meaning meaning = record {
  state_of = λ log. disk_log_state (meaning.state_of log.disk) log.kept;
  count = λ log. count_in log.kept;
  capacity = λ log. (meaning.state_of log.disk).size / record_length;
  disarmed = λ log. (meaning.state_of log.disk).disarmed;
  arms = λ old steps new. meaning.arms old.disk steps new.disk × (new.kept ≡ old.kept);
}

-- a disk of which a stop leaves zero bytes, whether or not a device step is to fail
abbrev pub IsZeroLogDisk : DiskState → Type 0
IsZeroLogDisk disk = IsZeroDisk log_format disk

-- a new disk
pub record IsBlankLogDisk (disk : DiskState) : Type 0 where
  pub honest : disk.honest
  pub calm : disk.calm
  pub zero : IsZeroLogDisk disk
