-- A list of items in the records of a disk: this project's own.
use Rattle.std.specs.Prelude.{◌≡◌, ◌↔◌, ◌≤◌, ◌*◌, ◌/◌, ◌-◌, ◌++◌, ℕ, Bool, true, false, List, [], length, replicate, Option, Some, None}
use Rattle.duk_store.specs.Disk.{DiskMeaning, DiskState}
use Rattle.duk_store.specs.StoreState.{StoreState}
use Rattle.duk_store.specs.Format.{FormatMeaning}
use Rattle.duk_store.specs.Listed.{ListMeaning}
use Rattle.duk_store.specs.Records.{IsRecordsSize, KeepsItems}

-- records on a disk: the disk, their format, and how many items are kept, while they run
pub record RecordsOf (D F : Type 0) : Type 0 where
  pub disk : D
  pub format : F
  pub kept : Option ℕ

-- records as they are made: they are stopped
abbrev pub new_records : {D F : Type 0} → D → F → RecordsOf D F
new_records disk format = record { disk = disk; format = format; kept = None }

-- whether they run, and how many items they count
abbrev pub are_running : Option ℕ → Bool
are_running None = false
are_running (Some count) = true

abbrev pub count_in : Option ℕ → ℕ
count_in None = 0
count_in (Some count) = count

-- a restart may find this list: some bytes that a stop could leave keep it
abbrev pub MayFindItems : {I : Type 0} → FormatMeaning I → DiskState → List I → Type 0
MayFindItems format disk items =
    (bytes : List ℕ) × disk.may_leave bytes × KeepsItems format bytes items

-- the disk has a size of the format's, and all bytes that a stop could leave keep some list
pub record IsSoundDisk {I : Type 0} (format : FormatMeaning I) (disk : DiskState) : Type 0 where
  pub size : IsRecordsSize format disk.size
  pub each_keeps : (bytes : List ℕ) → disk.may_leave bytes
      → (items : List I) × KeepsItems format bytes items

-- the state of records, by that of their disk
abbrev pub records_state :
    {I : Type 0} → FormatMeaning I → DiskState → Option ℕ → StoreState (List I)
records_state format disk kept = record {
  honest = disk.honest;
  sound = IsSoundDisk format disk;
  calm = disk.calm;
  running = are_running kept;
  found = MayFindItems format disk;
  failures = disk.failures;
}

-- for how many items a disk of this size has records
abbrev pub capacity_of : {I : Type 0} → FormatMeaning I → ℕ → ℕ
capacity_of format size = size / format.record_length - format.headers

-- what records of one format on the disks of one kind mean
abbrev pub records_meaning :
    {D F I : Type 0} → DiskMeaning D → (F → FormatMeaning I) → ListMeaning (RecordsOf D F) I
records_meaning meaning format = record {
  state_of = λ records.
      records_state (format records.format) (meaning.state_of records.disk) records.kept;
  count = λ records. count_in records.kept;
  capacity = λ records.
      capacity_of (format records.format) (meaning.state_of records.disk).size;
  disarmed = λ records. (meaning.state_of records.disk).disarmed;
  arms = λ old steps new. meaning.arms old.disk steps new.disk
      × ((new.format ≡ old.format) × (new.kept ≡ old.kept));
}

-- a disk of which a stop leaves no item, whether or not a device step is to fail
pub record IsEmptyDisk {I : Type 0} (format : FormatMeaning I) (disk : DiskState) : Type 0 where
  pub size : IsRecordsSize format disk.size
  pub leaves_some : (bytes : List ℕ) × disk.may_leave bytes
  pub each_empty : (bytes : List ℕ) → disk.may_leave bytes → KeepsItems format bytes []

-- a new disk
pub record IsBlankDisk {I : Type 0} (format : FormatMeaning I) (disk : DiskState) : Type 0 where
  pub honest : disk.honest
  pub calm : disk.calm
  pub empty : IsEmptyDisk format disk

-- a disk of which a stop leaves zero bytes
pub record IsZeroDisk {I : Type 0} (format : FormatMeaning I) (disk : DiskState) : Type 0 where
  pub size : IsRecordsSize format disk.size
  pub zeros : (bytes : List ℕ) → disk.may_leave bytes ↔ (bytes ≡ replicate disk.size 0)

-- the bytes are a header of the format, which are none where it has none
pub record IsHeaderOf {I : Type 0} (format : FormatMeaning I) (header : List ℕ) : Type 0 where
  pub whole : length header ≡ format.record_length * format.headers
  pub header_is : 1 ≤ format.headers → format.is_header header

-- a disk of which a stop leaves this header, and zero bytes behind it
pub record IsFreshDisk
    {I : Type 0} (format : FormatMeaning I) (header : List ℕ) (disk : DiskState) : Type 0 where
  pub size : IsRecordsSize format disk.size
  pub header_is : IsHeaderOf format header
  pub fresh : (bytes : List ℕ)
      → disk.may_leave bytes ↔ (bytes ≡ header ++ replicate (disk.size - length header) 0)
