-- What `grow-journal` does to a file (this project's own).
use Rattle.std.specs.Prelude.{◌≡◌, ◌≢◌, ◌⊎◌, ◌≤◌, ◌<◌, ◌+◌, ◌*◌, ◌-◌, ◌/◌, ◌++◌, ℕ, List, codes, replicate}
use Rattle.duk_journal.specs.Groups.{Entries, KeepsChecked}
use Rattle.duk_journal_copy.specs.declared.version.Version.TheVariants.{One, Two}
use Rattle.duk_service.specs.LeftRecords.{IsLeftBy, record_length}
use Rattle.duk_service.specs.LogFiles.{DiskKnown, IsDisk, IsNoDisk}
use Rattle.duk_service.specs.NewFile.{IsRecordCount}
use Rattle.duk_service.specs.OwnFiles.{IsJournalOf, IsReadDisk}
use Rattle.duk_service.specs.ServeFault.{open_line}
use Rattle.duk_service.specs.declared.grow_journal.GrowJournalFault.{GrowJournalFault}
use Rattle.duk_service.specs.declared.grow_journal.GrowJournalFault.TheVariants as fault
use Rattle.duk_service.specs.declared.left_records.Layout.{Layout}
use Rattle.duk_service.specs.declared.left_records.Layout.TheVariants.{Journal}
use Rattle.duk_service.specs.declared.left_records.RecordFormat.TheVariants as kind
use Rattle.duk_service.specs.declared.own_files.OpenFault.TheVariants as open_fault
use Rattle.duk_store.specs.Disk.{DiskMeaning, DiskState, HasFailed, LeavesReads}
use Rattle.duk_store.specs.declared.fault.StoreFault.TheVariants.{Device}

-- the most bytes that a file may have: places in a file have 63 bits
abbrev pub most_bytes : ℕ
most_bytes = 9223372036854775807

-- zeros that are less than a record stand behind bytes that a log or a journal leaves: so a stop leaves
-- its file that comes while it is made larger
pub record IsGrowable (layout : Layout) (bytes : List ℕ) : Type 0 where
  pub front : List ℕ
  pub rest : ℕ
  pub short : rest < record_length layout
  pub is : bytes ≡ front ++ replicate rest 0
  pub left : IsLeftBy layout front

-- the least size of whole records that has so many bytes
abbrev pub whole_size : ℕ → ℕ
whole_size size = 32 * ((size + 31) / 32)

-- how many zeros a file of this size is made longer by: what its last record lacks, and so many records
abbrev pub zeros_for : ℕ → ℕ → ℕ
zeros_for size records = whole_size size - size + 32 * records

-- so many zeros, at most, stand behind bytes
pub record HasZerosBehind (most : ℕ) (before after : List ℕ) : Type 0 where
  pub count : ℕ
  pub within : count ≤ most
  pub is : after ≡ before ++ replicate count 0

-- what bytes kept, these keep
abbrev pub KeepsWhatItKept : List ℕ → List ℕ → Type 0
KeepsWhatItKept before after =
    (entries : Entries) → KeepsChecked before entries → KeepsChecked after entries

-- a file whose disk is honest has what it had and so many zeros behind it, of which a stop leaves all,
-- and keeps what it kept
pub record IsLonger (zeros : ℕ) (opened last : DiskState) : Type 0 where
  pub bytes : last.reads ≡ opened.reads ++ replicate zeros 0
  pub leaves : LeavesReads last
  pub keeps : KeepsWhatItKept opened.reads last.reads

-- a stop leaves of a file what it could leave before, with some of so many zeros behind it, and what
-- that kept is kept
pub record IsLeftLonger (most : ℕ) (opened : DiskState) (bytes : List ℕ) : Type 0 where
  pub before : List ℕ
  pub could : opened.may_leave before
  pub zeros : HasZerosBehind most before bytes
  pub keeps : KeepsWhatItKept before bytes

-- the file is opened and only read: it is a journal's, or one that a stop left as it was made larger.
-- Its disk is this
pub record IsGrowableOpened {D : Type 0} (meaning : DiskMeaning D) (known : DiskKnown D) (disk : D)
    : Type 0 where
  pub opened : IsDisk known disk
  pub growable : (meaning.state_of disk).honest → IsGrowable (Journal Two) (meaning.state_of disk).reads

-- what `grow-journal` does: the file is opened, so many zeros are appended and synced as a text of
-- records says, and the file has them all then
pub record HasGrownJournal {D : Type 0} (meaning : DiskMeaning D) (known : DiskKnown D) (text : List ℕ)
    : Type 0 where
  pub records : ℕ
  pub asked : IsRecordCount text records
  pub disk : D
  pub opened : IsGrowableOpened meaning known disk
  pub last : D
  pub fits : (meaning.state_of last).size ≤ most_bytes
  pub size : (meaning.state_of last).size
      ≡ (meaning.state_of disk).size + zeros_for (meaning.state_of disk).size records
  pub longer : (meaning.state_of disk).honest
      → IsLonger (zeros_for (meaning.state_of disk).size records)
      (meaning.state_of disk) (meaning.state_of last)

-- a file that is opened would have more bytes than one may have: nothing is written
abbrev pub IsTooLarge : DiskState → ℕ → Type 0
IsTooLarge disk records = most_bytes < disk.size + zeros_for disk.size records

-- zeros were to be appended to a file that is opened: a call of it failed, or it has another size then.
-- A stop leaves it with some of them
pub record IsGrownInPart {D : Type 0} (meaning : DiskMeaning D) (disk : D) (records : ℕ)
    : Type 0 where
  pub last : D
  pub failed : (¬ (meaning.state_of disk).calm)
      ⊎ ((meaning.state_of last).size
      ≢ (meaning.state_of disk).size + zeros_for (meaning.state_of disk).size records)
  pub left : (meaning.state_of disk).honest → (bytes : List ℕ)
      → (meaning.state_of last).may_leave bytes
      → IsLeftLonger (zeros_for (meaning.state_of disk).size records) (meaning.state_of disk) bytes

-- a file that is opened is not made larger
pub record IsUngrown {D : Type 0} (meaning : DiskMeaning D) (known : DiskKnown D) (text : List ℕ)
    : Type 0 where
  pub records : ℕ
  pub asked : IsRecordCount text records
  pub disk : D
  pub opened : IsGrowableOpened meaning known disk
  pub cause : IsTooLarge (meaning.state_of disk) records ⊎ IsGrownInPart meaning disk records

-- why a disk that was read is none that may be made larger: a device step of it failed, or its bytes
-- are none of a journal, or those of one of version 1
abbrev pub IsNotGrowable : DiskState → DiskState → GrowJournalFault → Type 0
IsNotGrowable old new fault.Failed =
    HasFailed old new Device ⊎ (new.honest → ¬ IsGrowable (Journal Two) new.reads)
IsNotGrowable old new fault.OldVersion = new.honest → IsJournalOf One new.reads
IsNotGrowable old new _ = ⊥

-- the file's disk is opened, and is none that may be made larger; nothing is written
pub record IsNoGrowable {D : Type 0} (meaning : DiskMeaning D) (known : DiskKnown D) (text : List ℕ)
    (why : GrowJournalFault) : Type 0 where
  pub records : ℕ
  pub asked : IsRecordCount text records
  pub disk : D
  pub read : IsReadDisk meaning known (λ old new. IsNotGrowable old new why) disk

-- a number of records is asked for, and the file cannot be opened
pub record IsUnopened {D : Type 0} (known : DiskKnown D) (text : List ℕ) : Type 0 where
  pub records : ℕ
  pub asked : IsRecordCount text records
  pub no_disk : IsNoDisk known

-- why no journal is made larger
abbrev pub IsGrowJournalRefused : {D : Type 0} → DiskMeaning D → DiskKnown D → List ℕ
    → GrowJournalFault → Type 0
IsGrowJournalRefused meaning known text fault.RecordsRefused =
    (records : ℕ) → ¬ IsRecordCount text records
IsGrowJournalRefused meaning known text fault.Unopened = IsUnopened known text
IsGrowJournalRefused meaning known text fault.Ungrown = IsUngrown meaning known text
IsGrowJournalRefused meaning known text why = IsNoGrowable meaning known text why

-- the line of a fault, LF at its end
abbrev pub grow_journal_line : GrowJournalFault → List ℕ
grow_journal_line fault.RecordsRefused = codes "records refused\n"
grow_journal_line fault.Unopened = codes "journal: cannot open\n"
grow_journal_line fault.Failed = codes "journal: failed\n"
grow_journal_line fault.OldVersion = open_line kind.Journal open_fault.OldVersion
grow_journal_line fault.Ungrown = codes "journal: cannot grow\n"
