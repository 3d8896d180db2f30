-- A journal of entries on a disk, as records of its format: this project's own.
use Rattle.std.specs.Prelude.{◌<◌, ◌^◌, ℕ, Option, None}
use Rattle.duk_store.specs.DiskRecords.{IsFreshDisk, IsSoundDisk, RecordsOf, records_meaning, records_state}
use Rattle.duk_store.specs.Disk.{DiskMeaning, DiskState}
use Rattle.duk_store.specs.StoreState.{StoreState}
use Rattle.duk_journal.specs.CheckedFormat.{checked_format}
use Rattle.duk_journal.specs.Groups.{Entries}
use Rattle.duk_journal.specs.Header.{header_of, journal_kind}
use Rattle.duk_journal.specs.Journal.{JournalMeaning}
use Rattle.duk_journal.specs.declared.checked_format.CheckedFormat.{CheckedFormat}

-- a journal on a disk: its records
abbrev pub DiskJournalOf : Type 0 → Type 0
DiskJournalOf D = RecordsOf D CheckedFormat

-- a journal as it is made: it is stopped
abbrev pub new_disk_journal : {D : Type 0} → D → DiskJournalOf D
new_disk_journal disk = record { disk = disk; format = record {}; kept = None }

-- the disk has the size of a journal's, and all bytes that a stop could leave keep some list
abbrev pub IsSoundJournalDisk : DiskState → Type 0
IsSoundJournalDisk disk = IsSoundDisk checked_format disk

-- the state of a journal, by that of its disk
abbrev pub disk_journal_state : DiskState → Option ℕ → StoreState Entries
disk_journal_state disk kept = records_state checked_format disk kept

-- what journals on the disks of one kind mean
abbrev pub disk_journal_meaning : {D : Type 0} → DiskMeaning D → JournalMeaning (DiskJournalOf D)
disk_journal_meaning meaning = records_meaning meaning (λ format. checked_format)

-- a disk of which a stop leaves the header with this identity, and zero bytes behind it, whether or not
-- a device step is to fail
pub record IsFreshJournalDisk (identity : ℕ) (disk : DiskState) : Type 0 where
  pub identity_fits : identity < 2 ^ 64
  pub fresh : IsFreshDisk checked_format (header_of journal_kind identity) disk

-- a new disk
pub record IsBlankJournalDisk (identity : ℕ) (disk : DiskState) : Type 0 where
  pub honest : disk.honest
  pub calm : disk.calm
  pub fresh : IsFreshJournalDisk identity disk
