-- What `new-log`, `new-journal` and `new-ledger` make (this project's own).
use Rattle.std.specs.Prelude.{⊤, ◌≢◌, ◌≡◌, ◌≤◌, ◌+◌, ◌*◌, ◌⊎◌, ℕ, List, [], codes}
use Rattle.duk_commands.specs.Decimal.{IsDecimal}
use Rattle.duk_journal_copy.specs.Blank.{IsBlankWritten, IsFileBegun, IsJournalBegun}
use Rattle.duk_journal_copy.specs.InPart.{IsNoJournal}
use Rattle.duk_journal.specs.DiskJournal.{IsFreshJournalDisk}
use Rattle.duk_journal.specs.Groups.{Entries, KeepsChecked}
use Rattle.duk_journal.specs.RecordFormat.{IsJournalSize}
use Rattle.duk_ledger.specs.Issued.{Issues}
use Rattle.duk_ledger.specs.IssuedFormat.{ledger_kind}
use Rattle.duk_ledger.specs.Ledger.{IsFreshLedgerDisk, KeepsIssues}
use Rattle.duk_service.specs.LogFiles.{IsDisk, IsFolderSynced, IsFolderUnsynced, IsNoDisk, MakingKnown}
use Rattle.duk_service.specs.OwnFiles.{BeginAsNone}
use Rattle.duk_service.specs.declared.left_records.RecordFormat.{RecordFormat}
use Rattle.duk_service.specs.declared.left_records.RecordFormat.TheVariants as kind
use Rattle.duk_service.specs.declared.new_file.NewFile.{NewFile}
use Rattle.duk_service.specs.declared.new_file.NewFile.TheVariants.{Journal, Ledger, Log}
use Rattle.duk_service.specs.declared.new_file.NewFileFault.{NewFileFault}
use Rattle.duk_service.specs.declared.new_file.NewFileFault.TheVariants as fault
use Rattle.duk_store.specs.Disk.{DiskMeaning, DiskState, HasFailed}
use Rattle.duk_store.specs.DiskLog.{IsZeroLogDisk}
use Rattle.duk_store.specs.declared.fault.StoreFault.TheVariants.{Device}

-- what the records of a new file are
abbrev pub format_of : NewFile → RecordFormat
format_of Log = kind.Log
format_of (Journal identity) = kind.Journal
format_of (Ledger identity) = kind.Ledger

-- the most records of which a log, a journal or a ledger may be made
abbrev pub most_records : ℕ
most_records = 1000000000

-- a text that says for how many numbers, entries or issues there is room: a decimal number of 1 to 1000000000
pub record IsRecordCount (text : List ℕ) (records : ℕ) : Type 0 where
  pub decimal : IsDecimal most_records text records
  pub some : 1 ≤ records

-- the bytes of a log, a journal or a ledger with room for so many: in front of the last two stands a
-- header
abbrev pub file_size : NewFile → ℕ → ℕ
file_size Log records = 16 * records
file_size (Journal identity) records = 32 * (1 + records)
file_size (Ledger identity) records = 32 * (1 + records)

-- what is written over all of a disk: zeros, or a header and zeros
abbrev pub IsWrittenAnew : NewFile → DiskState → DiskState → Type 0
IsWrittenAnew Log made last = IsBlankWritten made last
IsWrittenAnew (Journal identity) made last = IsJournalBegun identity made last
IsWrittenAnew (Ledger identity) made last = IsFileBegun ledger_kind identity made last

-- a disk on which a log keeps nothing, or a journal, or a ledger
abbrev pub KeepsNothingYet : NewFile → DiskState → Type 0
KeepsNothingYet Log disk = IsZeroLogDisk disk
KeepsNothingYet (Journal identity) disk = IsFreshJournalDisk identity disk
KeepsNothingYet (Ledger identity) disk = IsFreshLedgerDisk identity disk

-- a file of this size is made, its disk is written anew and synced, and its folder is synced; where the
-- disk is honest, nothing is kept there
pub record IsBlankMade (new : NewFile) {D : Type 0} (meaning : DiskMeaning D)
    (known : MakingKnown D) (size : ℕ) : Type 0 where
  pub made : D
  pub last : D
  pub is_made : IsDisk (known.disk size) made
  pub size_is : (meaning.state_of made).size ≡ size
  pub written : IsWrittenAnew new (meaning.state_of made) (meaning.state_of last)
  pub blank : (meaning.state_of made).honest → KeepsNothingYet new (meaning.state_of last)
  pub folder : IsFolderSynced known.folder

-- what `new-log`, `new-journal` and `new-ledger` make
pub record HasMadeFile (new : NewFile) {D : Type 0} (meaning : DiskMeaning D)
    (known : MakingKnown D) (text : List ℕ) : Type 0 where
  pub records : ℕ
  pub asked : IsRecordCount text records
  pub made : IsBlankMade new meaning known (file_size new records)

-- these entries were to be written over a disk that was made for a journal: whenever it is stopped,
-- what is left of it is no journal, or keeps them
abbrev pub IsNoneOrWhole : Entries → DiskState → DiskState → Type 0
IsNoneOrWhole entries made last =
    made.honest → IsJournalSize made.size → (bytes : List ℕ) → last.may_leave bytes
    → IsNoJournal bytes ⊎ KeepsChecked bytes entries

-- bytes are those of no ledger of either version: they keep no issues, and not none either, and their
-- first record is neither a header nor such as a ledger in the form of a log begins with
pub record IsNoLedger (bytes : List ℕ) : Type 0 where
  pub keeps_none : (issues : Issues) → ¬ KeepsIssues bytes issues
  pub begins_none : BeginAsNone kind.Ledger bytes

-- a ledger that keeps nothing was to be written over a disk that was made for it: whenever that is
-- stopped, what is left of it is no ledger of either version, or is so
abbrev pub IsNoLedgerOrNew : DiskState → DiskState → Type 0
IsNoLedgerOrNew made last =
    made.honest → IsJournalSize made.size → (bytes : List ℕ) → last.may_leave bytes
    → IsNoLedger bytes ⊎ KeepsIssues bytes []

-- what may be left of a disk that is made in part: of a journal's no journal, or one that keeps
-- nothing, and of a ledger's likewise. A log's is zeros from its making on, which zeros are written
-- over: nothing is said of it
abbrev pub IsLeftInPart : NewFile → DiskState → DiskState → Type 0
IsLeftInPart Log made last = ⊤
IsLeftInPart (Journal identity) made last = IsNoneOrWhole [] made last
IsLeftInPart (Ledger identity) made last = IsNoLedgerOrNew made last

-- a file is made, and has another size, or a step of it failed, or its folder cannot be synced; what
-- may be left of it is as this says of its disk, as it was made and as it was last
pub record IsMadeInPart {D : Type 0} (meaning : DiskMeaning D) (known : MakingKnown D) (size : ℕ)
    (left : DiskState → DiskState → Type 0) : Type 0 where
  pub made : D
  pub last : D
  pub is_made : IsDisk (known.disk size) made
  pub failed : ((meaning.state_of made).size ≢ size)
      ⊎ HasFailed (meaning.state_of made) (meaning.state_of last) Device
      ⊎ IsFolderUnsynced known.folder
  pub left_is : left (meaning.state_of made) (meaning.state_of last)

-- why no file of this size is made: it cannot be, or not whole
abbrev pub IsUnmade : {D : Type 0} → DiskMeaning D → MakingKnown D → ℕ
    → (DiskState → DiskState → Type 0) → Type 0
IsUnmade meaning known size left =
    IsNoDisk (known.disk size) ⊎ IsMadeInPart meaning known size left

-- a log, a journal or a ledger of so many records as a text says is not made
pub record IsFileUnmade (new : NewFile) {D : Type 0} (meaning : DiskMeaning D)
    (known : MakingKnown D) (text : List ℕ) : Type 0 where
  pub records : ℕ
  pub asked : IsRecordCount text records
  pub unmade : IsUnmade meaning known (file_size new records) (IsLeftInPart new)

-- why none is made; memory may be refused at any time once the number is read
abbrev pub IsNewFileRefused : NewFile → {D : Type 0} → DiskMeaning D → MakingKnown D → List ℕ
    → NewFileFault → Type 0
IsNewFileRefused new meaning known text fault.RecordsRefused =
    (records : ℕ) → ¬ IsRecordCount text records
IsNewFileRefused new meaning known text fault.Unmade = IsFileUnmade new meaning known text
IsNewFileRefused new meaning known text fault.OutOfMemory =
    (records : ℕ) × IsRecordCount text records

-- the line of a fault, LF at its end
abbrev pub new_file_line : RecordFormat → NewFileFault → List ℕ
new_file_line format fault.RecordsRefused = codes "records refused\n"
new_file_line kind.Log fault.Unmade = codes "log: cannot make\n"
new_file_line kind.Journal fault.Unmade = codes "journal: cannot make\n"
new_file_line kind.Ledger fault.Unmade = codes "ledger: cannot make\n"
new_file_line format fault.OutOfMemory = codes "out of memory\n"
