-- What `copy-ledger` makes (this project's own).
use Rattle.std.specs.Prelude.{◌≡◌, ◌≢◌, ◌⊎◌, ◌≤◌, ◌+◌, ◌*◌, ◌^◌, ℕ, List, None, codes}
use Rattle.duk_journal_copy.specs.Ledger.{AreInitial, IsLedgerCopied, issues_of}
use Rattle.duk_journal_copy.specs.declared.version.Version.{Version}
use Rattle.duk_journal_copy.specs.declared.version.Version.TheVariants.{One, Two}
use Rattle.duk_ledger.specs.Issued.{Issues}
use Rattle.duk_ledger.specs.IssuedFormat.{issued_format}
use Rattle.duk_ledger.specs.Ledger.{KeepsIssues}
use Rattle.duk_service.specs.LogFiles.{DiskKnown, IsDisk, IsFolderSynced, IsNoDisk, MakingKnown}
use Rattle.duk_service.specs.NewFile.{IsNoLedger, IsUnmade, new_file_line}
use Rattle.duk_service.specs.OwnFiles.{IsLedgerOf, IsReadDisk}
use Rattle.duk_service.specs.ServeFault.{open_line, store_line}
use Rattle.duk_service.specs.declared.copy_ledger.CopyLedgerFault.{CopyLedgerFault}
use Rattle.duk_service.specs.declared.copy_ledger.CopyLedgerFault.TheVariants as fault
use Rattle.duk_service.specs.declared.left_records.RecordFormat.TheVariants.{Ledger}
use Rattle.duk_service.specs.declared.new_file.NewFileFault.TheVariants.{OutOfMemory, Unmade}
use Rattle.duk_service.specs.declared.own_files.OpenFault.TheVariants as open_fault
use Rattle.duk_store.specs.Disk.{DiskMeaning, DiskState, HasFailed, LeavesWithin}
use Rattle.duk_store.specs.DiskLog.{DiskLogOf, new_disk_log}
use Rattle.duk_store.specs.DiskRecords.{IsSoundDisk, count_in, records_meaning, records_state}
use Rattle.duk_store.specs.Listed.{ListMeaning, length_of, room_of}
use Rattle.duk_store.specs.Log.{Numbers}
use Rattle.duk_store.specs.LogFormat.{log_format}
use Rattle.duk_store.specs.Records.{IsRecordsSize}
use Rattle.duk_store.specs.Restart.{RestartFailed, Restarted}
use Rattle.duk_store.specs.StoreState.{FindsOnly, StoreState}
use Rattle.duk_store.specs.declared.fault.StoreFault.{StoreFault}
use Rattle.duk_store.specs.declared.fault.StoreFault.TheVariants.{Device}
use Rattle.duk_tree.specs.Serial.{Serial}

-- where the file's disk is honest, its bytes are such as a ledger of a version leaves
abbrev pub IsLedgerDisk : Version → {D : Type 0} → DiskMeaning D → DiskKnown D → D → Type 0
IsLedgerDisk version meaning known disk = IsReadDisk meaning known
    (λ old new. new.honest → IsLedgerOf version new.reads) disk

-- what a ledger in the form of a log is, and what may be said of it: it is one of numbers
abbrev pub old_ledger_meaning : {D : Type 0} → DiskMeaning D → ListMeaning (DiskLogOf D) Serial
old_ledger_meaning meaning = records_meaning meaning (λ format. log_format)

abbrev pub old_ledger_state : {D : Type 0} → DiskMeaning D → DiskLogOf D → StoreState Numbers
old_ledger_state meaning ledger = (old_ledger_meaning meaning).state_of ledger

-- the bytes of its copy, which has as much room as it: for the numbers that it keeps, and for as many
-- more as it has room for. A record has 32 bytes, and in front of all stands a header
abbrev pub ledger_copy_size : {D : Type 0} → DiskMeaning D → DiskLogOf D → ℕ
ledger_copy_size meaning ledger = 32 * (1 + (length_of (old_ledger_meaning meaning) ledger
    + room_of (old_ledger_meaning meaning) ledger))

-- the ledger OLD is brought up: its disk is opened, its bytes are such as a ledger in the form of a log
-- leaves, and where the disk is honest a restart finds these numbers, and nothing else. A copy has twice
-- as many bytes then, and a header
pub record IsOldLedger {D : Type 0} (meaning : DiskMeaning D) (known : DiskKnown D) : Type 0 where
  pub opened : D
  pub last : DiskLogOf D
  pub numbers : Numbers
  pub is_opened : IsLedgerDisk One meaning known opened
  pub restarted : Restarted (old_ledger_state meaning (new_disk_log opened))
      (old_ledger_state meaning last) numbers
  pub doubled : (meaning.state_of opened).honest
      → ledger_copy_size meaning last ≡ 2 * (meaning.state_of opened).size + 32

-- the size of its copy
abbrev pub ledger_size_for : {D : Type 0} {meaning : DiskMeaning D} {known : DiskKnown D}
    → IsOldLedger meaning known → ℕ
ledger_size_for {D} {meaning} old = ledger_copy_size meaning old.last

-- what `copy-ledger` makes: OLD is brought up, and keeps the numbers of initial keys; a file with its
-- room is made, what OLD keeps is written over all of its disk with this identity, and synced, and its
-- folder is synced. Where both disks are honest, a ledger over the file finds the numbers of OLD in
-- their order, of none how its key was made, and nothing else, and its bytes are such as a ledger of
-- version 2 leaves, so that it is opened as one. OLD is as it was: a stop leaves nothing of it that it
-- could not leave before
pub record HasCopiedLedger (identity : ℕ) {D : Type 0} (meaning : DiskMeaning D)
    (known : DiskKnown D) (making : MakingKnown D) : Type 0 where
  pub old : IsOldLedger meaning known
  pub after : DiskLogOf D
  pub made : D
  pub last : D
  pub is_made : IsDisk (making.disk (ledger_size_for old)) made
  pub size_is : (meaning.state_of made).size ≡ ledger_size_for old
  pub written : IsLedgerCopied identity (count_in old.last.kept) (old_ledger_state meaning old.last)
      (meaning.state_of made) (meaning.state_of last)
  pub initial : (meaning.state_of old.opened).honest → AreInitial old.numbers
  pub finds : (meaning.state_of old.opened).honest → (meaning.state_of made).honest
      → FindsOnly (records_state issued_format (meaning.state_of last) None) (issues_of old.numbers)
  pub sound : (meaning.state_of old.opened).honest → (meaning.state_of made).honest
      → IsSoundDisk issued_format (meaning.state_of last)
  pub own : (meaning.state_of old.opened).honest → (meaning.state_of made).honest
      → IsLedgerOf Two (meaning.state_of last).reads
  pub old_stays : LeavesWithin (meaning.state_of old.opened) (meaning.state_of after.disk)
  pub folder : IsFolderSynced making.folder

-- a device step failed where OLD was looked at, or no ledger leaves its bytes: no file is made
abbrev pub IsNoOldLedger : {D : Type 0} → DiskMeaning D → DiskKnown D → Type 0
IsNoOldLedger {D} meaning known =
    ((disk : D) × IsReadDisk meaning known (λ old new. HasFailed old new Device) disk)
    ⊎ ((disk : D) × IsReadDisk meaning known (λ old new. new.honest → (version : Version)
    → ¬ IsLedgerOf version new.reads) disk)

-- OLD's disk is opened, and a ledger in the form of a log left its bytes, and it does not come up: a
-- device step failed in that, or it is damaged. No file is made
pub record IsOldDamaged {D : Type 0} (meaning : DiskMeaning D) (known : DiskKnown D) : Type 0 where
  pub opened : D
  pub last : DiskLogOf D
  pub why : StoreFault
  pub is_opened : IsLedgerDisk One meaning known opened
  pub refused : RestartFailed (old_ledger_state meaning (new_disk_log opened))
      (old_ledger_state meaning last) why

-- these issues were to be written over a disk that was made for a ledger: whenever it is stopped, what
-- is left of it is no ledger, or keeps them
abbrev pub IsNoLedgerOrWhole : Issues → DiskState → DiskState → Type 0
IsNoLedgerOrWhole issues made last =
    made.honest → IsRecordsSize issued_format made.size → (bytes : List ℕ) → last.may_leave bytes
    → IsNoLedger bytes ⊎ KeepsIssues bytes issues

-- whenever the disk that was made is stopped, it is no ledger, or keeps what an honest OLD keeps
abbrev pub IsNoLedgerOrCopy : {D : Type 0} (meaning : DiskMeaning D) (known : DiskKnown D)
    → IsOldLedger meaning known → DiskState → DiskState → Type 0
IsNoLedgerOrCopy meaning known old made last =
    (meaning.state_of old.opened).honest → IsNoLedgerOrWhole (issues_of old.numbers) made last

-- OLD is brought up, a file is made for it, and then a device step of OLD failed, or a number is that of
-- no initial key. OLD is as it was
pub record IsOldUncopied {D : Type 0} (meaning : DiskMeaning D) (known : DiskKnown D)
    (making : MakingKnown D) : Type 0 where
  pub old : IsOldLedger meaning known
  pub after : DiskLogOf D
  pub made : D
  pub last : D
  pub is_made : IsDisk (making.disk (ledger_size_for old)) made
  pub cause : ((meaning.state_of after.disk).failures ≢ (meaning.state_of old.last.disk).failures)
      ⊎ ((meaning.state_of old.opened).honest → ¬ AreInitial old.numbers)
  pub old_stays : LeavesWithin (meaning.state_of old.opened) (meaning.state_of after.disk)
  pub left_is : IsNoLedgerOrCopy meaning known old (meaning.state_of made) (meaning.state_of last)

-- OLD is brought up, and no file is made for it, or not whole; or no file has so many bytes. OLD is as
-- it was
pub record IsLedgerCopyUnmade {D : Type 0} (meaning : DiskMeaning D) (known : DiskKnown D)
    (making : MakingKnown D) : Type 0 where
  pub old : IsOldLedger meaning known
  pub after : DiskLogOf D
  pub old_stays : LeavesWithin (meaning.state_of old.opened) (meaning.state_of after.disk)
  pub unmade : (2 ^ 64 ≤ ledger_size_for old)
      ⊎ IsUnmade meaning making (ledger_size_for old) (IsNoLedgerOrCopy meaning known old)

-- why no ledger is copied; memory may be refused once OLD is opened, before the file is made
abbrev pub IsCopyLedgerRefused : {D : Type 0} → DiskMeaning D → DiskKnown D → MakingKnown D
    → CopyLedgerFault → Type 0
IsCopyLedgerRefused {D} meaning known making fault.OutOfMemory =
    (disk : D) × IsLedgerDisk One meaning known disk
IsCopyLedgerRefused meaning known making fault.Unopened = IsNoDisk known
IsCopyLedgerRefused {D} meaning known making fault.NewVersion =
    (disk : D) × IsLedgerDisk Two meaning known disk
IsCopyLedgerRefused meaning known making fault.Failed =
    IsNoOldLedger meaning known ⊎ IsOldDamaged meaning known ⊎ IsOldUncopied meaning known making
IsCopyLedgerRefused meaning known making fault.Unmade = IsLedgerCopyUnmade meaning known making

-- the line of a fault, LF at its end
abbrev pub copy_ledger_line : CopyLedgerFault → List ℕ
copy_ledger_line fault.OutOfMemory = new_file_line Ledger OutOfMemory
copy_ledger_line fault.Unopened = open_line Ledger open_fault.Unopened
copy_ledger_line fault.NewVersion = codes "ledger: version 2 already\n"
copy_ledger_line fault.Failed = store_line Ledger
copy_ledger_line fault.Unmade = new_file_line Ledger Unmade
