-- The ways to open the file of a log, a journal or a ledger (this project's own).
use Rattle.std.specs.Prelude.{◌≡◌, ◌⊎◌, List, None, Option, Some, ℕ}
use Rattle.duk_journal_copy.specs.declared.version.Version.{Version}
use Rattle.duk_journal_copy.specs.declared.version.Version.TheVariants.{One, Two}
use Rattle.duk_service.specs.declared.reason.Strange.{Strange}
use Rattle.duk_service.specs.declared.reason.Strange.TheVariants as strange
use Rattle.duk_service.specs.LeftRecords.{HasFront, IsCut, IsForeignAt, IsLeftBy, layout_in, layout_of}
use Rattle.duk_service.specs.LogFiles.{DiskKnown, IsDisk, IsNoDisk}
use Rattle.duk_service.specs.declared.left_records.Layout.TheVariants as layout
use Rattle.duk_service.specs.declared.left_records.RecordFormat.{RecordFormat}
use Rattle.duk_service.specs.declared.left_records.RecordFormat.TheVariants.{Journal, Ledger, Log}
use Rattle.duk_service.specs.declared.own_files.OpenFault.{OpenFault}
use Rattle.duk_service.specs.declared.own_files.OpenFault.TheVariants as fault
use Rattle.duk_store.specs.Disk.{DiskMeaning, DiskState, HasFailed, PreservesBytes, PreservesDisk, StaysArmed}
use Rattle.duk_store.specs.declared.fault.StoreFault.TheVariants.{Device}

-- a disk was read, and that is all: a stop leaves what it left
pub record IsOnlyRead (old new : DiskState) : Type 0 where
  pub nature : PreservesDisk old new
  pub arming : StaysArmed old new
  pub bytes : PreservesBytes old new

-- the file's disk is opened, only read, and of this kind then
pub record IsReadDisk {D : Type 0} (meaning : DiskMeaning D) (known : DiskKnown D)
    (Is : DiskState → DiskState → Type 0) (disk : D) : Type 0 where
  pub opened : D
  pub is_opened : IsDisk known opened
  pub only_read : IsOnlyRead (meaning.state_of opened) (meaning.state_of disk)
  pub is : Is (meaning.state_of opened) (meaning.state_of disk)

-- ---- journals of either version

-- bytes are such as a journal of a version leaves. Those with a header are none of version 1
abbrev pub IsJournalOf : Version → List ℕ → Type 0
IsJournalOf One bytes =
    (¬ HasFront (layout.Journal Two) bytes) × IsLeftBy (layout.Journal One) bytes
IsJournalOf Two bytes = IsLeftBy (layout.Journal Two) bytes

-- where the file's disk is honest, its bytes are such
abbrev pub IsJournalDisk : Version → {D : Type 0} → DiskMeaning D → DiskKnown D → D → Type 0
IsJournalDisk version meaning known disk = IsReadDisk meaning known
    (λ old new. new.honest → IsJournalOf version new.reads) disk

-- why none is opened
abbrev pub IsNoJournalDisk : {D : Type 0} → DiskMeaning D → DiskKnown D → OpenFault → Type 0
IsNoJournalDisk meaning known fault.Unopened = IsNoDisk known
IsNoJournalDisk {D} meaning known fault.Failed =
    (disk : D) × IsReadDisk meaning known (λ old new. HasFailed old new Device) disk
IsNoJournalDisk {D} meaning known fault.Foreign =
    (disk : D) × IsReadDisk meaning known (λ old new. new.honest → (version : Version)
    → ¬ IsJournalOf version new.reads) disk
IsNoJournalDisk meaning known fault.OldVersion = ⊥

-- ---- ledgers of either version

-- bytes are such as a ledger of a version leaves. Those that one of version 2 does are none of version 1,
-- which has the form of a log
abbrev pub IsLedgerOf : Version → List ℕ → Type 0
IsLedgerOf One bytes =
    (¬ IsLeftBy (layout.Ledger Two) bytes) × IsLeftBy (layout.Ledger One) bytes
IsLedgerOf Two bytes = IsLeftBy (layout.Ledger Two) bytes

-- ---- those that are written

-- bytes are such as a log leaves, or a journal or a ledger of version 2
abbrev pub IsOwn : RecordFormat → List ℕ → Type 0
IsOwn format bytes = IsLeftBy (layout_of format) bytes

-- where the file's disk is honest, its bytes are such
abbrev pub IsOwnDisk : RecordFormat → {D : Type 0} → DiskMeaning D → DiskKnown D → D → Type 0
IsOwnDisk format meaning known disk = IsReadDisk meaning known
    (λ old new. new.honest → IsOwn format new.reads) disk

-- why a disk that was read is none of these
abbrev pub IsNotOwn : RecordFormat → DiskState → DiskState → OpenFault → Type 0
IsNotOwn format old new fault.Unopened = ⊥
IsNotOwn format old new fault.Failed = HasFailed old new Device
IsNotOwn format old new fault.Foreign = new.honest → ¬ IsOwn format new.reads
IsNotOwn Log old new fault.OldVersion = ⊥
IsNotOwn Journal old new fault.OldVersion = new.honest → IsJournalOf One new.reads
IsNotOwn Ledger old new fault.OldVersion = new.honest → IsLedgerOf One new.reads

-- why none is opened; nothing is written then
abbrev pub IsNoOwnDisk : RecordFormat → {D : Type 0} → DiskMeaning D → DiskKnown D → OpenFault
    → Type 0
IsNoOwnDisk format meaning known fault.Unopened = IsNoDisk known
IsNoOwnDisk format {D} meaning known why =
    (disk : D) × IsReadDisk meaning known (λ old new. IsNotOwn format old new why) disk

-- ---- what a file is seen to be

-- bytes are such as a log leaves, or a journal or a ledger of either version
abbrev pub IsEither : RecordFormat → List ℕ → Type 0
IsEither Log bytes = IsOwn Log bytes
IsEither Journal bytes = (version : Version) × IsJournalOf version bytes
IsEither Ledger bytes = (version : Version) × IsLedgerOf version bytes

-- they are not, and the record at this place is neither open nor zero, and all behind it are zeros
abbrev pub IsStrangeAt : RecordFormat → ℕ → List ℕ → Type 0
IsStrangeAt format place bytes = IsForeignAt (layout_in format Two) place bytes
    ⊎ ((¬ HasFront (layout_in format Two) bytes) × IsForeignAt (layout_in format One) place bytes)

-- what a disk is seen to be that is that of no log, journal or ledger
abbrev pub IsStrange : RecordFormat → DiskState → Strange → Type 0
IsStrange format disk strange.Empty = disk.size ≡ 0
IsStrange format disk (strange.Record place) = disk.honest → IsStrangeAt format place disk.reads

-- bytes begin as no version does
abbrev pub BeginAsNone : RecordFormat → List ℕ → Type 0
BeginAsNone format bytes = (version : Version) → ¬ HasFront (layout_in format version) bytes

-- it is not: a step of it failed, or its bytes are not whole records, or begin as those of none, or are
-- such as a log, a journal or a ledger leaves
abbrev pub IsNotStrange : RecordFormat → DiskState → DiskState → Type 0
IsNotStrange format old new =
    HasFailed old new Device ⊎ IsCut (layout_of format) new.size
    ⊎ (new.honest → BeginAsNone format new.reads)
    ⊎ (new.honest → IsEither format new.reads)

-- the file's disk can be opened, and is seen to be that; or it is not, or cannot be opened
abbrev pub IsLookedAt : RecordFormat → {D : Type 0} → DiskMeaning D → DiskKnown D → Option Strange
    → Type 0
IsLookedAt format {D} meaning known (Some found) =
    (disk : D) × IsReadDisk meaning known (λ old new. IsStrange format new found) disk
IsLookedAt format {D} meaning known None =
    IsNoDisk known ⊎ ((disk : D) × IsReadDisk meaning known (IsNotStrange format) disk)
