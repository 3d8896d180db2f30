-- What `copy-journal` makes (this project's own).
use Rattle.std.specs.Prelude.{◌≢◌, ◌≡◌, ◌≤◌, ◌⊎◌, ◌↔◌, ◌+◌, ◌^◌, ℕ, List, None, length}
use Rattle.duk_journal_copy.specs.Copy.{IsCopied}
use Rattle.duk_journal_copy.specs.Version.{JournalRecords, format_of, journal_records_meaning, new_journal_records}
use Rattle.duk_journal_copy.specs.declared.copy.Kept.{Kept}
use Rattle.duk_journal_copy.specs.declared.version.Version.{Version}
use Rattle.duk_journal_copy.specs.declared.version.Version.TheVariants.{One, Two}
use Rattle.duk_host.specs.declared.fault.HostFault.TheVariants.{Store}
use Rattle.duk_journal.specs.DiskJournal.{disk_journal_state}
use Rattle.duk_journal.specs.Groups.{Entries}
use Rattle.duk_journal.specs.Journal.{JournalMeaning}
use Rattle.duk_journal.specs.Standing.{UseNewNumbers}
use Rattle.duk_journal_host.specs.Check.{CheckRefused, IsChecked, checked_of}
use Rattle.duk_journal_host.specs.declared.check.Checked.{Checked}
use Rattle.duk_service.specs.LogFiles.{DiskKnown, IsDisk, IsFolderSynced, IsNoDisk, MakingKnown}
use Rattle.duk_service.specs.NewFile.{IsNoneOrWhole, IsUnmade, new_file_line}
use Rattle.duk_service.specs.OwnFiles.{IsJournalDisk, IsNoJournalDisk}
use Rattle.duk_service.specs.ServeFault.{open_line, store_line}
use Rattle.duk_service.specs.declared.copy_journal.CopyJournalFault.{CopyJournalFault}
use Rattle.duk_service.specs.declared.copy_journal.CopyJournalFault.TheVariants as fault
use Rattle.duk_service.specs.declared.left_records.RecordFormat.TheVariants.{Journal}
use Rattle.duk_service.specs.declared.new_file.NewFileFault.TheVariants.{OutOfMemory, Unmade}
use Rattle.duk_service.specs.declared.own_files.OpenFault.TheVariants as open_fault
use Rattle.duk_store.specs.Disk.{DiskMeaning, DiskState, HasFailed}
use Rattle.duk_store.specs.DiskRecords.{MayFindItems, records_state}
use Rattle.duk_store.specs.StoreState.{FindsOnly}
use Rattle.duk_store.specs.declared.fault.StoreFault.{StoreFault}
use Rattle.duk_store.specs.declared.fault.StoreFault.TheVariants.{Device}

-- the bytes of a copy, which has as much room as a journal of so many: in front of it stands a header,
-- as in front of a journal of version 2
abbrev pub copy_size : Version → ℕ → ℕ
copy_size One size = size + 32
copy_size Two size = size

-- a restart of a journal of a version over a disk finds these entries and nothing else
abbrev pub Keeps : Version → {D : Type 0} → DiskMeaning D → D → Entries → Type 0
Keeps version meaning disk entries =
    FindsOnly (records_state (format_of version) (meaning.state_of disk) None) entries

-- what a journal of a version keeps on a disk that is read to its end: entries that a restart could
-- find when it was opened, and that a restart finds still, which no host calls damaged: each uses a new
-- number. The disk is as honest as it was
pub record HasKept (version : Version) {D : Type 0} (meaning : DiskMeaning D) (opened last : D)
    (entries : Entries) : Type 0 where
  pub honest : (meaning.state_of opened).honest ↔ (meaning.state_of last).honest
  pub was_found : (meaning.state_of opened).honest
      → MayFindItems (format_of version) (meaning.state_of opened) entries
  pub finds : (meaning.state_of opened).honest → Keeps version meaning last entries
  pub new_numbers : UseNewNumbers entries

-- the journal OLD is checked: its disk is opened, its bytes are such as a journal of either version
-- leaves, and what it keeps no host would call damaged
pub record IsOldChecked {D : Type 0} (meaning : DiskMeaning D) (known : DiskKnown D) : Type 0 where
  pub version : Version
  pub opened : D
  pub last : D
  pub entries : Entries
  pub is_opened : IsJournalDisk version meaning known opened
  pub kept : HasKept version meaning opened last entries

-- what it keeps, and the size of its copy
abbrev pub kept_of : {D : Type 0} {meaning : DiskMeaning D} {known : DiskKnown D}
    → IsOldChecked meaning known → Kept
kept_of old = record { version = old.version; count = length old.entries }

abbrev pub size_for : {D : Type 0} {meaning : DiskMeaning D} {known : DiskKnown D}
    → IsOldChecked meaning known → ℕ
size_for {D} {meaning} old = copy_size old.version (meaning.state_of old.opened).size

-- what `copy-journal` makes: OLD is checked, a file with its room is made, what OLD keeps is written
-- over all of its disk in version 2, with this identity, and synced, that disk is checked, and its
-- folder is synced. Where the disk of the file is honest, no host over it is refused as damaged, and it
-- has as many entries as OLD keeps and their check sum, whatever OLD is; and where that of OLD is too, a
-- journal over it finds what OLD keeps, and nothing else
pub record HasCopiedJournal (identity : ℕ) {D : Type 0} (meaning : DiskMeaning D)
    (known : DiskKnown D) (making : MakingKnown D) : Type 0 where
  pub old : IsOldChecked meaning known
  pub made : D
  pub filled : D
  pub last : JournalRecords D
  pub is_made : IsDisk (making.disk (size_for old)) made
  pub size_is : (meaning.state_of made).size ≡ size_for old
  pub written : IsCopied (kept_of old) identity (meaning.state_of old.last)
      (meaning.state_of made) (meaning.state_of filled)
  pub checked : IsChecked (journal_records_meaning meaning) (new_journal_records filled Two) last
      (checked_of old.entries)
  pub finds : (meaning.state_of old.opened).honest → (meaning.state_of made).honest
      → Keeps Two meaning last.disk old.entries
  pub sound : (meaning.state_of made).honest
      → (disk_journal_state (meaning.state_of last.disk) None).sound
  pub folder : IsFolderSynced making.folder

-- a device step failed where OLD was looked at, or no journal leaves its bytes: no file is made
abbrev pub IsNoOwnJournal : {D : Type 0} → DiskMeaning D → DiskKnown D → Type 0
IsNoOwnJournal meaning known =
    IsNoJournalDisk meaning known open_fault.Failed
    ⊎ IsNoJournalDisk meaning known open_fault.Foreign

-- OLD's disk is opened, and a journal left its bytes, and no host would come up over it: no file is
-- made
pub record IsOldRefused {D : Type 0} (meaning : DiskMeaning D) (known : DiskKnown D) : Type 0 where
  pub version : Version
  pub opened : D
  pub last : JournalRecords D
  pub why : StoreFault
  pub is_opened : IsJournalDisk version meaning known opened
  pub refused : CheckRefused (journal_records_meaning meaning) (new_journal_records opened version)
      last (Store why)

-- whenever the disk that was made is stopped, it is no journal, or keeps what an honest OLD keeps
abbrev pub IsNoneOrCopy : {D : Type 0} (meaning : DiskMeaning D) (known : DiskKnown D)
    → IsOldChecked meaning known → DiskState → DiskState → Type 0
IsNoneOrCopy meaning known old made last =
    (meaning.state_of old.opened).honest → IsNoneOrWhole old.entries made last

-- OLD is checked, a file is made for it, and then a device step of OLD failed, or its disk gives other
-- bytes than it did, as no honest one does
pub record IsOldUnread {D : Type 0} (meaning : DiskMeaning D) (known : DiskKnown D)
    (making : MakingKnown D) : Type 0 where
  pub old : IsOldChecked meaning known
  pub made : D
  pub last : D
  pub is_made : IsDisk (making.disk (size_for old)) made
  pub failed : HasFailed (meaning.state_of old.opened) (meaning.state_of old.last) Device
      ⊎ ¬ (meaning.state_of old.opened).honest
  pub left_is : IsNoneOrCopy meaning known old (meaning.state_of made) (meaning.state_of last)

-- why a journal that is written with so many entries is no copy: its check is refused, or finds
-- another number of them, or another check sum
abbrev pub IsOtherJournal : {J : Type 0} → JournalMeaning J → Checked → J → J → Type 0
IsOtherJournal meaning kept old new =
    ((why : StoreFault) × CheckRefused meaning old new (Store why))
    ⊎ ((found : Checked) × IsChecked meaning old new found × (found ≢ kept))

-- a disk is made, what OLD keeps is written over it with this identity and synced, and memory for the
-- check of it is refused
pub record IsFilledUnchecked (identity : ℕ) {D : Type 0} (meaning : DiskMeaning D)
    (known : DiskKnown D) (kept : Kept) (old : DiskState) (left : DiskState → DiskState → Type 0)
    : Type 0 where
  pub made : D
  pub filled : D
  pub last : D
  pub is_made : IsDisk known made
  pub written : IsCopied kept identity old (meaning.state_of made) (meaning.state_of filled)
  pub left_is : left (meaning.state_of made) (meaning.state_of last)

-- or it is checked, and is no copy
pub record IsCopyRefused (identity : ℕ) {D : Type 0} (meaning : DiskMeaning D)
    (known : DiskKnown D) (version : Version) (kept : Checked) (old : DiskState)
    (left : DiskState → DiskState → Type 0) : Type 0 where
  pub made : D
  pub filled : D
  pub last : JournalRecords D
  pub is_made : IsDisk known made
  pub written : IsCopied (record { version = version; count = kept.count }) identity old
      (meaning.state_of made) (meaning.state_of filled)
  pub other : IsOtherJournal (journal_records_meaning meaning) kept
      (new_journal_records filled Two) last
  pub left_is : left (meaning.state_of made) (meaning.state_of last.disk)

-- no file has so many bytes
abbrev pub IsNoSize : ℕ → Type 0
IsNoSize size = 2 ^ 64 ≤ size

-- OLD is checked, and no file is made for it, or not whole, or what is written is no copy
pub record IsCopyUnmade (identity : ℕ) {D : Type 0} (meaning : DiskMeaning D)
    (known : DiskKnown D) (making : MakingKnown D) : Type 0 where
  pub old : IsOldChecked meaning known
  pub unmade : IsNoSize (size_for old)
      ⊎ IsUnmade meaning making (size_for old) (IsNoneOrCopy meaning known old)
      ⊎ IsCopyRefused identity meaning (making.disk (size_for old)) old.version
      (checked_of old.entries) (meaning.state_of old.last) (IsNoneOrCopy meaning known old)

-- OLD is checked, and its copy is written, and not checked
pub record IsCopyUnchecked (identity : ℕ) {D : Type 0} (meaning : DiskMeaning D)
    (known : DiskKnown D) (making : MakingKnown D) : Type 0 where
  pub old : IsOldChecked meaning known
  pub unchecked : IsFilledUnchecked identity meaning (making.disk (size_for old))
      (kept_of old) (meaning.state_of old.last) (IsNoneOrCopy meaning known old)

-- OLD is opened
abbrev pub IsOldOpened : {D : Type 0} → DiskMeaning D → DiskKnown D → Type 0
IsOldOpened {D} meaning known =
    (version : Version) × (opened : D) × IsJournalDisk version meaning known opened

-- why no journal is copied; memory may be refused once OLD is opened, before the file is made or
-- once it is written
abbrev pub IsCopyJournalRefused : ℕ → {D : Type 0} → DiskMeaning D → DiskKnown D → MakingKnown D
    → CopyJournalFault → Type 0
IsCopyJournalRefused identity meaning known making fault.OutOfMemory =
    IsOldOpened meaning known ⊎ IsCopyUnchecked identity meaning known making
IsCopyJournalRefused identity meaning known making fault.Unopened = IsNoDisk known
IsCopyJournalRefused identity meaning known making fault.Failed =
    IsNoOwnJournal meaning known ⊎ IsOldRefused meaning known ⊎ IsOldUnread meaning known making
IsCopyJournalRefused identity meaning known making fault.Unmade =
    IsCopyUnmade identity meaning known making

-- the line of a fault, LF at its end
abbrev pub copy_journal_line : CopyJournalFault → List ℕ
copy_journal_line fault.OutOfMemory = new_file_line Journal OutOfMemory
copy_journal_line fault.Unopened = open_line Journal open_fault.Unopened
copy_journal_line fault.Failed = store_line Journal
copy_journal_line fault.Unmade = new_file_line Journal Unmade
