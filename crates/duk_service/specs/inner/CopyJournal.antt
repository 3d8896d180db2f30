-- What only private functions and proofs say beside `CopyJournal.antt`: this project's own.
use Rattle.std.specs.Prelude.{◌≢◌, ◌≡◌, ◌⊎◌, ⊤, ℕ, length}
use Rattle.duk_journal_copy.specs.Copy.{IsCopied}
use Rattle.duk_journal_copy.specs.Version.{JournalRecords, KeepsIn, journal_records_meaning, new_journal_records}
use Rattle.duk_journal_copy.specs.declared.copy.Kept.{Kept}
use Rattle.duk_journal_copy.specs.declared.version.Version.TheVariants.{Two}
use Rattle.duk_host.specs.declared.fault.HostFault.TheVariants.{Store}
use Rattle.duk_journal.specs.Groups.{Entries}
use Rattle.duk_journal.specs.Journal.{JournalMeaning}
use Rattle.duk_journal_host.specs.Check.{CheckRefused, IsChecked}
use Rattle.duk_journal_host.specs.declared.check.Checked.{Checked}
use Rattle.duk_service.specs.CopyJournal.{IsCopyRefused, IsFilledUnchecked, IsNoOwnJournal, IsOtherJournal}
use Rattle.duk_service.specs.LogFiles.{DiskKnown, FolderKnown, IsDisk, IsFolderSynced, IsFolderUnsynced, IsNoDisk, MakingKnown}
use Rattle.duk_service.specs.NewFile.{IsNoneOrWhole, IsUnmade}
use Rattle.duk_service.specs.declared.copy_journal.CopyJournalFault.{CopyJournalFault}
use Rattle.duk_service.specs.declared.copy_journal.CopyJournalFault.TheVariants as fault
use Rattle.duk_service.specs.declared.copy_journal.Source.{Source}
use Rattle.duk_store.specs.Disk.{DiskMeaning, DiskState, HasFailed}
use Rattle.duk_store.specs.StoreState.{FindsWithin, StoreState}
use Rattle.duk_store.specs.declared.fault.StoreFault.{StoreFault}
use Rattle.duk_store.specs.declared.fault.StoreFault.TheVariants.{Device}

-- why OLD's disk is not opened
abbrev pub IsOldUnopened : {D : Type 0} → DiskMeaning D → DiskKnown D → CopyJournalFault → Type 0
IsOldUnopened meaning known fault.Unopened = IsNoDisk known
IsOldUnopened meaning known fault.Failed = IsNoOwnJournal meaning known
IsOldUnopened meaning known _ = ⊥

-- why a journal is not checked
abbrev pub IsNotChecked : {J : Type 0} → JournalMeaning J → J → J → CopyJournalFault → Type 0
IsNotChecked meaning old new fault.OutOfMemory = ⊤
IsNotChecked meaning old new fault.Failed =
    (why : StoreFault) × CheckRefused meaning old new (Store why)
IsNotChecked meaning old new _ = ⊥

-- what a journal that was checked keeps
abbrev pub kept_in : Source → Kept
kept_in source = record { version = source.version; count = source.checked.count }

-- a disk of this size is written with what another keeps
pub record IsCopyWritten (source : Source) (identity size : ℕ) (old before after : DiskState)
    : Type 0 where
  pub size_is : before.size ≡ size
  pub copied : IsCopied (kept_in source) identity old before after

-- a disk is that of no journal that keeps so many entries
abbrev pub IsNotKept : Kept → DiskState → Type 0
IsNotKept kept old = old.honest → (entries : Entries)
    → KeepsIn kept.version old.reads entries → ¬ (length entries ≡ kept.count)

-- why it is not
abbrev pub CopyNotWritten : Source → ℕ → DiskState → DiskState → DiskState → DiskState
    → CopyJournalFault → Type 0
CopyNotWritten source size old old' before after fault.Failed =
    HasFailed old old' Device ⊎ IsNotKept (kept_in source) old
CopyNotWritten source size old old' before after fault.Unmade =
    (before.size ≢ size) ⊎ HasFailed before after Device
CopyNotWritten source size old old' before after _ = ⊥

-- whenever a disk that was made is stopped, it is no journal, or keeps what another keeps, so many
abbrev pub IsNoneOrKept : Kept → DiskState → DiskState → DiskState → Type 0
IsNoneOrKept kept old made last =
    old.honest → (entries : Entries) → KeepsIn kept.version old.reads entries
    → length entries ≡ kept.count → IsNoneOrWhole entries made last

-- a journal is restarted and read, as far as that comes: it finds what it could find, and stays sound
pub record IsReadOver (old new : StoreState Entries) : Type 0 where
  pub sound : old.honest → old.sound → new.sound
  pub within : old.honest → FindsWithin new old.found

-- why a journal is not checked, with so many entries and their check sum
abbrev pub NewNotChecked : {J : Type 0} → JournalMeaning J → Checked → J → J → CopyJournalFault
    → Type 0
NewNotChecked meaning kept old new fault.OutOfMemory = ⊤
NewNotChecked meaning kept old new fault.Unmade = IsOtherJournal meaning kept old new
NewNotChecked meaning kept old new _ = ⊥

-- why a journal is not checked, or its folder not synced
abbrev pub CheckedNotKept : {J : Type 0} → JournalMeaning J → FolderKnown → Checked → J → J
    → CopyJournalFault → Type 0
CheckedNotKept meaning folder kept old new fault.OutOfMemory = ⊤
CheckedNotKept meaning folder kept old new fault.Unmade =
    IsOtherJournal meaning kept old new ⊎ IsFolderUnsynced folder
CheckedNotKept meaning folder kept old new _ = ⊥

-- a written disk is checked, with so many entries and their check sum
pub record IsNewChecked {D : Type 0} (meaning : DiskMeaning D) (kept : Checked) (filled : D)
    : Type 0 where
  pub last : JournalRecords D
  pub version : last.format ≡ Two
  pub checked : IsChecked (journal_records_meaning meaning) (new_journal_records filled Two) last kept

-- why a written disk is not kept, over which a journal was read
pub record NewNotKept {D : Type 0} (meaning : DiskMeaning D) (folder : FolderKnown) (kept : Checked)
    (filled : D) (why : CopyJournalFault) : Type 0 where
  pub last : JournalRecords D
  pub version : last.format ≡ Two
  pub read_over : IsReadOver
      ((journal_records_meaning meaning).state_of (new_journal_records filled Two))
      ((journal_records_meaning meaning).state_of last)
  pub cause : CheckedNotKept (journal_records_meaning meaning) folder kept
      (new_journal_records filled Two) last why

-- a file of this size is made, with what a disk keeps, and checked
pub record IsCopyMade (source : Source) (identity : ℕ) {D : Type 0} (meaning : DiskMeaning D)
    (making : MakingKnown D) (size : ℕ) (old : DiskState) : Type 0 where
  pub made : D
  pub filled : D
  pub is_made : IsDisk (making.disk size) made
  pub written : IsCopyWritten source identity size old (meaning.state_of made)
      (meaning.state_of filled)
  pub kept_is : IsNewChecked meaning source.checked filled
  pub synced : IsFolderSynced making.folder

-- one is made, and a device step of the other disk failed, or it gives other bytes than it did
pub record IsCopyUnread (source : Source) {D : Type 0} (meaning : DiskMeaning D)
    (making : MakingKnown D) (size : ℕ) (old old' : DiskState) : Type 0 where
  pub made : D
  pub last : D
  pub is_made : IsDisk (making.disk size) made
  pub failed : HasFailed old old' Device ⊎ IsNotKept (kept_in source) old
  pub left_is : IsNoneOrKept (kept_in source) old (meaning.state_of made) (meaning.state_of last)

-- why none is
abbrev pub CopyNotMade : Source → ℕ → {D : Type 0} → DiskMeaning D → MakingKnown D → ℕ → DiskState
    → DiskState → CopyJournalFault → Type 0
CopyNotMade source identity meaning making size old old' fault.OutOfMemory =
    IsFilledUnchecked identity meaning (making.disk size) (kept_in source) old
    (IsNoneOrKept (kept_in source) old)
CopyNotMade source identity meaning making size old old' fault.Failed =
    IsCopyUnread source meaning making size old old'
CopyNotMade source identity meaning making size old old' fault.Unmade =
    IsUnmade meaning making size (IsNoneOrKept (kept_in source) old)
    ⊎ IsCopyRefused identity meaning (making.disk size) source.version source.checked old
    (IsNoneOrKept (kept_in source) old)
CopyNotMade source identity meaning making size old old' _ = ⊥
