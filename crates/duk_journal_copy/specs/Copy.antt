-- A journal's disk that is written with what another keeps: this project's own.
use Rattle.std.specs.Prelude.{◌≡◌, ◌↔◌, ◌<◌, ◌+◌, ◌*◌, ◌-◌, List, ℕ, None, drop, length, replicate}
use Rattle.duk_journal_copy.specs.declared.copy.CopyFault.{CopyFault}
use Rattle.duk_journal_copy.specs.declared.copy.CopyFault.TheVariants as fault
use Rattle.duk_journal_copy.specs.declared.copy.Kept.{Kept}
use Rattle.duk_journal_copy.specs.declared.version.Version.{Version}
use Rattle.duk_journal_copy.specs.Version.{KeepsIn, format_of}
use Rattle.duk_journal.specs.CheckedFormat.{checked_format}
use Rattle.duk_journal.specs.DiskJournal.{IsSoundJournalDisk, disk_journal_state}
use Rattle.duk_journal.specs.Groups.{Entries}
use Rattle.duk_journal.specs.Header.{header_of, journal_kind}
use Rattle.duk_journal.specs.RecordFormat.{IsJournalSize, IsOpen, record_at, record_length}
use Rattle.duk_journal.specs.declared.entry.Entry.{Entry}
use Rattle.duk_store.specs.Disk.{DiskState, HasFailed, LeavesReads, PreservesDisk}
use Rattle.duk_store.specs.Records.{HasContents, identity_in}
use Rattle.duk_store.specs.StoreState.{FindsOnly}
use Rattle.duk_store.specs.declared.fault.StoreFault.TheVariants.{Device}

-- the record of an entry at a place of its list, counted from 0, says in a copy with this identity
-- what it says in a journal of a version: the same entry, after which as many follow, and it is open
-- where that is
pub record IsRecordCopied (version : Version) (identity place : ℕ) (old new : List ℕ) : Type 0 where
  pub followers : ℕ
  pub entry : Entry
  pub was : HasContents (format_of version) (identity_in (format_of version) old)
      ((format_of version).headers + place) followers entry
      (record_at ((format_of version).headers + place) old)
  pub is : HasContents checked_format identity (1 + place) followers entry (record_at (1 + place) new)
  pub gate : IsOpen (record_at (1 + place) new)
      ↔ IsOpen (record_at ((format_of version).headers + place) old)

-- a disk is written anew, over all its bytes, and a stop leaves what was written: a header with this
-- identity, the records of a journal that keeps so many entries, and zeros. A journal over it finds the
-- entries that the old disk keeps, which are so many, and nothing else, whenever it is stopped, and
-- never finds it damaged
pub record IsCopied (kept : Kept) (identity : ℕ) (old before after : DiskState) : Type 0 where
  pub nature : PreservesDisk before after
  pub no_failure : after.failures ≡ before.failures
  pub leaves : before.honest → LeavesReads after
  pub header : before.honest → record_at 0 after.reads ≡ header_of journal_kind identity
  pub records : old.honest → before.honest → (place : ℕ) → place < kept.count
      → IsRecordCopied kept.version identity place old.reads after.reads
  pub behind : before.honest → drop (record_length * (1 + kept.count)) after.reads
      ≡ replicate (before.size - record_length * (1 + kept.count)) 0
  pub keeps : old.honest → before.honest → (entries : Entries)
      → KeepsIn kept.version old.reads entries → length entries ≡ kept.count
      → FindsOnly (disk_journal_state after None) entries
  pub sound : old.honest → before.honest → IsJournalSize before.size → (entries : Entries)
      → KeepsIn kept.version old.reads entries → length entries ≡ kept.count
      → IsSoundJournalDisk after

-- why it is not: a device step of one or the other failed, or the old disk is that of no journal that
-- keeps so many entries
abbrev pub CopyFailed : Kept → DiskState → DiskState → DiskState → DiskState → CopyFault → Type 0
CopyFailed kept old old' new new' fault.Old = HasFailed old old' Device
CopyFailed kept old old' new new' fault.Changed = old.honest → (entries : Entries)
    → KeepsIn kept.version old.reads entries → ¬ (length entries ≡ kept.count)
CopyFailed kept old old' new new' fault.New = HasFailed new new' Device
