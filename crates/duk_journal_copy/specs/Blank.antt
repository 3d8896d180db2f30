-- A disk that is written anew and keeps nothing: this project's own.
use Rattle.std.specs.Prelude.{◌≡◌, ◌↔◌, ◌<◌, ◌-◌, ◌^◌, ◌++◌, List, ℕ, replicate}
use Rattle.duk_journal.specs.DiskJournal.{IsFreshJournalDisk, IsSoundJournalDisk}
use Rattle.duk_journal.specs.Header.{header_of}
use Rattle.duk_journal.specs.RecordFormat.{IsJournalSize}
use Rattle.duk_store.specs.Disk.{DiskState, LeavesReads, PreservesDisk}

-- all bytes of a disk were made zeros, and synced: of an honest one a stop leaves zeros, and nothing
-- of what it could leave before
pub record IsBlankWritten (old new : DiskState) : Type 0 where
  pub nature : PreservesDisk old new
  pub no_failure : new.failures ≡ old.failures
  pub zeros : old.honest → (bytes : List ℕ) → new.may_leave bytes ↔ (bytes ≡ replicate old.size 0)

-- the bytes of a file of a kind, with this identity and of this size, that keeps nothing: its header, and
-- zeros behind it
abbrev pub begun_bytes : ℕ → ℕ → ℕ → List ℕ
begun_bytes kind identity size = header_of kind identity ++ replicate (size - 32) 0

-- these were written over a disk, and synced: of an honest one a stop leaves these, and nothing of what
-- it could leave before
pub record IsFileBegun (kind identity : ℕ) (old new : DiskState) : Type 0 where
  pub identity_fits : identity < 2 ^ 64
  pub nature : PreservesDisk old new
  pub no_failure : new.failures ≡ old.failures
  pub reads : old.honest → new.reads ≡ begun_bytes kind identity old.size
  pub leaves : old.honest → LeavesReads new

-- a header with this identity was written over a disk, and zeros behind it, and synced: of an honest
-- one a stop leaves these, and nothing of what it could leave before. A restart of a journal over it
-- never finds it damaged
pub record IsJournalBegun (identity : ℕ) (old new : DiskState) : Type 0 where
  pub nature : PreservesDisk old new
  pub no_failure : new.failures ≡ old.failures
  pub fresh : old.honest → IsJournalSize old.size → IsFreshJournalDisk identity new
  pub sound : old.honest → IsJournalSize old.size → IsSoundJournalDisk new
