-- A disk that is written anew, and is that of no journal until it is whole: this project's own.
use Rattle.std.specs.Prelude.{◌≡◌, ◌≢◌, ◌⊎◌, List, ℕ, slice_index}
use Rattle.duk_journal.specs.Entry.{kind_of}
use Rattle.duk_journal.specs.Groups.{Entries, KeepsChecked}
use Rattle.duk_journal.specs.declared.entry.Decided.{Decided}
use Rattle.duk_journal_copy.specs.Version.{KeepsIn}
use Rattle.duk_journal_copy.specs.declared.version.Version.{Version}
use Rattle.duk_store.specs.Disk.{DiskState, LeavesReads}

-- bytes are those of no journal, of whichever version: they keep no entries, and not none either, so
-- that each restart of a journal over them finds it damaged
abbrev pub IsNoJournal : List ℕ → Type 0
IsNoJournal bytes = (version : Version) (entries : Entries) → ¬ KeepsIn version bytes entries

-- a byte is the kind of no record
abbrev pub IsNoKind : ℕ → Type 0
IsNoKind byte = (decided : Decided) → kind_of decided ≢ byte

-- bytes that begin as those of no file of ours do: the gate of their first record is open, what stands
-- behind it is neither a kind nor the second byte of a header, and the 16th byte is that of a header,
-- where the record of a log has a zero behind its number
pub record IsUnfinished (bytes : List ℕ) : Type 0 where
  pub gate : slice_index bytes 0 ≡ 1
  pub kind : IsNoKind (slice_index bytes 1)
  pub mark : slice_index bytes 1 ≢ 0xD5
  pub behind_number : slice_index bytes 15 ≡ 32

-- bytes that begin so, or with the third byte of a header where the second is the kind of a record:
-- those of no file with a header, of no journal of version 1, and of no log
pub record BeginsAsNone (bytes : List ℕ) : Type 0 where
  pub gate : slice_index bytes 0 ≡ 1
  pub mark : slice_index bytes 1 ≢ 0xD5
  pub kind : IsNoKind (slice_index bytes 1) ⊎ (slice_index bytes 2 ≡ 0x44)
  pub behind_number : slice_index bytes 15 ≡ 32

-- these bytes were to be written over a disk: where a stop left one image of it, which was unfinished, a
-- stop now leaves them, or such as begin as those of no file
abbrev pub LeavesFileInPart : List ℕ → DiskState → DiskState → Type 0
LeavesFileInPart whole before after =
    before.honest → LeavesReads before → IsUnfinished before.reads
    → (bytes : List ℕ) → after.may_leave bytes → BeginsAsNone bytes ⊎ (bytes ≡ whole)

-- these entries were to be written over a disk: where a stop left one image of it, which was
-- unfinished, a stop now leaves a journal that keeps them, or no journal
abbrev pub LeavesInPart : Entries → DiskState → DiskState → Type 0
LeavesInPart entries before after =
    before.honest → LeavesReads before → IsUnfinished before.reads
    → (bytes : List ℕ) → after.may_leave bytes
    → IsNoJournal bytes ⊎ KeepsChecked bytes entries
