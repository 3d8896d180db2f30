-- What contracts know of the files of logs (this project's own).
use Rattle.std.specs.Prelude.{◌≡◌, ⊤, ℕ, Bool, true, false, Option, Some, None, replicate}
use Rattle.duk_journal_copy.specs.InPart.{IsUnfinished}
use Rattle.duk_io.specs.Known.{Known}
use Rattle.duk_journal.specs.RecordFormat.{IsJournalSize}
use Rattle.duk_service.specs.declared.log_files.Access.{Access}
use Rattle.duk_service.specs.declared.log_files.Access.TheVariants as access
use Rattle.duk_store.specs.Disk.{DiskState, LeavesReads}

-- a file may be opened so, where it is said whether it may be written: to be read always
abbrev pub MayOpen : Type 0 → Access → Type 0
MayOpen written access.Read = ⊤
MayOpen written access.Write = written

-- what files make known of a path: nothing, that no disk can be opened, or which one is
abbrev pub DiskKnown : Type 0 → Type 0
DiskKnown D = Option (Option D)

-- this disk is opened
abbrev pub IsDisk : {D : Type 0} → DiskKnown D → D → Type 0
IsDisk None disk = ⊤
IsDisk (Some None) disk = ⊥
IsDisk (Some (Some held)) disk = disk ≡ held

-- no disk can be opened
abbrev pub IsNoDisk : {D : Type 0} → DiskKnown D → Type 0
IsNoDisk None = ⊤
IsNoDisk (Some None) = ⊤
IsNoDisk (Some (Some held)) = ⊥

-- what files make known of the folder of a path: nothing, or whether it can be synced
abbrev pub FolderKnown : Type 0
FolderKnown = Option Bool

-- the folder is synced
abbrev pub IsFolderSynced : FolderKnown → Type 0
IsFolderSynced None = ⊤
IsFolderSynced (Some can) = can ≡ true

-- it is not
abbrev pub IsFolderUnsynced : FolderKnown → Type 0
IsFolderUnsynced None = ⊤
IsFolderUnsynced (Some can) = can ≡ false

-- what files make known of a new file of lines: nothing, that none can be made, or what is known of
-- the writer to it
abbrev pub LinesKnown : Type 0
LinesKnown = Option (Option Known)

-- a writer of which this is known is made
abbrev pub AreLinesMade : LinesKnown → Known → Type 0
AreLinesMade None writer = ⊤
AreLinesMade (Some None) writer = ⊥
AreLinesMade (Some (Some made)) writer = writer ≡ made

-- none can be made
abbrev pub AreNoLines : LinesKnown → Type 0
AreNoLines None = ⊤
AreNoLines (Some None) = ⊤
AreNoLines (Some (Some made)) = ⊥

-- what files make known of a new file under a path: by its size which disk is made there, or that
-- none can be made, of its folder, and of a writer of lines to it
pub record MakingKnown (D : Type 0) : Type 0 where
  pub disk : ℕ → DiskKnown D
  pub folder : FolderKnown
  pub lines : LinesKnown

abbrev pub unknown_making : {D : Type 0} → MakingKnown D
unknown_making = record { disk = λ size. None; folder = None; lines = None }

-- a disk as it is made for a journal: it begins as that of no journal, and a stop leaves that
abbrev pub BeginsUnfinished : DiskState → Type 0
BeginsUnfinished disk =
    disk.honest → IsJournalSize disk.size → LeavesReads disk × IsUnfinished disk.reads

-- a disk as it is made for a log: it begins with zeros alone, and a stop leaves that
abbrev pub BeginsZero : DiskState → Type 0
BeginsZero disk = disk.honest → LeavesReads disk × (disk.reads ≡ replicate disk.size 0)
