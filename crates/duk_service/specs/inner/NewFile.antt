-- What only private functions and proofs say beside `NewFile.antt`: this project's own.
use Rattle.std.specs.Prelude.{◌≢◌, ◌≡◌, ◌≤◌, ◌⊎◌, ℕ}
use Rattle.duk_service.specs.LogFiles.{BeginsUnfinished, BeginsZero, FolderKnown, IsFolderSynced, IsFolderUnsynced}
use Rattle.duk_service.specs.NewFile.{IsWrittenAnew, KeepsNothingYet, file_size}
use Rattle.duk_service.specs.declared.new_file.NewFile.{NewFile}
use Rattle.duk_service.specs.declared.new_file.NewFile.TheVariants.{Journal, Ledger, Log}
use Rattle.duk_store.specs.Disk.{DiskState, HasFailed}
use Rattle.duk_store.specs.declared.fault.StoreFault.TheVariants.{Device}

-- a disk as it is made: a log's begins with zeros, and a journal's or a ledger's as that of none
abbrev pub BeginsAs : NewFile → DiskState → Type 0
BeginsAs Log disk = BeginsZero disk
BeginsAs (Journal identity) disk = BeginsUnfinished disk
BeginsAs (Ledger identity) disk = BeginsUnfinished disk

-- a size is that of a log, a journal or a ledger with room for some
abbrev pub IsSizeOf : NewFile → ℕ → Type 0
IsSizeOf new size = (records : ℕ) × (1 ≤ records) × (size ≡ file_size new records)

-- a disk of this size is written anew, and its folder is synced
pub record IsKeptBlank (new : NewFile) (folder : FolderKnown) (size : ℕ) (old last : DiskState)
    : Type 0 where
  pub size_is : old.size ≡ size
  pub written : IsWrittenAnew new old last
  pub blank : old.honest → KeepsNothingYet new last
  pub synced : IsFolderSynced folder

-- why it is not
abbrev pub IsNotKept : FolderKnown → ℕ → DiskState → DiskState → Type 0
IsNotKept folder size old new =
    (old.size ≢ size) ⊎ HasFailed old new Device ⊎ IsFolderUnsynced folder
