-- What only private functions and proofs say beside `CopyLedger.antt`: this project's own.
use Rattle.std.specs.Prelude.{◌≡◌, ◌≢◌, ◌⊎◌, ◌+◌, ◌*◌, ℕ, length}
use Rattle.duk_journal_copy.specs.Ledger.{AreInitial, IsLedgerCopied, issues_of}
use Rattle.duk_journal_copy.specs.declared.version.Version.TheVariants.{Two}
use Rattle.duk_service.specs.CopyLedger.{IsLedgerDisk, IsNoLedgerOrWhole, IsNoOldLedger, ledger_copy_size, old_ledger_state}
use Rattle.duk_service.specs.LogFiles.{DiskKnown, FolderKnown, IsDisk, IsFolderSynced, IsNoDisk, MakingKnown}
use Rattle.duk_service.specs.NewFile.{IsUnmade}
use Rattle.duk_service.specs.declared.copy_ledger.CopyLedgerFault.{CopyLedgerFault}
use Rattle.duk_service.specs.declared.copy_ledger.CopyLedgerFault.TheVariants as fault
use Rattle.duk_service.specs.inner.NewFile.{IsNotKept}
use Rattle.duk_store.specs.Disk.{DiskMeaning, DiskState, LeavesWithin}
use Rattle.duk_store.specs.DiskLog.{DiskLogOf}
use Rattle.duk_store.specs.DiskRecords.{count_in}
use Rattle.duk_store.specs.Log.{Numbers}
use Rattle.duk_store.specs.Restart.{RestartFailed, Restarted}
use Rattle.duk_store.specs.StoreState.{FindsOnly, StoreState}
use Rattle.duk_store.specs.declared.fault.StoreFault.{StoreFault}

-- why OLD's disk is not opened
abbrev pub IsOldUnopened : {D : Type 0} → DiskMeaning D → DiskKnown D → CopyLedgerFault → Type 0
IsOldUnopened meaning known fault.Unopened = IsNoDisk known
IsOldUnopened {D} meaning known fault.NewVersion = (disk : D) × IsLedgerDisk Two meaning known disk
IsOldUnopened meaning known fault.Failed = IsNoOldLedger meaning known
IsOldUnopened meaning known _ = ⊥

-- a ledger in the form of a log comes up with these numbers, and counts them. A stop leaves nothing of
-- it that it could not leave before
pub record IsUp {D : Type 0} (meaning : DiskMeaning D) (old new : DiskLogOf D) : Type 0 where
  pub numbers : Numbers
  pub restarted : Restarted (old_ledger_state meaning old) (old_ledger_state meaning new) numbers
  pub counted : length numbers ≡ count_in new.kept
  pub restored : LeavesWithin (meaning.state_of old.disk) (meaning.state_of new.disk)
  pub doubled : (meaning.state_of old.disk).honest
      → ledger_copy_size meaning new ≡ 2 * (meaning.state_of old.disk).size + 32

-- it does not
abbrev pub IsNotUp : {D : Type 0} → DiskMeaning D → DiskLogOf D → DiskLogOf D → CopyLedgerFault
    → Type 0
IsNotUp meaning old new fault.Failed = (why : StoreFault)
    × RestartFailed (old_ledger_state meaning old) (old_ledger_state meaning new) why
IsNotUp meaning old new _ = ⊥

-- whenever a disk that was made is stopped, it is no ledger, or keeps what another keeps
abbrev pub IsNoneOrLedger : StoreState Numbers → DiskState → DiskState → Type 0
IsNoneOrLedger old made last = old.honest → (numbers : Numbers) → FindsOnly old numbers
    → IsNoLedgerOrWhole (issues_of numbers) made last

-- why a ledger is not copied: a device step of it failed, or a number is that of no initial key
abbrev pub IsNotRead : StoreState Numbers → StoreState Numbers → Type 0
IsNotRead old old' = (old'.failures ≢ old.failures)
    ⊎ (old.honest → (numbers : Numbers) → FindsOnly old numbers → ¬ AreInitial numbers)

-- a disk of this size is written with what a ledger keeps, which counts so many, and its folder is synced
pub record IsLedgerKept (identity count : ℕ) (folder : FolderKnown) (size : ℕ) (old : StoreState Numbers)
    (before after : DiskState) : Type 0 where
  pub size_is : before.size ≡ size
  pub written : IsLedgerCopied identity count old before after
  pub synced : IsFolderSynced folder

-- why it is not
abbrev pub LedgerNotKept : FolderKnown → ℕ → StoreState Numbers → StoreState Numbers → DiskState
    → DiskState → CopyLedgerFault → Type 0
LedgerNotKept folder size old old' before after fault.Failed = IsNotRead old old'
LedgerNotKept folder size old old' before after fault.Unmade = IsNotKept folder size before after
LedgerNotKept folder size old old' before after _ = ⊥

-- a file of this size is made, with what a ledger keeps
pub record IsLedgerMade (identity count : ℕ) {D : Type 0} (meaning : DiskMeaning D)
    (making : MakingKnown D) (size : ℕ) (old : StoreState Numbers) : Type 0 where
  pub made : D
  pub last : D
  pub is_made : IsDisk (making.disk size) made
  pub kept : IsLedgerKept identity count making.folder size old
      (meaning.state_of made) (meaning.state_of last)

-- one is made, and the ledger is not read
pub record IsLedgerUnread {D : Type 0} (meaning : DiskMeaning D) (making : MakingKnown D) (size : ℕ)
    (old old' : StoreState Numbers) : Type 0 where
  pub made : D
  pub last : D
  pub is_made : IsDisk (making.disk size) made
  pub cause : IsNotRead old old'
  pub left_is : IsNoneOrLedger old (meaning.state_of made) (meaning.state_of last)

-- why none is
abbrev pub LedgerNotMade : {D : Type 0} → DiskMeaning D → MakingKnown D → ℕ → StoreState Numbers
    → StoreState Numbers → CopyLedgerFault → Type 0
LedgerNotMade meaning making size old old' fault.Failed =
    IsLedgerUnread meaning making size old old'
LedgerNotMade meaning making size old old' fault.Unmade =
    IsUnmade meaning making size (IsNoneOrLedger old)
LedgerNotMade meaning making size old old' _ = ⊥
