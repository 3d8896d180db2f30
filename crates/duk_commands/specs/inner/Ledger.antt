-- How a ledger is read and extended: this project's own.
use Rattle.std.specs.Prelude.{◌≡◌, ◌++◌, true, ℕ, Bool, List, length, max}
use Rattle.duk_ledger.specs.Issued.{Issues, run_of}
use Rattle.duk_ledger.specs.declared.issued.Issued.{Issued}
use Rattle.duk_store.specs.Listed.{ListMeaning}
use Rattle.duk_store.specs.Restart.{Restarted, RestartFailed}
use Rattle.duk_store.specs.StoreState.{FindsOnly, PreservesNature}
use Rattle.duk_store.specs.declared.fault.StoreFault.TheVariants as store
use Rattle.duk_commands.specs.Ledger.{largest_run}
use Rattle.duk_commands.specs.declared.issue.fault.IssueFault.{IssueFault}
use Rattle.duk_commands.specs.declared.issue.fault.IssueFault.TheVariants as fault
use Rattle.duk_commands.specs.declared.issue.ledger.Marking.{Marking}
use Rattle.duk_commands.specs.inner.Marks.{AreMarked, IsMarkedAlso}

-- one key more is marked
pub record IsMarkedBy (old : Marking) (issued : Issued) (new : Marking) : Type 0 where
  pub first : new.first ≡ old.first
  pub largest : new.largest ≡ max old.largest (run_of issued.made)
  pub marked : IsMarkedAlso old.marks.items new.marks.items old.first issued.number

-- what is known of the list that a ledger keeps: the marks of its numbers, and its largest run
pub record AreRead (issues : Issues) (first : ℕ) (marks : List Bool) (largest : ℕ) : Type 0 where
  pub marked : AreMarked issues first marks
  pub largest_is : largest ≡ largest_run issues

-- the ledger was restarted, and the list that it found is read
pub record IsLedgerRead
    {L : Type 0} (meaning : ListMeaning L Issued) (old new : L) (first count : ℕ)
    (marks : List Bool) (largest : ℕ) : Type 0 where
  pub issues : Issues
  pub restarted : Restarted (meaning.state_of old) (meaning.state_of new) issues
  pub counted : meaning.count new ≡ length issues
  pub capacity : meaning.capacity new ≡ meaning.capacity old
  pub are_read : AreRead issues first marks largest
  pub size : length marks ≡ count

-- why the ledger is not read, and what that leaves
abbrev pub LedgerUnread :
    {L : Type 0} → ListMeaning L Issued → L → L → IssueFault → Type 0
LedgerUnread meaning old new fault.LedgerFailed =
    RestartFailed (meaning.state_of old) (meaning.state_of new) store.Device
LedgerUnread meaning old new fault.LedgerDamaged =
    RestartFailed (meaning.state_of old) (meaning.state_of new) store.Damaged
LedgerUnread meaning old new fault.OutOfMemory = new ≡ old
LedgerUnread meaning old new _ = ⊥

-- a running ledger is extended by these
pub record AreAppended
    {L : Type 0} (meaning : ListMeaning L Issued) (old new : L) (more : Issues) : Type 0 where
  pub nature : PreservesNature (meaning.state_of old) (meaning.state_of new)
  pub no_failure : (meaning.state_of new).failures ≡ (meaning.state_of old).failures
  pub runs : (meaning.state_of new).running ≡ true
  pub finds : (meaning.state_of old).honest → (issues : Issues)
      → FindsOnly (meaning.state_of old) issues
      → FindsOnly (meaning.state_of new) (issues ++ more)
