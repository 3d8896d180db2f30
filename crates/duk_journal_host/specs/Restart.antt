-- The restart of a host over a journal: this project's own.
use Rattle.std.specs.Prelude.{◌≡◌, ◌⊎◌, ℕ, None, length}
use Rattle.duk_host.specs.declared.fault.HostFault.{HostFault}
use Rattle.duk_host.specs.declared.fault.HostFault.TheVariants as fault
use Rattle.duk_journal.specs.Groups.{Entries}
use Rattle.duk_journal.specs.Journal.{JournalMeaning}
use Rattle.duk_journal.specs.Standing.{UseNewNumbers}
use Rattle.duk_store.specs.Restart.{Restarted, RestartFailed}
use Rattle.duk_store.specs.StoreState.{FindsWithin, StoreState, Stops}
use Rattle.duk_store.specs.declared.fault.StoreFault.{StoreFault}
use Rattle.duk_store.specs.declared.fault.StoreFault.TheVariants.{Damaged}
use Rattle.duk_journal_host.specs.Host.{HostMeaning, HostOf, JudgesBy}

-- all but the journal and the index is as it was
pub record PreservesEnds {J I : Type 0} (old new : HostOf J I) : Type 0 where
  pub keys : new.keys ≡ old.keys
  pub issuer : new.issuer ≡ old.issuer

-- a restart that is done: the journal's is, and the host judges by the entries that it found
pub record IsHostRestarted
    {J I : Type 0} (meaning : HostMeaning J I) (old new : HostOf J I) (found : ℕ) : Type 0 where
  pub entries : Entries
  pub ends : PreservesEnds old new
  pub journal : Restarted (meaning.journal.state_of old.journal) (meaning.journal.state_of new.journal) entries
  pub counted : length entries ≡ found
  pub judges : JudgesBy meaning new entries

-- a restart of the journal that was given up at one of its entries: it is stopped, no device step
-- failed, and what a restart would find next time was to be found before
pub record IsGivenUp {J : Type 0} (meaning : JournalMeaning J) (old new : J) : Type 0 where
  pub stops : Stops (meaning.state_of old) (meaning.state_of new) (meaning.state_of old).found
  pub no_failure : (meaning.state_of new).failures ≡ (meaning.state_of old).failures

-- it was given up at an entry whose number numbers no transaction, under which what was decided may
-- not stand, or which one before it used: each list that the next restart may find has such an entry,
-- and a sound journal kept one
pub record FoundUnusable
    {J : Type 0} (meaning : JournalMeaning J) (old new : J) : Type 0 where
  pub journal : IsGivenUp meaning old new
  pub next_not_usable : (meaning.state_of old).honest
      → FindsWithin (meaning.state_of new) (λ entries. ¬ UseNewNumbers entries)
  pub not_usable : (meaning.state_of old).honest → (meaning.state_of old).sound
      → (entries : Entries) × (meaning.state_of old).found entries × (¬ UseNewNumbers entries)

-- a journal that keeps to its model and is sound, where each entry of a list that a restart may find
-- uses a new number
pub record IsUsableJournal (journal : StoreState Entries) : Type 0 where
  pub honest : journal.honest
  pub sound : journal.sound
  pub usable : FindsWithin journal UseNewNumbers

-- a restart that failed: the host is stopped, since its journal failed, or found such a list
pub record HostRestartStopped
    {J I : Type 0} (meaning : JournalMeaning J) (old new : HostOf J I) (why : StoreFault) : Type 0 where
  pub ends : PreservesEnds old new
  pub stopped : new.state ≡ None
  pub cause : RestartFailed (meaning.state_of old.journal) (meaning.state_of new.journal) why
      ⊎ ((why ≡ Damaged) × FoundUnusable meaning old.journal new.journal)

-- a restart that was refused memory: the host is stopped, and its journal's restart was given up
pub record HostRestartNoMemory
    {J I : Type 0} (meaning : JournalMeaning J) (old new : HostOf J I) : Type 0 where
  pub ends : PreservesEnds old new
  pub stopped : new.state ≡ None
  pub journal : IsGivenUp meaning old.journal new.journal

-- why a restart is refused
abbrev pub HostRestartRefused : {J I : Type 0} → JournalMeaning J → HostOf J I → HostOf J I
    → HostFault → Type 0
HostRestartRefused meaning old new (fault.Store why) = HostRestartStopped meaning old new why
HostRestartRefused meaning old new fault.NoMemory = HostRestartNoMemory meaning old new
HostRestartRefused meaning old new _ = ⊥
