-- How the entries of a group are kept: this project's own.
use Rattle.std.specs.Prelude.{◌≡◌, ◌≢◌, ◌≤◌, ◌+◌, ◌-◌, ◌++◌, [], All, length, true}
use Rattle.duk_journal.specs.Entry.{MayStandUnder}
use Rattle.duk_journal.specs.Groups.{Entries}
use Rattle.duk_journal.specs.Journal.{JournalMeaning}
use Rattle.duk_journal.specs.RecordFormat.{most_of_group}
use Rattle.duk_store.specs.Listed.{GroupAppendFailed}
use Rattle.duk_store.specs.StoreState.{PreservesNature}
use Rattle.duk_store.specs.declared.fault.StoreFault.{StoreFault}
use Rattle.duk_tree.specs.Path.{IsUsable}
use Rattle.duk_journal_host.specs.Host.{KeepsAlone}

-- a running journal has room for entries, perhaps none, with usable numbers, under which they may stand
pub record MayBeKept {J : Type 0} (meaning : JournalMeaning J) (journal : J) (group : Entries) : Type 0 where
  pub runs : (meaning.state_of journal).running ≡ true
  pub most : length group ≤ most_of_group
  pub usable : All (λ entry. IsUsable entry.number.counter) group
  pub stand : All (λ entry. MayStandUnder entry.number entry.decided) group
  pub room : length group ≤ meaning.capacity journal - meaning.count journal

-- they are kept: whatever the journal kept alone, it keeps that and these
pub record AreKept {J : Type 0} (meaning : JournalMeaning J) (old new : J) (group : Entries) : Type 0 where
  pub nature : PreservesNature (meaning.state_of old) (meaning.state_of new)
  pub counted : meaning.count new ≡ meaning.count old + length group
  pub kept : (entries : Entries) → KeepsAlone meaning old entries
      → KeepsAlone meaning new (entries ++ group)

-- they are not: there are some, and their append failed
pub record KeepFailed
    {J : Type 0} (meaning : JournalMeaning J) (old new : J) (group : Entries) (why : StoreFault)
    : Type 0 where
  pub some : group ≢ []
  pub failed : GroupAppendFailed meaning old new group why
