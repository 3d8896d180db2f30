-- What only private functions and proofs say beside `Host.antt`: this project's own.
use Rattle.std.specs.Prelude.{Option, Some, None, IsSome}
use Rattle.duk_hsm.specs.Keys.{HsmKeys}
use Rattle.duk_journal.specs.Groups.{Entries}
use Rattle.duk_journal.specs.Journal.{JournalMeaning}
use Rattle.duk_journal_host.specs.Host.{IndexOf, IsIndexOf, KeepsAlone}

-- there are entries that the journal keeps alone, and of which the index is
pub record HoldsIndex {J : Type 0} (meaning : JournalMeaning J) (journal : J) (index : IndexOf) : Type 0 where
  pub entries : Entries
  pub index_is : IsIndexOf entries index
  pub kept : KeepsAlone meaning journal entries

abbrev pub JournalAgrees : {J : Type 0} → JournalMeaning J → J → Option IndexOf → Type 0
JournalAgrees meaning journal None = Unit {0}
JournalAgrees meaning journal (Some index) = HoldsIndex meaning journal index

-- what holds of a host at all times: a zone key is held, and the journal of a running host keeps the
-- entries of which its index is
pub record AgreesWithJournal
    {J : Type 0} (meaning : JournalMeaning J) (keys : HsmKeys) (journal : J)
    (state : Option IndexOf) : Type 0 where
  pub zone : IsSome keys.zone
  pub holds : JournalAgrees meaning journal state
