-- A host over a journal: what it is, and by which entries it judges: this project's own.
use Rattle.std.specs.Prelude.{◌≡◌, ◌-◌, ◌↔◌, Contains, Option, Some, true, length}
use Rattle.duk_host.specs.Judgement.{Decision}
use Rattle.duk_host.specs.Used.{IsUsed, Lists}
use Rattle.duk_hsm.specs.Keys.{HsmKeys}
use Rattle.duk_journal.specs.Groups.{Entries}
use Rattle.duk_journal.specs.Journal.{JournalMeaning}
use Rattle.duk_journal.specs.Standing.{HasApproved, UseNewNumbers, reversed_numbers, used_by}
use Rattle.duk_store.specs.Log.{Numbers}
use Rattle.duk_store.specs.StoreState.{FindsOnly}
use Rattle.duk_tree.specs.Serial.{Serial}
use Rattle.duk_journal_host.specs.Judgement.{LineBasis, line_basis}
use Rattle.duk_journal_host.specs.Latest.{latest_entries}

-- what a running host has in memory: the used numbers, those of them under which no approved payment
-- is kept, and those that were reversed, each in any order; and the entries that can be answered
-- again, the oldest first
pub record IndexOf : Type 0 where
  pub used : Numbers
  pub others : Numbers
  pub reversed : Numbers
  pub latest : Entries

-- a number is used, and not one of those under which no approved payment is kept
abbrev pub IsApproved : Numbers → Numbers → Serial → Type 0
IsApproved used others ksn = IsUsed used ksn × ¬ IsUsed others ksn

-- the sets of an index are those of these entries, each of which used a new number
pub record HasSets (entries : Entries) (index : IndexOf) : Type 0 where
  pub new_numbers : UseNewNumbers entries
  pub listed : (numbers : Numbers) × Lists numbers index.used
  pub used_are : (ksn : Serial) → IsUsed index.used ksn ↔ Contains (used_by entries) ksn
  pub others_used : (ksn : Serial) → IsUsed index.others ksn → IsUsed index.used ksn
  pub approved_are : (ksn : Serial)
      → IsApproved index.used index.others ksn ↔ HasApproved entries ksn
  pub reversed_are : (ksn : Serial)
      → IsUsed index.reversed ksn ↔ Contains (reversed_numbers entries) ksn

-- the index of these entries
pub record IsIndexOf (entries : Entries) (index : IndexOf) : Type 0 where
  pub sets : HasSets entries index
  pub latest_are : index.latest ≡ latest_entries entries

-- a host: the keys of its security module, its issuer, its journal, and its index, while it runs
pub record HostOf (J I : Type 0) : Type 0 where
  pub keys : HsmKeys
  pub issuer : I
  pub journal : J
  pub state : Option IndexOf

-- what its journal and its issuer mean
pub record HostMeaning (J I : Type 0) : Type 1 where
  pub journal : JournalMeaning J
  pub decides : I → Decision

-- those meanings together
abbrev pub host_meaning_of : {J I : Type 0} → JournalMeaning J → (I → Decision) → HostMeaning J I
host_meaning_of journal decides = record { journal = journal; decides = decides }

-- what a host judges by, where these entries are kept
abbrev pub basis_of : {J I : Type 0} → HostMeaning J I → HostOf J I → Entries → LineBasis
basis_of meaning host entries =
    line_basis host.keys entries (meaning.journal.capacity host.journal)
    (meaning.journal.capacity host.journal - meaning.journal.count host.journal)
    (meaning.decides host.issuer)

-- a journal runs, and keeps these entries: a restart would find them and nothing else
pub record KeepsAlone {J : Type 0} (meaning : JournalMeaning J) (journal : J) (entries : Entries) : Type 0 where
  pub runs : (meaning.state_of journal).running ≡ true
  pub counted : length entries ≡ meaning.count journal
  pub finds : (meaning.state_of journal).honest → FindsOnly (meaning.state_of journal) entries

-- a running host judges by these entries: its index is theirs, and its journal keeps them
pub record JudgesBy
    {J I : Type 0} (meaning : HostMeaning J I) (host : HostOf J I) (entries : Entries) : Type 0 where
  pub index : IndexOf
  pub runs : host.state ≡ Some index
  pub index_is : IsIndexOf entries index
  pub kept : KeepsAlone meaning.journal host.journal entries
