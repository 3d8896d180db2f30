-- Services over one journal, one after the other, each over what the one before may have left in it:
-- this project's own.
use Rattle.std.specs.Prelude.{◌≡◌, ◌⊎◌, ◌++◌, ℕ, List, None, [], ◌∷◌}
use Rattle.std.specs.List.{concat}
use Rattle.duk_host.specs.declared.fault.HostFault.{HostFault}
use Rattle.duk_host.specs.declared.fault.HostFault.TheVariants as fault
use Rattle.duk_hsm.specs.Keys.{HsmKeys}
use Rattle.duk_io.specs.Known.{Known}
use Rattle.duk_io.specs.Sink.{IsCut, IsWritten}
use Rattle.duk_journal.specs.Groups.{Entries}
use Rattle.duk_store.specs.StoreState.{FindsWithin}
use Rattle.duk_store.specs.declared.fault.StoreFault.{StoreFault}
use Rattle.duk_journal_host.specs.Group.{AnswersFrames, IsGroupNotKept}
use Rattle.duk_journal_host.specs.Host.{HostMeaning, HostOf}
use Rattle.duk_journal_host.specs.Restart.{HostRestartRefused, IsHostRestarted}

-- a host is made for a service, with these keys and any issuer. Its journal is honest, and finds
-- nothing but what the service before may have left
pub record IsMadeOver
    {J I : Type 0} (meaning : HostMeaning J I) (keys : HsmKeys)
    (left : Entries → Type 0) (host : HostOf J I) : Type 0 where
  pub keys_are : host.keys ≡ keys
  pub honest : (meaning.journal.state_of host.journal).honest
  pub within : FindsWithin (meaning.journal.state_of host.journal) left

-- a service ends once some frames are answered, whatever the cause; where memory is refused, which
-- stops the host; or at a group whose entries are not kept
abbrev pub EndsAt : {J I : Type 0} → HostMeaning J I → HostOf J I → HostOf J I → Type 0
EndsAt meaning mid last =
    (last ≡ mid)
    ⊎ (last ≡ record mid { state = None })
    ⊎ ((group : List (List ℕ)) × (why : StoreFault) × IsGroupNotKept meaning group mid last why)

-- the host is restarted and answers frames in turn
pub record IsServiceBroughtUp
    {J I : Type 0} (meaning : HostMeaning J I) (made : HostOf J I) (answers : List (List ℕ))
    (last : HostOf J I) : Type 0 where
  pub up : HostOf J I
  pub mid : HostOf J I
  pub found : ℕ
  pub frames : List (List ℕ)
  pub restarted : IsHostRestarted meaning made up found
  pub answered : AnswersFrames meaning frames up mid answers
  pub ends : EndsAt meaning mid last

-- its restart is refused, and it answers nothing
pub record IsServiceRefused
    {J I : Type 0} (meaning : HostMeaning J I) (made : HostOf J I) (answers : List (List ℕ))
    (last : HostOf J I) : Type 0 where
  pub why : HostFault
  pub refused : HostRestartRefused meaning.journal made last why
  pub no_answers : answers ≡ []

-- what a service answers, and how it leaves its host
abbrev pub IsService : {J I : Type 0} → HostMeaning J I → HostOf J I → List (List ℕ)
    → HostOf J I → Type 0
IsService meaning made answers last =
    IsServiceRefused meaning made answers last ⊎ IsServiceBroughtUp meaning made answers last

-- what a writer got of the answers of a service that failed: each of them, and where a write failed,
-- the first bytes of them
abbrev pub AreWrittenTo : Known → Known → List (List ℕ) → HostFault → Type 0
AreWrittenTo old new answers fault.Write = IsCut old new (concat answers)
AreWrittenTo old new answers why = IsWritten old new (concat answers)

-- the answers of all services, in their order
abbrev pub all_answers : List (List (List ℕ)) → List (List ℕ)
all_answers [] = []
all_answers (answers ∷ later) = answers ++ all_answers later

-- the answers of services, one after the other, each over what the one before may have left, and
-- what the journal may keep after the last
abbrev pub IsLifetime : {J I : Type 0} → HostMeaning J I → HsmKeys
    → (Entries → Type 0) → List (List (List ℕ)) → (Entries → Type 0) → Type 0
IsLifetime meaning keys left [] after = (entries : Entries) → after entries → left entries
IsLifetime {J} {I} meaning keys left (answers ∷ later) after =
    (made : HostOf J I) × (last : HostOf J I) × IsMadeOver meaning keys left made
    × IsService meaning made answers last
    × IsLifetime meaning keys (meaning.journal.state_of last.journal).found later after
