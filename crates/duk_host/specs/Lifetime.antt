-- Services, one after the other, each over what the one before may have left in the log: this
-- project's own.
use Rattle.std.specs.Prelude.{◌≡◌, ◌⊎◌, ◌++◌, ℕ, List, [], ◌∷◌, Contains}
use Rattle.std.specs.List.{concat}
use Rattle.duk_frame.specs.declared.code.Code.{Code}
use Rattle.duk_frame.specs.declared.request.Request.{Request}
use Rattle.duk_hsm.specs.Keys.{HsmKeys}
use Rattle.duk_io.specs.Known.{Known}
use Rattle.duk_io.specs.Sink.{IsCut, IsWritten}
use Rattle.duk_store.specs.Log.{Numbers}
use Rattle.duk_store.specs.StoreState.{FindsWithin}
use Rattle.duk_tree.specs.Serial.{Serial}
use Rattle.duk_host.specs.Handle.{HandleRefused}
use Rattle.duk_host.specs.Host.{HostMeaning, HostOf}
use Rattle.duk_host.specs.Judgement.{Decision, IsReplyTo}
use Rattle.duk_host.specs.Recent.{IsReplyWithCode}
use Rattle.duk_host.specs.Restart.{HostRestartRefused, IsHostRestarted}
use Rattle.duk_host.specs.Serve.{Serves}
use Rattle.duk_host.specs.declared.fault.HostFault.{HostFault}
use Rattle.duk_host.specs.declared.fault.HostFault.TheVariants as fault

-- the frame is an accepted reply to the transaction of this number
abbrev pub AcceptsNumber : Serial → List ℕ → Type 0
AcceptsNumber ksn frame = (code : Code) × IsReplyWithCode frame ksn code

-- the answers of a service that accept one number are all equal: a reply that is given again cannot
-- be distinguished from the first
abbrev pub AcceptsAlike : List (List ℕ) → Type 0
AcceptsAlike answers =
    (ksn : Serial) (one other : List ℕ) → Contains answers one → Contains answers other
    → AcceptsNumber ksn one → AcceptsNumber ksn other → one ≡ other

-- no number is accepted by two services
abbrev pub ServicesAcceptDifferentNumbers : List (List ℕ) → List (List ℕ) → Type 0
ServicesAcceptDifferentNumbers earlier later =
    (ksn : Serial) (one other : List ℕ) → Contains earlier one → Contains later other
    → AcceptsNumber ksn one → ¬ AcceptsNumber ksn other

-- an answer that accepts a number is the reply to a request of that number, under the key of that
-- number
abbrev pub IsUnderOwnKey : HsmKeys → Decision → List ℕ → Type 0
IsUnderOwnKey keys decides frame =
    (ksn : Serial) → AcceptsNumber ksn frame
    → (request : Request) × (request.ksn ≡ ksn) × IsReplyTo keys decides request frame

-- a host is made for a service, with these keys and this issuer. Its log is honest, and finds
-- nothing but what the service before may have left
pub record IsMadeOver
    {L I : Type 0} (meaning : HostMeaning L I) (keys : HsmKeys) (decides : Decision)
    (left : Numbers → Type 0) (host : HostOf L I) : Type 0 where
  pub keys_are : host.keys ≡ keys
  pub decides_are : meaning.decides host.issuer ≡ decides
  pub honest : (meaning.log.state_of host.log).honest
  pub within : FindsWithin (meaning.log.state_of host.log) left

-- a service ends once some frames are answered, whatever the cause, or at a frame that the host does
-- not answer, as where a device step of its log fails
abbrev pub EndsAt : {L I : Type 0} → HostMeaning L I → HostOf L I → HostOf L I → Type 0
EndsAt meaning mid last =
    (last ≡ mid)
    ⊎ ((frame : List ℕ) × (why : HostFault) × HandleRefused meaning frame mid last why)

-- the host is restarted and answers frames in turn
pub record IsServiceBroughtUp
    {L I : Type 0} (meaning : HostMeaning L I) (made : HostOf L I) (answers : List (List ℕ))
    (last : HostOf L I) : Type 0 where
  pub up : HostOf L I
  pub mid : HostOf L I
  pub found : ℕ
  pub frames : List (List ℕ)
  pub restarted : IsHostRestarted meaning.log made up found
  pub serves : Serves meaning up frames answers mid
  pub ends : EndsAt meaning mid last

-- its restart is refused, and it answers nothing
pub record IsServiceRefused
    {L I : Type 0} (meaning : HostMeaning L I) (made : HostOf L I) (answers : List (List ℕ))
    (last : HostOf L I) : Type 0 where
  pub why : HostFault
  pub refused : HostRestartRefused meaning.log made last why
  pub no_answers : answers ≡ []

-- what a service answers, and how it leaves its host
abbrev pub IsService : {L I : Type 0} → HostMeaning L I → HostOf L I → List (List ℕ)
    → HostOf L I → Type 0
IsService meaning made answers last =
    IsServiceRefused meaning made answers last ⊎ IsServiceBroughtUp meaning made answers last

-- a writer got all of these answers but the last whole, and a write failed in the last
pub record IsCutInLast (old new : Known) (answers : List (List ℕ)) : Type 0 where
  pub first : List (List ℕ)
  pub last : List ℕ
  pub mid : Known
  pub all_are : answers ≡ first ++ last ∷ []
  pub written : IsWritten old mid (concat first)
  pub cut : IsCut mid new last

-- what a writer got of the answers of a service that failed: each of them whole, and where a write
-- failed, each but the last
abbrev pub AreWrittenTo : Known → Known → List (List ℕ) → HostFault → Type 0
AreWrittenTo old new answers fault.Write = IsCutInLast old new answers
AreWrittenTo old new answers why = IsWritten old new (concat answers)

-- the answers of all services, in their order
abbrev pub all_answers : List (List (List ℕ)) → List (List ℕ)
all_answers [] = []
all_answers (answers ∷ later) = answers ++ all_answers later

-- the answers of services, one after the other, each over what the one before may have left
abbrev pub IsLifetime : {L I : Type 0} → HostMeaning L I → HsmKeys → Decision
    → (Numbers → Type 0) → List (List (List ℕ)) → Type 0
IsLifetime meaning keys decides left [] = Unit {0}
IsLifetime {L} {I} meaning keys decides left (answers ∷ later) =
    (made : HostOf L I) × (last : HostOf L I) × IsMadeOver meaning keys decides left made
    × IsService meaning made answers last
    × IsLifetime meaning keys decides (meaning.log.state_of last.log).found later
