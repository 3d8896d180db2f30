-- The answers to frames in turn, by the judgement of each: this project's own.
use Rattle.std.specs.Prelude.{◌≡◌, ◌↔◌, ◌-◌, ◌⊎◌, ◌++◌, ℕ, List, [], ◌∷◌, Some, None, length}
use Rattle.std.specs.List.{concat}
use Rattle.duk_frame.specs.Request.{IsRequest}
use Rattle.duk_frame.specs.Stream.{BeginsWith, IsFrame, Splits}
use Rattle.duk_frame.specs.declared.request.Request.{Request}
use Rattle.duk_io.specs.Known.{Known}
use Rattle.duk_io.specs.Sink.{IsCut, IsWritten}
use Rattle.duk_store.specs.Log.{Numbers}
use Rattle.duk_store.specs.StoreState.{FindsOnly, FindsWithin}
use Rattle.duk_tree.specs.Serial.{Serial}
use Rattle.duk_host.specs.Host.{HostMeaning, HostOf}
use Rattle.duk_host.specs.Judgement.{IsAcceptable, IsAccepted, IsRefusalFor, IsRepeated, JudgementBasis, basis_with}
use Rattle.duk_host.specs.Recent.{Exchange, exchange, with_exchange}
use Rattle.duk_host.specs.Serve.{Service}
use Rattle.duk_host.specs.Used.{IsUsed}
use Rattle.duk_host.specs.declared.fault.HostFault.{HostFault}
use Rattle.duk_host.specs.declared.fault.HostFault.TheVariants as fault
use Rattle.duk_host.specs.declared.running.Running.{Running}

-- one more number is used, at the end of the list, its exchange is the latest, and there is room
-- for one number less
abbrev pub with_accepted : JudgementBasis → Serial → Exchange → JudgementBasis
with_accepted basis ksn last =
    basis_with basis.keys (basis.used ++ ksn ∷ []) (with_exchange basis.recent last)
    (basis.room - 1) basis.decides

-- bytes are refused with this frame, and both lists stay
pub record IsRefusedOn
    (basis : JudgementBasis) (bytes frame : List ℕ) (after : JudgementBasis) : Type 0 where
  pub refused : IsRefusalFor basis bytes frame
  pub same : after ≡ basis

-- bytes are accepted with this frame, their number is used, and the two are the latest exchange
pub record IsAcceptedOn
    (basis : JudgementBasis) (bytes frame : List ℕ) (after : JudgementBasis) : Type 0 where
  pub request : Request
  pub accepted : IsAccepted basis bytes request frame
  pub used : after ≡ with_accepted basis request.ksn (exchange bytes frame)

-- bytes are given the frame again that they were given before, and both lists stay
pub record IsRepeatedOn
    (basis : JudgementBasis) (bytes frame : List ℕ) (after : JudgementBasis) : Type 0 where
  pub repeated : IsRepeated basis bytes frame
  pub same : after ≡ basis

-- a frame is judged: it is refused, accepted, or answered as before
abbrev pub IsJudgedOn : JudgementBasis → List ℕ → List ℕ → JudgementBasis → Type 0
IsJudgedOn basis bytes frame after =
    IsRefusedOn basis bytes frame after
    ⊎ IsAcceptedOn basis bytes frame after
    ⊎ IsRepeatedOn basis bytes frame after

-- frames are judged in turn, each with the used numbers, the latest exchanges and the room that are
-- left after those before it; these are the answers, and this is what is left after the last
abbrev pub AreJudged : JudgementBasis → List (List ℕ) → List (List ℕ) → JudgementBasis → Type 0
AreJudged basis [] [] after = after ≡ basis
AreJudged basis (frame ∷ frames) (answer ∷ answers) after =
    (mid : JudgementBasis)
    × IsJudgedOn basis frame answer mid
    × AreJudged mid frames answers after
AreJudged basis _ _ after = ⊥

-- a running host judges by this: its used numbers are those of the list, a restart of its log would
-- find that list and no other, and its latest exchanges are those of the other list
pub record JudgesBy
    {L I : Type 0} (meaning : HostMeaning L I) (host : HostOf L I)
    (basis : JudgementBasis) : Type 0 where
  pub running : Running
  pub runs : host.state ≡ Some running
  pub keys : basis.keys ≡ host.keys
  pub decides : basis.decides ≡ meaning.decides host.issuer
  pub room : basis.room ≡ meaning.log.capacity host.log - meaning.log.count host.log
  pub used : (ksn : Serial) → IsUsed basis.used ksn ↔ IsUsed running.used ksn
  pub recent : basis.recent ≡ running.recent
  pub finds : (meaning.log.state_of host.log).honest
      → FindsOnly (meaning.log.state_of host.log) basis.used

-- the bytes of a stream are split into frames, these are the answers to them in turn, and this is
-- what is left after the last
pub record IsServedStream
    (basis : JudgementBasis) (bytes : List ℕ) (answers : List (List ℕ))
    (after : JudgementBasis) : Type 0 where
  pub frames : List (List ℕ)
  pub rest : List ℕ
  pub splits : Splits bytes frames rest
  pub judged : AreJudged basis frames answers after

-- a service wrote all answers to the frames of a stream, and its host judges by what they left
pub record WroteAllOf
    {L I : Type 0} (meaning : HostMeaning L I) (basis : JudgementBasis) (old new : Service L I)
    (bytes : List ℕ) : Type 0 where
  pub answers : List (List ℕ)
  pub after : JudgementBasis
  pub served : IsServedStream basis bytes answers after
  pub written : IsWritten old.writer new.writer (concat answers)
  pub judges : JudgesBy meaning new.host after

-- a service wrote the first of these answers, those to the first frames of a stream, and its host
-- judges by what these left
pub record WroteFirstOf
    {L I : Type 0} (meaning : HostMeaning L I) (basis : JudgementBasis) (old new : Service L I)
    (bytes : List ℕ) (all : List (List ℕ)) (count : ℕ) : Type 0 where
  pub frames : List (List ℕ)
  pub rest : List ℕ
  pub first : List (List ℕ)
  pub others : List (List ℕ)
  pub after : JudgementBasis
  pub begins : BeginsWith bytes frames rest
  pub judged : AreJudged basis frames first after
  pub counted : length first ≡ count
  pub all_are : all ≡ first ++ others
  pub written : IsWritten old.writer new.writer (concat first)
  pub judges : JudgesBy meaning new.host after

-- the answer to a frame was cut, and the host judges by what that frame left
pub record IsCutOn
    {L I : Type 0} (meaning : HostMeaning L I) (basis : JudgementBasis) (writer : Known)
    (new : Service L I) (frame : List ℕ) : Type 0 where
  pub answer : List ℕ
  pub after : JudgementBasis
  pub judged : IsJudgedOn basis frame answer after
  pub cut : IsCut writer new.writer answer
  pub judges : JudgesBy meaning new.host after

-- the frame is a request that is to be accepted
abbrev pub IsToAcceptOn : JudgementBasis → List ℕ → Serial → Type 0
IsToAcceptOn basis frame ksn =
    (request : Request) × IsRequest frame request × IsAcceptable basis request × (request.ksn ≡ ksn)

-- a request that is to be accepted was refused memory, and the host judges as before it
pub record IsOutOfMemoryOn
    {L I : Type 0} (meaning : HostMeaning L I) (basis : JudgementBasis) (writer : Known)
    (new : Service L I) (frame : List ℕ) : Type 0 where
  pub ksn : Serial
  pub to_accept : IsToAcceptOn basis frame ksn
  pub unwritten : new.writer ≡ writer
  pub judges : JudgesBy meaning new.host basis

-- the used numbers, or these and one more at their end
abbrev pub AtMostOneMore : Numbers → Serial → Numbers → Type 0
AtMostOneMore used ksn numbers = (numbers ≡ used) ⊎ (numbers ≡ used ++ ksn ∷ [])

-- the log failed at the number of a request that is to be accepted: the host is stopped, and a
-- restart of its log finds the used numbers, or these and that one
pub record IsStoppedOn
    {L I : Type 0} (meaning : HostMeaning L I) (basis : JudgementBasis) (writer : Known)
    (new : Service L I) (frame : List ℕ) : Type 0 where
  pub ksn : Serial
  pub to_accept : IsToAcceptOn basis frame ksn
  pub unwritten : new.writer ≡ writer
  pub stopped : new.host.state ≡ None
  pub keys : basis.keys ≡ new.host.keys
  pub decides : basis.decides ≡ meaning.decides new.host.issuer
  pub finds : (meaning.log.state_of new.host.log).honest
      → FindsWithin (meaning.log.state_of new.host.log) (AtMostOneMore basis.used ksn)

-- what is left where a service fails at a frame that is judged by this, by its fault
abbrev pub IsLeftBy : {L I : Type 0} → HostMeaning L I → JudgementBasis → Known → Service L I
    → List ℕ → HostFault → Type 0
IsLeftBy meaning basis writer new frame fault.Write = IsCutOn meaning basis writer new frame
IsLeftBy meaning basis writer new frame fault.NoMemory =
    IsOutOfMemoryOn meaning basis writer new frame
IsLeftBy meaning basis writer new frame (fault.Store why) =
    IsStoppedOn meaning basis writer new frame
IsLeftBy meaning basis writer new frame _ = ⊥

-- a service wrote the answers to the first frames of a stream, and failed at the frame after them
pub record FailedAfter
    {L I : Type 0} (meaning : HostMeaning L I) (basis : JudgementBasis) (old new : Service L I)
    (bytes : List ℕ) (why : HostFault) : Type 0 where
  pub frames : List (List ℕ)
  pub frame : List ℕ
  pub rest : List ℕ
  pub answers : List (List ℕ)
  pub after : JudgementBasis
  pub writer : Known
  pub begins : BeginsWith bytes frames (frame ++ rest)
  pub is_frame : IsFrame frame
  pub judged : AreJudged basis frames answers after
  pub written : IsWritten old.writer writer (concat answers)
  pub left : IsLeftBy meaning after writer new frame why
