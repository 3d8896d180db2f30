-- What a host answers to bytes: this project's own.
use Rattle.std.specs.Prelude.{◌≡◌, ◌+◌, ◌⊎◌, ℕ, List, Some, None}
use Rattle.duk_frame.specs.Answer.{IsRefusal}
use Rattle.duk_frame.specs.declared.request.Request.{Request}
use Rattle.duk_frame.specs.Request.{IsRequest}
use Rattle.duk_store.specs.Log.{AppendFailed, IsAppended}
use Rattle.duk_store.specs.declared.fault.StoreFault.{StoreFault}
use Rattle.duk_tree.specs.Serial.{Serial}
use Rattle.duk_host.specs.Host.{HostMeaning, HostOf, basis_of}
use Rattle.duk_host.specs.Judgement.{IsAcceptable, IsAccepted, IsRefusalFor, IsRepeated}
use Rattle.duk_host.specs.Recent.{IsReplyWithCode, exchange, with_exchange}
use Rattle.duk_host.specs.Restart.{PreservesEnds}
use Rattle.duk_host.specs.Used.{IsOneMore}
use Rattle.duk_host.specs.declared.answered.Verdict.{Verdict}
use Rattle.duk_host.specs.declared.answered.Verdict.TheVariants.{Accepted, Refused, Repeated}
use Rattle.duk_host.specs.declared.fault.HostFault.{HostFault}
use Rattle.duk_host.specs.declared.fault.HostFault.TheVariants as fault
use Rattle.duk_host.specs.declared.running.Running.{Running}

-- a refusal: nothing changes
pub record AnswersRefusal
    {L I : Type 0} (meaning : HostMeaning L I) (bytes : List ℕ) (old new : HostOf L I)
    (frame : List ℕ) : Type 0 where
  pub running : Running
  pub was_running : old.state ≡ Some running
  pub refused : IsRefusalFor (basis_of meaning old running) bytes frame
  pub same : new ≡ old

-- the number is in the log, and is used
pub record IsNumberKept
    {L I : Type 0} (meaning : HostMeaning L I) (old new : HostOf L I) (ksn : Serial) : Type 0 where
  pub before : Running
  pub after : Running
  pub was_running : old.state ≡ Some before
  pub ends : PreservesEnds old new
  pub appended : IsAppended meaning.log old.log new.log ksn
  pub counted : meaning.log.count new.log ≡ meaning.log.count old.log + 1
  pub capacity : meaning.log.capacity new.log ≡ meaning.log.capacity old.log
  pub runs : new.state ≡ Some after
  pub one_more : IsOneMore before.used ksn after.used

-- a request against which a running host has no reason
pub record IsToAccept
    {L I : Type 0} (meaning : HostMeaning L I) (old : HostOf L I) (request : Request) : Type 0 where
  pub running : Running
  pub was_running : old.state ≡ Some running
  pub acceptable : IsAcceptable (basis_of meaning old running) request

-- an accepted reply: its number is in the log before the reply goes out, and request and reply are
-- the latest exchange
pub record AnswersReply
    {L I : Type 0} (meaning : HostMeaning L I) (bytes : List ℕ) (old new : HostOf L I)
    (frame : List ℕ) : Type 0 where
  pub running : Running
  pub request : Request
  pub was_running : old.state ≡ Some running
  pub accepted : IsAccepted (basis_of meaning old running) bytes request frame
  pub kept : IsNumberKept meaning old new request.ksn
  pub recent : kept.after.recent ≡ with_exchange kept.before.recent (exchange bytes frame)

-- a reply that was given before: nothing changes
pub record AnswersRepeat
    {L I : Type 0} (meaning : HostMeaning L I) (bytes : List ℕ) (old new : HostOf L I)
    (frame : List ℕ) : Type 0 where
  pub running : Running
  pub was_running : old.state ≡ Some running
  pub repeated : IsRepeated (basis_of meaning old running) bytes frame
  pub same : new ≡ old

-- what a host answers
abbrev pub Answers : {L I : Type 0} → HostMeaning L I → List ℕ → HostOf L I → HostOf L I → List ℕ
    → Type 0
Answers meaning bytes old new frame =
    AnswersRefusal meaning bytes old new frame
    ⊎ AnswersReply meaning bytes old new frame
    ⊎ AnswersRepeat meaning bytes old new frame

-- what is said of a frame is what it says
abbrev pub IsVerdictOn : List ℕ → Verdict → Type 0
IsVerdictOn frame (Accepted ksn code) = IsReplyWithCode frame ksn code
IsVerdictOn frame (Repeated ksn code) = IsReplyWithCode frame ksn code
IsVerdictOn frame (Refused ksn reason) = IsRefusal frame ksn reason

-- what a host does, by what it says of its frame: a request is accepted, is one that was accepted
-- before, or is refused
abbrev pub AnswersAs : {L I : Type 0} → HostMeaning L I → List ℕ → HostOf L I → HostOf L I → List ℕ
    → Verdict → Type 0
AnswersAs meaning bytes old new frame (Accepted ksn code) =
    AnswersReply meaning bytes old new frame
AnswersAs meaning bytes old new frame (Repeated ksn code) =
    AnswersRepeat meaning bytes old new frame
AnswersAs meaning bytes old new frame (Refused ksn reason) =
    AnswersRefusal meaning bytes old new frame

-- the number was not kept: the host is stopped
pub record IsNumberNotKept
    {L I : Type 0} (meaning : HostMeaning L I) (old new : HostOf L I) (ksn : Serial)
    (why : StoreFault) : Type 0 where
  pub ends : PreservesEnds old new
  pub stopped : new.state ≡ None
  pub capacity : meaning.log.capacity new.log ≡ meaning.log.capacity old.log
  pub not_appended : AppendFailed meaning.log old.log new.log ksn why

-- why a number is not kept, and what that leaves
abbrev pub KeepRefused : {L I : Type 0} → HostMeaning L I → HostOf L I → HostOf L I → Serial
    → HostFault → Type 0
KeepRefused meaning old new ksn fault.NoMemory = new ≡ old
KeepRefused meaning old new ksn (fault.Store why) = IsNumberNotKept meaning old new ksn why
KeepRefused meaning old new ksn _ = ⊥

-- a request is to be accepted, and its number is not kept
pub record AcceptFailed
    {L I : Type 0} (meaning : HostMeaning L I) (bytes : List ℕ) (old new : HostOf L I)
    (why : HostFault) : Type 0 where
  pub request : Request
  pub is_request : IsRequest bytes request
  pub acceptable : IsToAccept meaning old request
  pub not_kept : KeepRefused meaning old new request.ksn why

-- why there is no answer, and what that leaves
abbrev pub HandleRefused : {L I : Type 0} → HostMeaning L I → List ℕ → HostOf L I → HostOf L I
    → HostFault → Type 0
HandleRefused meaning bytes old new fault.Stopped = (old.state ≡ None) × (new ≡ old)
HandleRefused meaning bytes old new fault.NoMemory =
    AcceptFailed meaning bytes old new fault.NoMemory
HandleRefused meaning bytes old new (fault.Store why) =
    AcceptFailed meaning bytes old new (fault.Store why)
HandleRefused meaning bytes old new _ = ⊥
