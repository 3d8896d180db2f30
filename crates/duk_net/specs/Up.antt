-- A request reaches the host of a world: this project's own.
use Rattle.std.specs.Prelude.{◌≡◌, ◌≢◌, ◌+◌, ◌++◌, ◌∷◌, [], ℕ, List, length}
use Rattle.duk_frame.specs.Answer.{IsRefusal, IsReply}
use Rattle.duk_frame.specs.declared.code.Code.{Code}
use Rattle.duk_host.specs.Handle.{AnswersRefusal, AnswersRepeat, AnswersReply, HandleRefused}
use Rattle.duk_host.specs.declared.fault.HostFault.{HostFault}
use Rattle.duk_host.specs.declared.fault.HostFault.TheVariants.{NoMemory}
use Rattle.duk_tree.specs.Serial.{Serial}
use Rattle.duk_net.specs.World.{Frame, Meanings, WorldOf}
use Rattle.duk_stations.specs.Places.{HasNone, IsAt}
use Rattle.duk_net.specs.declared.outcome.Outcome.{Outcome}
use Rattle.duk_net.specs.declared.outcome.Outcome.TheVariants as outcome

-- the host answers, and the answer is sent
pub record IsAnswerSent
    {C L I : Type 0} (old : WorldOf C L I) (n : ℕ) (frame : Frame)
    (new : WorldOf C L I) : Type 0 where
  pub number : n ≡ length old.answers + 1
  pub rest : new ≡ record old { host = new.host; answers = old.answers ++ frame ∷ [] }

-- the host accepts the request of this number, and the answer is the accepted reply with this code
pub record UpAccepted
    {C L I : Type 0} (m : Meanings C L I) (old : WorldOf C L I) (k n : ℕ) (ksn : Serial)
    (code : Code) (new : WorldOf C L I) : Type 0 where
  pub request : Frame
  pub frame : Frame
  pub mac : List ℕ
  pub sent : IsAt old.requests k request
  pub accepted : AnswersReply m.host request.items old.host new.host frame.items
  pub reported : IsReply frame.items ksn code mac
  pub answered : IsAnswerSent old n frame new

-- the host had accepted the request of this number before, and the answer is the reply that it gave
-- then, with this code
pub record UpRepeated
    {C L I : Type 0} (m : Meanings C L I) (old : WorldOf C L I) (k n : ℕ) (ksn : Serial)
    (code : Code) (new : WorldOf C L I) : Type 0 where
  pub request : Frame
  pub frame : Frame
  pub mac : List ℕ
  pub sent : IsAt old.requests k request
  pub repeated : AnswersRepeat m.host request.items old.host new.host frame.items
  pub reported : IsReply frame.items ksn code mac
  pub answered : IsAnswerSent old n frame new

-- the host refuses the request of this number for this reason
pub record UpRefused
    {C L I : Type 0} (m : Meanings C L I) (old : WorldOf C L I) (k n : ℕ) (ksn : Serial)
    (reason : ℕ) (new : WorldOf C L I) : Type 0 where
  pub request : Frame
  pub frame : Frame
  pub sent : IsAt old.requests k request
  pub refused : AnswersRefusal m.host request.items old.host new.host frame.items
  pub reported : IsRefusal frame.items ksn reason
  pub answered : IsAnswerSent old n frame new

-- the host does not answer, for another fault than out of memory
pub record UpFaulted
    {C L I : Type 0} (m : Meanings C L I) (old : WorldOf C L I) (k : ℕ) (why : HostFault)
    (new : WorldOf C L I) : Type 0 where
  pub request : Frame
  pub sent : IsAt old.requests k request
  pub not_memory : why ≢ NoMemory
  pub faulted : HandleRefused m.host request.items old.host new.host why
  pub rest : new ≡ record old { host = new.host }

-- what comes of a request that reaches the host
abbrev pub ReachesHost : {C L I : Type 0} → Meanings C L I → WorldOf C L I → ℕ → Outcome
    → WorldOf C L I → Type 0
ReachesHost m old k outcome.NoSuchFrame new = HasNone old.requests k × (new ≡ old)
ReachesHost m old k (outcome.Accepted n ksn code) new = UpAccepted m old k n ksn code new
ReachesHost m old k (outcome.Repeated n ksn code) new = UpRepeated m old k n ksn code new
ReachesHost m old k (outcome.Refused n ksn reason) new = UpRefused m old k n ksn reason new
ReachesHost m old k (outcome.HostFaulted why) new = UpFaulted m old k why new
ReachesHost m old k _ new = ⊥
