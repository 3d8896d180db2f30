-- What comes of a request that reaches the host.
use Rattle.std.proofs.Common.{◌≡◌, ℕ, List, Result, Ok, Err, IfOk, OnErr}
use Rattle.duk_frame.specs.Answer.{IsAnswer}
use Rattle.duk_frame.specs.declared.answer.AnswerFrame.{AnswerFrame}
use Rattle.duk_host.specs.Handle.{AnswersAs, IsVerdictOn}
use Rattle.duk_host.specs.declared.answered.Verdict.{Verdict}
use Rattle.duk_host.specs.declared.answered.Verdict.TheVariants.{Accepted, Refused, Repeated}
use Rattle.duk_net.specs.Up.{IsAnswerSent, ReachesHost}
use Rattle.duk_net.specs.inner.Up.{verdict_outcome}
use Rattle.duk_net.specs.World.{Frame, Meanings, WorldOf}
use Rattle.duk_stations.specs.Places.{IsAt}

-- bytes are the frame of at most one answer
abbrev pub OneReading : Type 0
OneReading = (bytes : List ℕ) (answer other : AnswerFrame) → IsAnswer bytes answer → IsAnswer bytes other → answer ≡ other

-- an answer is reported by its outcome
pub up_answered : {C L I : Type 0} (m : Meanings C L I) (old : WorldOf C L I) (k n : ℕ) (request frame : Frame) (says : Verdict) (new : WorldOf C L I)
    → IsAt old.requests k request → IsVerdictOn frame.items says → AnswersAs m.host request.items old.host new.host frame.items says → IsAnswerSent old n frame new
    → ReachesHost m old k (verdict_outcome n says) new
up_answered m old k n request frame (Accepted ksn code) new sent reported answered rest = record {
  request = request;
  frame = frame;
  mac = reported.0;
  sent = sent;
  accepted = answered;
  reported = reported.1;
  answered = rest;
}
up_answered m old k n request frame (Repeated ksn code) new sent reported answered rest = record {
  request = request;
  frame = frame;
  mac = reported.0;
  sent = sent;
  repeated = answered;
  reported = reported.1;
  answered = rest;
}
up_answered m old k n request frame (Refused ksn reason) new sent reported answered rest = record {
  request = request;
  frame = frame;
  sent = sent;
  refused = answered;
  reported = reported;
  answered = rest;
}

-- what follows of what is so where a result is Ok
pub if_ok : {A E : Type 0} (P Q : A → Type 0) → ((x : A) → P x → Q x) → (result : Result A E) → IfOk result P → IfOk result Q
if_ok P Q follows (Ok x) holds = follows x holds
if_ok P Q follows (Err e) holds = holds

-- what follows of what is so where a result is Err
pub on_err : {A E : Type 0} (P Q : Type 0) → (P → Q) → (result : Result A E) → OnErr result P → OnErr result Q
on_err P Q follows (Ok x) holds = holds
on_err P Q follows (Err e) holds = follows holds
