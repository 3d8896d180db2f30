-- What a host answers, from what its parts do.
use Rattle.std.proofs.Common.{◌≡◌, ◌-◌, if◌then◌else◌, ℕ, List, Option, Some, Result, Ok, Err, IfOk, IfErr, inl, inr, refl, sym, ap, ◌∙◌, subst}
use Rattle.duk_frame.specs.Request.{IsRequest}
use Rattle.duk_frame.specs.declared.request.Request.{Request}
use Rattle.duk_store.specs.Log.{IsAppended, room_of}
use Rattle.duk_tree.specs.Serial.{Serial}
use Rattle.duk_host.specs.Handle.{Answers, AnswersAs, AnswersReply, HandleRefused, IsNumberKept, IsToAccept, IsVerdictOn, KeepRefused}
use Rattle.duk_host.specs.inner.Handle.{IsNumberAdded, IsRemembered, IsReplied, IsAcceptedVerdict}
use Rattle.duk_host.specs.inner.Judged.{IsSettled}
use Rattle.duk_host.specs.Host.{HostMeaning, HostOf, basis_of}
use Rattle.duk_host.specs.inner.Host.{LogHolds, LogAgrees}
use Rattle.duk_host.specs.Judgement.{Decision, IsAcceptable, IsReplyTo, basis_with}
use Rattle.duk_host.specs.Recent.{Exchange, exchange, with_exchange}
use Rattle.duk_host.specs.Used.{IsOneMore}
use Rattle.duk_host.specs.declared.answered.Verdict.{Verdict}
use Rattle.duk_host.specs.declared.answered.Verdict.TheVariants.{Accepted, Refused, Repeated}
use Rattle.duk_host.specs.declared.fault.HostFault.{HostFault}
use Rattle.duk_host.specs.declared.fault.HostFault.TheVariants as fault
use Rattle.duk_host.specs.declared.running.Running.{Running}

one_running : (state : Option Running) (one other : Running) → state ≡ Some one → state ≡ Some other → one ≡ other
one_running state one other is same = cc

-- the room that a running host reported
room_left :
    {L I : Type 0} (meaning : HostMeaning L I) (host : HostOf L I) (running : Running) (room : ℕ)
    → LogAgrees (meaning.log.state_of host.log) host.state → host.state ≡ Some running
    → room ≡ room_of meaning.log host.log → room ≡ meaning.log.capacity host.log - meaning.log.count host.log
room_left meaning host running room agrees runs room_is =
    let holds : LogHolds (meaning.log.state_of host.log) running.used = subst (λ state. LogAgrees (meaning.log.state_of host.log) state) runs agrees in
    room_is ∙ ap (λ running. if running then meaning.log.capacity host.log - meaning.log.count host.log else 0) holds.runs

-- what changes nothing, by what is reported of it
settled_as :
    {L I : Type 0} (meaning : HostMeaning L I) (bytes : List ℕ) (host : HostOf L I) (running : Running) (frame : List ℕ) (says : Verdict)
    → host.state ≡ Some running → IsSettled (basis_of meaning host running) bytes frame says → AnswersAs meaning bytes host host frame says
settled_as meaning bytes host running frame (Accepted ksn code) runs settled = absurd settled
settled_as meaning bytes host running frame (Repeated ksn code) runs settled = record { running = running; was_running = runs; repeated = settled; same = refl }
settled_as meaning bytes host running frame (Refused ksn reason) runs settled = record { running = running; was_running = runs; refused = settled; same = refl }

-- a running host has no reason against a request
pub to_accept :
    {L I : Type 0} (meaning : HostMeaning L I) (host : HostOf L I) (running : Running) (request : Request) (room : ℕ)
    → LogAgrees (meaning.log.state_of host.log) host.state → host.state ≡ Some running
    → room ≡ room_of meaning.log host.log
    → ((decides : Decision) → IsAcceptable (basis_with host.keys running.used running.recent room decides) request)
    → IsToAccept meaning host request
to_accept meaning host running request room agrees runs room_is acceptable =
    let left : room ≡ meaning.log.capacity host.log - meaning.log.count host.log = room_left meaning host running room agrees runs room_is in
    record {
      running = running;
      was_running = runs;
      acceptable = subst (λ room. IsAcceptable (basis_with host.keys running.used running.recent room (meaning.decides host.issuer)) request) left (acceptable (meaning.decides host.issuer));
    }

-- an answer that changes nothing is that of a running host
pub settles :
    {L I : Type 0} (meaning : HostMeaning L I) (bytes : List ℕ) (host : HostOf L I) (running : Running) (room : ℕ) (frame : List ℕ) (says : Verdict)
    → LogAgrees (meaning.log.state_of host.log) host.state → host.state ≡ Some running
    → room ≡ room_of meaning.log host.log
    → ((decides : Decision) → IsSettled (basis_with host.keys running.used running.recent room decides) bytes frame says)
    → AnswersAs meaning bytes host host frame says
settles meaning bytes host running room frame says agrees runs room_is settled =
    let left : room ≡ meaning.log.capacity host.log - meaning.log.count host.log = room_left meaning host running room agrees runs room_is in
    settled_as meaning bytes host running frame says runs (subst (λ room. IsSettled (basis_with host.keys running.used running.recent room (meaning.decides host.issuer)) bytes frame says) left (settled (meaning.decides host.issuer)))

-- one more exchange in memory leaves the number kept
kept_on : {L I : Type 0} (meaning : HostMeaning L I) (old mid new : HostOf L I) (ksn : Serial) (last : Exchange) → (added : IsNumberAdded meaning old mid ksn) → (remembered : IsRemembered mid new last) → remembered.before ≡ added.kept.after → IsNumberKept meaning old new ksn
kept_on meaning old mid new ksn last added remembered same =
    let kept = added.kept in
    let log : new.log ≡ mid.log = ap (λ (host : HostOf _ _). host.log) remembered.rest in
    record {
      before = kept.before;
      after = remembered.after;
      was_running = kept.was_running;
      ends = record {
        keys = ap (λ (host : HostOf _ _). host.keys) remembered.rest ∙ kept.ends.keys;
        issuer = ap (λ (host : HostOf _ _). host.issuer) remembered.rest ∙ kept.ends.issuer;
      };
      appended = subst (λ log. IsAppended meaning.log old.log log ksn) (sym log) kept.appended;
      counted = ap (λ log. meaning.log.count log) log ∙ kept.counted;
      capacity = ap (λ log. meaning.log.capacity log) log ∙ kept.capacity;
      runs = ap (λ (host : HostOf _ _). host.state) remembered.rest;
      one_more = subst (λ used. IsOneMore kept.before.used ksn used) (sym (remembered.used ∙ ap (λ (running : Running). running.used) same)) kept.one_more;
    }

-- the number is kept, the reply is made, and the two are the latest exchange
pub replied :
    {L I : Type 0} (meaning : HostMeaning L I) (bytes : List ℕ) (old mid new : HostOf L I) (request : Request) (last : Exchange) (frame : List ℕ)
    → IsNumberAdded meaning old mid request.ksn → last.request ≡ bytes → IsReplyTo mid.keys (meaning.decides mid.issuer) request last.reply
    → IsRemembered mid new last → frame ≡ last.reply → IsReplied meaning bytes old new request frame
unfolding kept_on
replied meaning bytes old mid new request last frame added is_request reply remembered frame_is =
    let same : remembered.before ≡ added.kept.after = one_running mid.state remembered.before added.kept.after remembered.was_running added.kept.runs in
    let both : last ≡ exchange bytes frame = ap (λ request. exchange request last.reply) is_request ∙ ap (λ reply. exchange bytes reply) (sym frame_is) in
    let keys : mid.keys ≡ old.keys = added.kept.ends.keys in
    let issuer : mid.issuer ≡ old.issuer = added.kept.ends.issuer in
    record {
      kept = kept_on meaning old mid new request.ksn last added remembered same;
      reply =
          subst (λ keys. IsReplyTo keys (meaning.decides old.issuer) request frame) keys
          (subst (λ issuer. IsReplyTo mid.keys (meaning.decides issuer) request frame) issuer
          (subst (λ reply. IsReplyTo mid.keys (meaning.decides mid.issuer) request reply) (sym frame_is) reply));
      recent =
          remembered.recent
          ∙ ap (λ recent. with_exchange recent last) (ap (λ (running : Running). running.recent) same ∙ added.recent)
          ∙ ap (λ last. with_exchange added.kept.before.recent last) both;
    }

-- its number is kept, and it is replied to
pub answers :
    {L I : Type 0} (meaning : HostMeaning L I) (bytes : List ℕ) (old new : HostOf L I) (request : Request) (frame : List ℕ)
    → IsToAccept meaning old request → IsRequest bytes request → IsReplied meaning bytes old new request frame → AnswersReply meaning bytes old new frame
answers meaning bytes old new request frame accept is_request replied = record {
  running = accept.running;
  request = request;
  was_running = accept.was_running;
  accepted = record { is_request = is_request; acceptable = accept.acceptable; reply = replied.reply };
  kept = replied.kept;
  recent = replied.recent;
}

-- a request that is accepted is reported as accepted
pub answers_reply : {L I : Type 0} (meaning : HostMeaning L I) (bytes : List ℕ) (old new : HostOf L I) (frame : List ℕ) (says : Verdict) → AnswersReply meaning bytes old new frame → IsAcceptedVerdict frame says → AnswersAs meaning bytes old new frame says
answers_reply meaning bytes old new frame (Accepted ksn code) is reported = is
answers_reply meaning bytes old new frame (Repeated ksn code) is reported = absurd reported
answers_reply meaning bytes old new frame (Refused ksn reason) is reported = absurd reported

-- what is reported is what the frame says
pub reply_reported : (frame : List ℕ) (says : Verdict) → IsAcceptedVerdict frame says → IsVerdictOn frame says
reply_reported frame (Accepted ksn code) reported = reported
reply_reported frame (Repeated ksn code) reported = absurd reported
reply_reported frame (Refused ksn reason) reported = absurd reported

-- what is done by what is reported is an answer
pub answered_as : {L I : Type 0} (meaning : HostMeaning L I) (bytes : List ℕ) (old new : HostOf L I) (frame : List ℕ) (says : Verdict) → AnswersAs meaning bytes old new frame says → Answers meaning bytes old new frame
answered_as meaning bytes old new frame (Accepted ksn code) is = inr (inl is)
answered_as meaning bytes old new frame (Repeated ksn code) is = inr (inr is)
answered_as meaning bytes old new frame (Refused ksn reason) is = inl is

-- its number is not kept
pub refuses :
    {L I : Type 0} (meaning : HostMeaning L I) (bytes : List ℕ) (old new : HostOf L I) (request : Request) (why : HostFault)
    → IsToAccept meaning old request → IsRequest bytes request → KeepRefused meaning old new request.ksn why → HandleRefused meaning bytes old new why
refuses meaning bytes old new request fault.NoMemory accept is_request refused = record { request = request; is_request = is_request; acceptable = accept; not_kept = refused }
refuses meaning bytes old new request (fault.Store why) accept is_request refused = record { request = request; is_request = is_request; acceptable = accept; not_kept = refused }
refuses meaning bytes old new request fault.Stopped accept is_request refused = absurd refused
refuses meaning bytes old new request fault.Read accept is_request refused = absurd refused
refuses meaning bytes old new request fault.Write accept is_request refused = absurd refused
refuses meaning bytes old new request fault.Truncated accept is_request refused = absurd refused
refuses meaning bytes old new request fault.TooLong accept is_request refused = absurd refused

pub if_ok : {A E : Type 0} (P Q : A → Type 0) → ((value : A) → P value → Q value) → (result : Result A E) → IfOk result P → IfOk result Q
if_ok P Q to (Ok value) holds = to value holds
if_ok P Q to (Err why) holds = tt

pub if_ok_both : {A E : Type 0} (P Q R : A → Type 0) → ((value : A) → P value → Q value → R value) → (result : Result A E) → IfOk result P → IfOk result Q → IfOk result R
if_ok_both P Q R to (Ok value) p q = to value p q
if_ok_both P Q R to (Err why) p q = tt

pub if_err : {A E : Type 0} (P Q : E → Type 0) → ((why : E) → P why → Q why) → (result : Result A E) → IfErr result P → IfErr result Q
if_err P Q to (Ok value) holds = tt
if_err P Q to (Err why) holds = to why holds
