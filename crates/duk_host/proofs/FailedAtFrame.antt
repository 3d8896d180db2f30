-- What a service leaves where it fails at a frame.
use Rattle.std.proofs.Common.{◌≡◌, List, Option, ℕ, [], ◌∷◌, ◌++◌, Some, None, inl, inr, refl, sym, ap, subst, ◌∙◌}
use Rattle.duk_frame.specs.Request.{IsRequest}
use Rattle.duk_frame.specs.declared.request.Request.{Request}
use Rattle.duk_store.specs.Log.{AppendFailed}
use Rattle.duk_store.specs.StoreState.{FindsWithin}
use Rattle.duk_store.specs.declared.fault.StoreFault.{StoreFault}
use Rattle.duk_store.specs.declared.fault.StoreFault.TheVariants as store_fault
use Rattle.duk_tree.specs.Serial.{Serial}
use Rattle.duk_host.specs.Handle.{IsToAccept}
use Rattle.duk_host.specs.Host.{HostMeaning, HostOf, basis_of}
use Rattle.duk_host.specs.Judgement.{JudgementBasis}
use Rattle.duk_host.specs.Serve.{AnswerFailed, FailsAtFrame, HasNoAnswer, IsAnswerCut, Service}
use Rattle.duk_host.specs.Served.{AtMostOneMore, FailedAfter, IsCutOn, IsJudgedOn, IsLeftBy, IsStoppedOn, IsToAcceptOn, JudgesBy, IsOutOfMemoryOn}
use Rattle.duk_host.specs.declared.fault.HostFault.{HostFault}
use Rattle.duk_host.specs.declared.fault.HostFault.TheVariants as fault
use Rattle.duk_host.proofs.JudgedInTurn.{judged, same_acceptable, same_numbers, same_recent}

-- its answer is cut
cut_on :
    {L I : Type 0} (meaning : HostMeaning L I) (basis : JudgementBasis) (mid new : Service L I) (frame : List ℕ)
    → JudgesBy meaning mid.host basis → IsAnswerCut meaning mid new frame → IsCutOn meaning basis mid.writer new frame
cut_on meaning basis mid new frame judges cut =
    let found = judged meaning mid.host new.host basis (frame ∷ []) (cut.answer ∷ []) judges (new.host, cut.answers, refl) in
    record {
      answer = cut.answer;
      after = found.0;
      judged = subst (λ after. IsJudgedOn basis frame cut.answer after) (sym found.1.2) found.1.1;
      cut = cut.cut;
      judges = found.2;
    }

-- a request that a host is to accept is one by the list
to_accept_on :
    {L I : Type 0} (meaning : HostMeaning L I) (host : HostOf L I) (basis : JudgementBasis) (frame : List ℕ) (request : Request)
    → JudgesBy meaning host basis → IsRequest frame request → IsToAccept meaning host request → IsToAcceptOn basis frame request.ksn
to_accept_on meaning host basis frame request judges is_request to_accept =
    let running = to_accept.running in
    let acceptable =
    same_acceptable (basis_of meaning host running) basis request (sym judges.keys) (sym judges.room)
    (same_numbers meaning host basis running judges to_accept.was_running) (same_recent meaning host basis running judges to_accept.was_running) to_accept.acceptable in
    (request, is_request, acceptable, refl)

-- the log of a host finds its list, or that and the number at which it failed
finds_at_most :
    {L I : Type 0} (meaning : HostMeaning L I) (old new : HostOf L I) (basis : JudgementBasis) (ksn : Serial) (why : StoreFault)
    → JudgesBy meaning old basis → AppendFailed meaning.log old.log new.log ksn why
    → (meaning.log.state_of new.log).honest → FindsWithin (meaning.log.state_of new.log) (AtMostOneMore basis.used ksn)
finds_at_most meaning old new basis ksn store_fault.Device judges failed honest numbers found =
    let was_honest = failed.stops.nature.honest.1 honest in
    let only = judges.finds was_honest in
    elim (failed.stops.within was_honest numbers found) [
      | inl same ↦ inl ((only numbers).0 same)
      | inr more ↦ inr (more.2 ∙ ap (λ earlier. earlier ++ ksn ∷ []) ((only more.0).0 more.1))
    ]
finds_at_most meaning old new basis ksn store_fault.Stopped judges failed honest numbers found =
    let was_honest = failed.stays.nature.honest.1 honest in
    inl ((judges.finds was_honest numbers).0 ((failed.stays.found was_honest numbers).0 found))
finds_at_most meaning old new basis ksn store_fault.Damaged judges failed honest numbers found = absurd failed
finds_at_most meaning old new basis ksn store_fault.Worn judges failed honest numbers found = absurd failed
finds_at_most meaning old new basis ksn store_fault.NoMemory judges failed honest numbers found = absurd failed

stopped_on :
    {L I : Type 0} (meaning : HostMeaning L I) (basis : JudgementBasis) (mid new : Service L I) (frame : List ℕ) (why : StoreFault)
    → JudgesBy meaning mid.host basis → HasNoAnswer meaning mid new frame (fault.Store why) → IsStoppedOn meaning basis mid.writer new frame
stopped_on meaning basis mid new frame why judges failed =
    let refused = failed.refused in
    let not_kept = refused.not_kept in
    record {
      ksn = refused.request.ksn;
      to_accept = to_accept_on meaning mid.host basis frame refused.request judges refused.is_request refused.acceptable;
      unwritten = failed.unwritten;
      stopped = not_kept.stopped;
      keys = judges.keys ∙ sym not_kept.ends.keys;
      decides = judges.decides ∙ ap meaning.decides (sym not_kept.ends.issuer);
      finds = finds_at_most meaning mid.host new.host basis refused.request.ksn why judges not_kept.not_appended;
    }

is_out_of_memory_on :
    {L I : Type 0} (meaning : HostMeaning L I) (basis : JudgementBasis) (mid new : Service L I) (frame : List ℕ)
    → JudgesBy meaning mid.host basis → HasNoAnswer meaning mid new frame fault.NoMemory → IsOutOfMemoryOn meaning basis mid.writer new frame
is_out_of_memory_on meaning basis mid new frame judges failed =
    let refused = failed.refused in
    record {
      ksn = refused.request.ksn;
      to_accept = to_accept_on meaning mid.host basis frame refused.request judges refused.is_request refused.acceptable;
      unwritten = failed.unwritten;
      judges = subst (λ host. JudgesBy meaning host basis) (sym refused.not_kept) judges;
    }

not_stopped : {A : Type 0} (state : Option A) (value : A) → state ≡ None → state ≡ Some value → ⊥
not_stopped state value none some = cc

left_by :
    {L I : Type 0} (meaning : HostMeaning L I) (basis : JudgementBasis) (mid new : Service L I) (frame : List ℕ) (why : HostFault)
    → JudgesBy meaning mid.host basis → AnswerFailed meaning mid new frame why → IsLeftBy meaning basis mid.writer new frame why
left_by meaning basis mid new frame fault.Write judges failed = cut_on meaning basis mid new frame judges failed
left_by meaning basis mid new frame fault.NoMemory judges failed = is_out_of_memory_on meaning basis mid new frame judges failed
left_by meaning basis mid new frame (fault.Store why) judges failed = stopped_on meaning basis mid new frame why judges failed
left_by meaning basis mid new frame fault.Stopped judges failed = absurd (not_stopped mid.host.state judges.running failed.refused.0 judges.runs)
left_by meaning basis mid new frame fault.Read judges failed = absurd failed.refused
left_by meaning basis mid new frame fault.Truncated judges failed = absurd failed.refused
left_by meaning basis mid new frame fault.TooLong judges failed = absurd failed.refused

-- a service fails after the first frames of a stream
pub failed_after :
    {L I : Type 0} (meaning : HostMeaning L I) (old new : Service L I) (basis : JudgementBasis) (bytes : List ℕ) (why : HostFault)
    → JudgesBy meaning old.host basis → FailsAtFrame meaning old new bytes why → FailedAfter meaning basis old new bytes why
failed_after meaning old new basis bytes why judges fails =
    let served = fails.served in
    let found = judged meaning old.host fails.mid.host basis served.frames served.answers judges served.serves in
    record {
      frames = served.frames;
      frame = fails.frame;
      rest = fails.rest;
      answers = served.answers;
      after = found.0;
      writer = fails.mid.writer;
      begins = served.begins;
      is_frame = fails.is_frame;
      judged = found.1;
      written = served.written;
      left = left_by meaning found.0 fails.mid new fails.frame why found.2 fails.failed;
    }
