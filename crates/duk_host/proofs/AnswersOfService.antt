-- What a service does after a restart is a service.
use Rattle.std.proofs.Common.{◌≡◌, inl, inr, ℕ, List, [], ◌∷◌, ◌++◌, length, refl, sym, subst, ◌∙◌}
use Rattle.std.specs.List.{concat}
use Rattle.duk_io.specs.Sink.{IsWritten}
use Rattle.duk_host.specs.Handle.{Answers, HandleRefused}
use Rattle.duk_host.specs.Host.{HostMeaning, HostOf}
use Rattle.duk_host.specs.Lifetime.{AreWrittenTo, IsService}
use Rattle.duk_host.specs.Restart.{IsHostRestarted}
use Rattle.duk_host.specs.Serve.{AnswerFailed, BytesFailed, IsReadToEnd, IsServed, Serves, Service, ServiceFailed, Supply}
use Rattle.duk_host.specs.declared.fault.HostFault.{HostFault}
use Rattle.duk_host.specs.declared.fault.HostFault.TheVariants as fault
use Rattle.duk_host.proofs.JudgedInTurn.{answers_counted}

-- one more frame is answered
serves_one : {L I : Type 0} (meaning : HostMeaning L I) (old mid new : HostOf L I) (frames answers : List (List ℕ)) (frame answer : List ℕ) → Serves meaning old frames answers mid → Answers meaning frame mid new answer
    → Serves meaning old (frames ++ frame ∷ []) (answers ++ answer ∷ []) new
serves_one meaning old mid new [] [] frame answer is answered = (new, rw (← is) answered, refl)
serves_one meaning old mid new [] (first ∷ answers) frame answer is answered = absurd is
serves_one meaning old mid new (first ∷ frames) [] frame answer is answered = absurd is
serves_one meaning old mid new (first ∷ frames) (second ∷ answers) frame answer (next, here, rest) answered = (next, here, serves_one meaning next mid new frames answers frame answer rest answered)

module _ {L I : Type 0} (meaning : HostMeaning L I) (made : HostOf L I) (old : Service L I) (found : ℕ) (restarted : IsHostRestarted meaning.log made old.host found) where
  -- a service whose answers the writer got
  abbrev pub Run : Service L I → HostFault → Type 0
  Run new why = (answers : List (List ℕ)) × IsService meaning made answers new.host × AreWrittenTo old.writer new.writer answers why

  abbrev pub WholeRun : Service L I → ℕ → Type 0
  WholeRun new count = (answers : List (List ℕ)) × IsService meaning made answers new.host × IsWritten old.writer new.writer (concat answers) × (length answers ≡ count)

  ended : (new : Service L I) (bytes rest : List ℕ) (count : ℕ) → IsServed meaning old new bytes rest count → WholeRun new count
  ended new bytes rest count served = (
    served.answers,
    inr (record { up = old.host; mid = new.host; found = found; frames = served.frames; restarted = restarted; serves = served.serves; ends = inl refl }),
    served.written,
    answers_counted meaning old.host new.host served.frames served.answers served.serves ∙ served.counted,
  )

  unanswered :
      (mid new : Service L I) (bytes rest frame : List ℕ) (count : ℕ) (why : HostFault) → IsServed meaning old mid bytes rest count → HandleRefused meaning frame mid.host new.host why
      → new.writer ≡ mid.writer → (answers : List (List ℕ)) × IsService meaning made answers new.host × IsWritten old.writer new.writer (concat answers)
  unanswered mid new bytes rest frame count why served refused unwritten = (
    served.answers,
    inr (record {
      up = old.host;
      mid = mid.host;
      found = found;
      frames = served.frames;
      restarted = restarted;
      serves = served.serves;
      ends = inr (frame, why, refused);
    }),
    subst (λ writer. IsWritten old.writer writer (concat served.answers)) (sym unwritten) served.written,
  )

  failed_frame : (mid new : Service L I) (bytes rest frame : List ℕ) (count : ℕ) (why : HostFault) → IsServed meaning old mid bytes rest count → AnswerFailed meaning mid new frame why → Run new why
  failed_frame mid new bytes rest frame count fault.Write served cut = (
    served.answers ++ cut.answer ∷ [],
    inr (record {
      up = old.host;
      mid = new.host;
      found = found;
      frames = served.frames ++ frame ∷ [];
      restarted = restarted;
      serves = serves_one meaning old.host mid.host new.host served.frames served.answers frame cut.answer served.serves cut.answers;
      ends = inl refl;
    }),
    record { first = served.answers; last = cut.answer; mid = mid.writer; all_are = refl; written = served.written; cut = cut.cut },
  )
  failed_frame mid new bytes rest frame count fault.NoMemory served failed = unanswered mid new bytes rest frame count fault.NoMemory served failed.refused failed.unwritten
  failed_frame mid new bytes rest frame count (fault.Store cause) served failed = unanswered mid new bytes rest frame count (fault.Store cause) served failed.refused failed.unwritten
  failed_frame mid new bytes rest frame count fault.Stopped served failed = unanswered mid new bytes rest frame count fault.Stopped served failed.refused failed.unwritten
  failed_frame mid new bytes rest frame count fault.Read served failed = unanswered mid new bytes rest frame count fault.Read served failed.refused failed.unwritten
  failed_frame mid new bytes rest frame count fault.Truncated served failed = unanswered mid new bytes rest frame count fault.Truncated served failed.refused failed.unwritten
  failed_frame mid new bytes rest frame count fault.TooLong served failed = unanswered mid new bytes rest frame count fault.TooLong served failed.refused failed.unwritten

  failed_bytes : (new : Service L I) (bytes : List ℕ) (why : HostFault) → BytesFailed meaning old new bytes why → Run new why
  failed_bytes new bytes fault.TooLong failed = let run = ended new bytes failed.rest failed.count failed.served in (run.0, run.1, run.2)
  failed_bytes new bytes fault.NoMemory failed = failed_frame failed.mid new bytes (failed.frame ++ failed.rest) failed.frame failed.count fault.NoMemory failed.served failed.failed
  failed_bytes new bytes (fault.Store cause) failed = failed_frame failed.mid new bytes (failed.frame ++ failed.rest) failed.frame failed.count (fault.Store cause) failed.served failed.failed
  failed_bytes new bytes fault.Stopped failed = failed_frame failed.mid new bytes (failed.frame ++ failed.rest) failed.frame failed.count fault.Stopped failed.served failed.failed
  failed_bytes new bytes fault.Read failed = failed_frame failed.mid new bytes (failed.frame ++ failed.rest) failed.frame failed.count fault.Read failed.served failed.failed
  failed_bytes new bytes fault.Truncated failed = failed_frame failed.mid new bytes (failed.frame ++ failed.rest) failed.frame failed.count fault.Truncated failed.served failed.failed
  failed_bytes new bytes fault.Write failed = failed_frame failed.mid new bytes (failed.frame ++ failed.rest) failed.frame failed.count fault.Write failed.served failed.failed

  pub read_up : (new : Service L I) (input left : Supply) (rest : List ℕ) (count : ℕ) → IsReadToEnd meaning old new input left rest count → WholeRun new count
  read_up new input left rest count read = ended new read.bytes rest count read.served

  pub failed_service : (new : Service L I) (input left : Supply) (why : HostFault) → ServiceFailed meaning old new input left why → Run new why
  failed_service new input left fault.Read failed = let run = ended new failed.bytes failed.rest failed.count failed.served in (run.0, run.1, run.2)
  failed_service new input left fault.Truncated failed = let run = read_up new input left failed.rest failed.count failed.read_up in (run.0, run.1, run.2)
  failed_service new input left fault.NoMemory failed = failed_bytes new failed.bytes fault.NoMemory failed.failed
  failed_service new input left (fault.Store cause) failed = failed_bytes new failed.bytes (fault.Store cause) failed.failed
  failed_service new input left fault.Stopped failed = failed_bytes new failed.bytes fault.Stopped failed.failed
  failed_service new input left fault.TooLong failed = failed_bytes new failed.bytes fault.TooLong failed.failed
  failed_service new input left fault.Write failed = failed_bytes new failed.bytes fault.Write failed.failed
