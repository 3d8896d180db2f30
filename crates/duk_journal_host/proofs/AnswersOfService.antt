-- The answers of a service, however it ends.
use Rattle.std.proofs.Common.{◌≡◌, inl, inr, ℕ, List, ◌++◌, refl, sym, ap, subst, ◌∙◌, take, length}
use Rattle.std.specs.List.{concat}
use Rattle.std.proofs.lemmas.List.{append-nil}
use Rattle.std.proofs.lemmas.List.Folds.{concat-append}
use Rattle.duk_host.specs.Serve.{Supply}
use Rattle.duk_host.specs.declared.fault.HostFault.{HostFault}
use Rattle.duk_host.specs.declared.fault.HostFault.TheVariants as fault
use Rattle.duk_io.specs.Known.{Known}
use Rattle.duk_io.specs.Sink.{IsCut, IsWritten}
use Rattle.duk_journal_host.specs.Group.{AnswersFirst, AnswersFrames}
use Rattle.duk_journal_host.specs.Host.{HostMeaning, HostOf}
use Rattle.duk_journal_host.specs.Lifetime.{AreWrittenTo, EndsAt, IsService}
use Rattle.duk_journal_host.specs.Restart.{IsHostRestarted}
use Rattle.duk_journal_host.specs.Serve.{BytesFailed, FailsAtGroup, GroupFailed, IsReadToEnd, IsServed, Service, ServiceFailed}
use Rattle.duk_journal_host.proofs.Serving.{answers_then}

-- what writes leave that come one after another
pub record WritesInTurn : Type 0 where
  pub next : (before between after : Known) (first second : List ℕ) → IsWritten before between first → IsWritten between after second → IsWritten before after (first ++ second)
  pub cut : (before between after : Known) (first second : List ℕ) → IsWritten before between first → IsCut between after second → IsCut before after (first ++ second)

module _ {J I : Type 0} (meaning : HostMeaning J I) (laws : WritesInTurn) (made : HostOf J I) (old : Service J I) (found : ℕ) (restarted : IsHostRestarted meaning made old.host found) where
  -- a service whose answers were all written
  abbrev pub WholeRun : Service J I → Type 0
  WholeRun new = (answers : List (List ℕ)) × IsService meaning made answers new.host × IsWritten old.writer new.writer (concat answers)

  -- a service that ended with this fault
  abbrev pub Run : Service J I → HostFault → Type 0
  Run new why = (answers : List (List ℕ)) × IsService meaning made answers new.host × AreWrittenTo old.writer new.writer answers why

  -- frames were answered, and the service ended so
  run_to : (mid last : HostOf J I) (frames answers : List (List ℕ)) → AnswersFrames meaning frames old.host mid answers → EndsAt meaning mid last → IsService meaning made answers last
  run_to mid last frames answers answered ends =
      inr (record { up = old.host; mid = mid; found = found; frames = frames; restarted = restarted; answered = answered; ends = ends })

  is_run : (new : HostOf J I) (frames answers : List (List ℕ)) → AnswersFrames meaning frames old.host new answers → IsService meaning made answers new
  is_run new frames answers answered = run_to new new frames answers answered (inl refl)

  served_whole : (new : Service J I) (bytes rest : List ℕ) → IsServed meaning old new bytes rest → WholeRun new
  served_whole new bytes rest served = (served.answers, is_run new.host served.frames served.answers served.answered, served.written)

  -- a group is answered after those before it, in part or whole, and the service ends so
  with_group : (mid : Service J I) (between last : HostOf J I) (bytes rest : List ℕ) (group answers : List (List ℕ)) → (served : IsServed meaning old mid bytes rest)
      → AnswersFrames meaning group mid.host between answers → EndsAt meaning between last → IsService meaning made (served.answers ++ answers) last
  with_group mid between last bytes rest group answers served answered ends =
      run_to between last (served.frames ++ group) (served.answers ++ answers) (answers_then meaning old.host mid.host between served.frames group served.answers answers served.answered answered) ends

  written_both : (mid new : Service J I) (bytes rest : List ℕ) (answers : List (List ℕ)) → (served : IsServed meaning old mid bytes rest) → IsWritten mid.writer new.writer (concat answers)
      → IsWritten old.writer new.writer (concat (served.answers ++ answers))
  written_both mid new bytes rest answers served written =
      subst (λ text. IsWritten old.writer new.writer text) (sym (concat-append served.answers answers)) (laws.next old.writer mid.writer new.writer (concat served.answers) (concat answers) served.written written)

  cut_both : (mid new : Service J I) (bytes rest : List ℕ) (answers : List (List ℕ)) → (served : IsServed meaning old mid bytes rest) → IsCut mid.writer new.writer (concat answers)
      → IsCut old.writer new.writer (concat (served.answers ++ answers))
  cut_both mid new bytes rest answers served cut =
      subst (λ text. IsCut old.writer new.writer text) (sym (concat-append served.answers answers)) (laws.cut old.writer mid.writer new.writer (concat served.answers) (concat answers) served.written cut)

  -- memory was refused in a group
  first_of_group : (mid new : Service J I) (bytes rest : List ℕ) (group answers : List (List ℕ)) → (served : IsServed meaning old mid bytes rest) → AnswersFirst meaning group mid.host new.host answers
      → IsService meaning made (served.answers ++ answers) new.host
  first_of_group mid new bytes rest group answers served first =
      with_group mid first.before new.host bytes rest (take (length answers) group) answers served first.answers_are (inr (inl first.stopped))

  failed_group : (mid new : Service J I) (bytes rest : List ℕ) (group : List (List ℕ)) (why : HostFault) → IsServed meaning old mid bytes rest → GroupFailed meaning mid new group why → Run new why
  failed_group mid new bytes rest group fault.Write served failed = elim failed.answered [
    | inl all ↦ (served.answers ++ failed.answers, with_group mid new.host new.host bytes rest group failed.answers served all (inl refl), cut_both mid new bytes rest failed.answers served failed.cut)
    | inr first ↦ (served.answers ++ failed.answers, first_of_group mid new bytes rest group failed.answers served first, cut_both mid new bytes rest failed.answers served failed.cut)
  ]
  failed_group mid new bytes rest group fault.NoMemory served failed =
      (served.answers ++ failed.answers, first_of_group mid new bytes rest group failed.answers served failed.refused, written_both mid new bytes rest failed.answers served failed.written)
  failed_group mid new bytes rest group (fault.Store why) served failed =
      let none : concat served.answers ++ concat failed.answers ≡ concat served.answers = ap (λ answers. concat served.answers ++ concat answers) failed.refused.1 ∙ append-nil (concat served.answers) in (
        served.answers,
        run_to mid.host new.host served.frames served.answers served.answered (inr (inr (group, why, failed.refused.0))),
        subst (λ text. IsWritten old.writer new.writer text) none (laws.next old.writer mid.writer new.writer (concat served.answers) (concat failed.answers) served.written failed.written),
      )
  failed_group mid new bytes rest group fault.Stopped served failed =
      let none : concat served.answers ++ concat failed.answers ≡ concat served.answers = ap (λ answers. concat served.answers ++ concat answers) failed.refused.2 ∙ append-nil (concat served.answers) in (
        served.answers,
        run_to mid.host new.host served.frames served.answers served.answered (inl failed.refused.1),
        subst (λ text. IsWritten old.writer new.writer text) none (laws.next old.writer mid.writer new.writer (concat served.answers) (concat failed.answers) served.written failed.written),
      )
  failed_group mid new bytes rest group fault.Read served failed = absurd failed.refused
  failed_group mid new bytes rest group fault.Truncated served failed = absurd failed.refused
  failed_group mid new bytes rest group fault.TooLong served failed = absurd failed.refused

  at_group : (new : Service J I) (bytes : List ℕ) (why : HostFault) → FailsAtGroup meaning old new bytes why → Run new why
  at_group new bytes why failed = failed_group failed.mid new bytes (concat failed.group ++ failed.rest) failed.group why failed.served failed.failed

  failed_bytes : (new : Service J I) (bytes : List ℕ) (why : HostFault) → BytesFailed meaning old new bytes why → Run new why
  failed_bytes new bytes fault.TooLong failed = served_whole new bytes failed.rest failed.served
  failed_bytes new bytes fault.NoMemory failed = at_group new bytes fault.NoMemory failed
  failed_bytes new bytes (fault.Store why) failed = at_group new bytes (fault.Store why) failed
  failed_bytes new bytes fault.Stopped failed = at_group new bytes fault.Stopped failed
  failed_bytes new bytes fault.Read failed = at_group new bytes fault.Read failed
  failed_bytes new bytes fault.Truncated failed = at_group new bytes fault.Truncated failed
  failed_bytes new bytes fault.Write failed = at_group new bytes fault.Write failed

  pub read_up : (new : Service J I) (input left : Supply) (rest : List ℕ) → IsReadToEnd meaning old new input left rest → WholeRun new
  read_up new input left rest read = served_whole new read.bytes rest read.served

  pub failed_service : (new : Service J I) (input left : Supply) (why : HostFault) → ServiceFailed meaning old new input left why → Run new why
  failed_service new input left fault.Read failed = served_whole new failed.bytes failed.rest failed.served
  failed_service new input left fault.Truncated failed = read_up new input left failed.rest failed.read_up
  failed_service new input left fault.NoMemory failed = failed_bytes new failed.bytes fault.NoMemory failed.failed
  failed_service new input left (fault.Store why) failed = failed_bytes new failed.bytes (fault.Store why) failed.failed
  failed_service new input left fault.Stopped failed = failed_bytes new failed.bytes fault.Stopped failed.failed
  failed_service new input left fault.TooLong failed = failed_bytes new failed.bytes fault.TooLong failed.failed
  failed_service new input left fault.Write failed = failed_bytes new failed.bytes fault.Write failed.failed
