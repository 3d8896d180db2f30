-- What a service over a journal does with a stream, from what it does with each group of it.
use Rattle.std.proofs.Common.{◌≡◌, ◌<◌, ◌+◌, ◌-◌, ℕ, List, [], ◌++◌, Result, Ok, Err, OnErr, OnOk, IfErr, IfOk, drop, length, inl, inr, refl, sym, ap, subst, ◌∙◌, arith, length-append, append_assoc, append-nil, take}
use Rattle.std.specs.List.{concat}
use Rattle.std.proofs.Math.Seq.{take-add}
use Rattle.std.proofs.lemmas.List.Folds.{concat-append}
use Rattle.std.proofs.lemmas.List.Elements.{All-append, All-nil}
use Rattle.duk_frame.specs.Feeder.{Feeding}
use Rattle.duk_frame.specs.Stream.{BeginsTooLong, BeginsWith, IsFrame}
use Rattle.duk_frame.specs.declared.feeder.FrameFault.{FrameFault}
use Rattle.duk_host.specs.declared.fault.HostFault.{HostFault}
use Rattle.duk_host.specs.declared.fault.HostFault.TheVariants as fault
use Rattle.duk_io.specs.Known.{Known}
use Rattle.duk_io.specs.Sink.{IsCut, IsWritten}
use Rattle.duk_journal.specs.Groups.{Entries}
use Rattle.duk_store.specs.StoreState.{PreservesNature, StoreState}
use Rattle.duk_journal_host.specs.Group.{AnswersFrames, GroupRefused}
use Rattle.duk_journal_host.specs.Host.{HostMeaning, HostOf, JudgesBy, basis_of}
use Rattle.duk_journal_host.specs.Judgement.{line_basis, with_entries}
use Rattle.duk_journal_host.specs.Judged.{AreJudged}
use Rattle.duk_journal_host.specs.Serve.{AreAnswersCut, BytesFailed, FailsAtGroup, FailsAtLength, GroupFailed, IsServed, Service}
use Rattle.duk_journal_host.specs.inner.Serve.{AreAnswered, AreBeforeTooLong, AreCollected}
use Rattle.duk_journal_host.proofs.Collecting.{begins_whole, whole_piece}
use Rattle.duk_journal_host.proofs.InTurn.{joined}

-- what writes leave that come one after another
pub record WriteLaws : Type 0 where
  pub none : (now : Known) → IsWritten now now []
  pub next : (before between after : Known) (first second : List ℕ) → IsWritten before between first → IsWritten between after second → IsWritten before after (first ++ second)

nature_stays : {V : Type 0} (now : StoreState V) → PreservesNature now now
nature_stays now = record { honest = (λ is. is, λ is. is); sound = λ _ is. is; calm = λ is. is }

nature_then : {V : Type 0} (old mid new : StoreState V) → PreservesNature old mid → PreservesNature mid new → PreservesNature old new
nature_then old mid new first second = record {
  honest = (λ is. second.honest.0 (first.honest.0 is), λ is. first.honest.1 (second.honest.1 is));
  sound = λ honest is. second.sound (first.honest.0 honest) (first.sound honest is);
  calm = λ is. second.calm (first.calm is);
}

module _ {J I : Type 0} (meaning : HostMeaning J I) where
  -- no frame changes nothing
  answers_none : (now : HostOf J I) → AnswersFrames meaning [] now now []
  answers_none now = record {
    ends = record { keys = refl; issuer = refl };
    nature = nature_stays (meaning.journal.state_of now.journal);
    capacity = refl;
    answered = λ entries judges. ([], refl, subst (λ entries. JudgesBy meaning now entries) (sym (append-nil entries)) judges);
    stopped = λ none. record { no_frames = refl; no_answers = refl; same = refl };
  }

  -- what is left to judge by
  basis_after :
      (old mid new : HostOf J I) (frames answers : List (List ℕ)) (entries added : Entries)
      → AnswersFrames meaning frames old mid answers → JudgesBy meaning old entries → JudgesBy meaning mid (entries ++ added)
      → basis_of meaning mid (entries ++ added) ≡ with_entries (basis_of meaning old entries) added
  basis_after old mid new frames answers entries added first before after =
      let room : meaning.journal.capacity mid.journal - meaning.journal.count mid.journal ≡ meaning.journal.capacity old.journal - meaning.journal.count old.journal - length added =
      omega (arith, first.capacity, before.kept.counted, after.kept.counted, length-append entries added) in
      ap (λ keys. line_basis keys (entries ++ added) (meaning.journal.capacity mid.journal) (meaning.journal.capacity mid.journal - meaning.journal.count mid.journal) (meaning.decides mid.issuer)) first.ends.keys
      ∙ ap (λ room. line_basis old.keys (entries ++ added) (meaning.journal.capacity mid.journal) room (meaning.decides mid.issuer)) room
      ∙ ap (λ capacity. line_basis old.keys (entries ++ added) capacity (meaning.journal.capacity old.journal - meaning.journal.count old.journal - length added) (meaning.decides mid.issuer)) first.capacity
      ∙ ap (λ issuer. line_basis old.keys (entries ++ added) (meaning.journal.capacity old.journal) (meaning.journal.capacity old.journal - meaning.journal.count old.journal - length added) (meaning.decides issuer)) first.ends.issuer

  -- frames, and then others
  pub answers_then :
      (old mid new : HostOf J I) (frames others answers more : List (List ℕ))
      → AnswersFrames meaning frames old mid answers → AnswersFrames meaning others mid new more
      → AnswersFrames meaning (frames ++ others) old new (answers ++ more)
  answers_then old mid new frames others answers more first second = record {
    ends = record { keys = second.ends.keys ∙ first.ends.keys; issuer = second.ends.issuer ∙ first.ends.issuer };
    nature = nature_then (meaning.journal.state_of old.journal) (meaning.journal.state_of mid.journal) (meaning.journal.state_of new.journal) first.nature second.nature;
    capacity = second.capacity ∙ first.capacity;
    answered = λ entries judges.
        let one = first.answered entries judges in
        let two = second.answered (entries ++ one.0) one.2 in
        let basis = basis_after old mid new frames answers entries one.0 first judges one.2 in
        let judged = joined (basis_of meaning old entries) frames others answers more one.0 two.0 one.1 (subst (λ basis. AreJudged basis others more two.0) basis two.1) in
        (one.0 ++ two.0, judged, subst (λ entries. JudgesBy meaning new entries) (append_assoc entries one.0 two.0) two.2);
    stopped = λ none.
        let one = first.stopped none in
        let two = second.stopped (ap (λ (host : HostOf J I). host.state) one.same ∙ none) in
        record {
          no_frames = ap (λ (front : List (List ℕ)). front ++ others) one.no_frames ∙ two.no_frames;
          no_answers = ap (λ (front : List (List ℕ)). front ++ more) one.no_answers ∙ two.no_answers;
          same = two.same ∙ one.same;
        };
  }

  pub begins_then : (bytes rest piece last : List ℕ) (frames others : List (List ℕ)) → BeginsWith bytes frames rest → BeginsWith (rest ++ piece) others last → BeginsWith (bytes ++ piece) (frames ++ others) last
  begins_then bytes rest piece last frames others first second = record {
    whole =
        ap (λ front. front ++ piece) first.whole
        ∙ append_assoc (concat frames) rest piece
        ∙ ap (λ following. concat frames ++ following) second.whole
        ∙ sym (append_assoc (concat frames) (concat others) last)
        ∙ ap (λ front. front ++ last) (sym (concat-append frames others));
    each = All-append IsFrame frames others first.each second.each;
  }

  -- nothing is served of bytes that are still to come
  pub served_none : WriteLaws → (now : Service J I) (bytes : List ℕ) → IsServed meaning now now bytes bytes
  served_none laws now bytes = record {
    frames = [];
    answers = [];
    begins = record { whole = refl; each = All-nil IsFrame };
    answered = answers_none now.host;
    written = laws.none now.writer;
  }

  -- bytes are served, and then others
  pub served_then :
      WriteLaws → (old mid new : Service J I) (bytes rest piece last : List ℕ)
      → IsServed meaning old mid bytes rest → IsServed meaning mid new (rest ++ piece) last → IsServed meaning old new (bytes ++ piece) last
  served_then laws old mid new bytes rest piece last first second = record {
    frames = first.frames ++ second.frames;
    answers = first.answers ++ second.answers;
    begins = begins_then bytes rest piece last first.frames second.frames first.begins second.begins;
    answered = answers_then old.host mid.host new.host first.frames second.frames first.answers second.answers first.answered second.answered;
    written =
        subst (λ text. IsWritten old.writer new.writer text) (sym (concat-append first.answers second.answers))
        (laws.next old.writer mid.writer new.writer (concat first.answers) (concat second.answers) first.written second.written);
  }

  -- a group that bytes begin with is answered
  pub group_served : (old new : Service J I) (bytes rest : List ℕ) (frames : List (List ℕ)) → BeginsWith bytes frames rest → AreAnswered meaning old new frames → IsServed meaning old new bytes rest
  group_served old new bytes rest frames begins answered = record {
    frames = frames;
    answers = answered.answers;
    begins = begins;
    answered = answered.answered;
    written = answered.written;
  }

  -- no frame was taken
  pub answered_none : WriteLaws → (now : Service J I) (frames : List (List ℕ)) → frames ≡ [] → AreAnswered meaning now now frames
  answered_none laws now frames none = subst (λ frames. AreAnswered meaning now now frames) (sym none) (record { answers = []; answered = answers_none now.host; written = laws.none now.writer })

  -- the frames before a length above 62 are answered
  pub too_long_after : (old new : Service J I) (bytes rest : List ℕ) (frames : List (List ℕ)) → BeginsWith bytes frames rest → BeginsTooLong rest → AreAnswered meaning old new frames → FailsAtLength meaning old new bytes
  too_long_after old new bytes rest frames begins too_long answered = record {
    rest = rest;
    served = group_served old new bytes rest frames begins answered;
    too_long = too_long;
  }

  fails_here : WriteLaws → (old new : Service J I) (bytes rest : List ℕ) (frames : List (List ℕ)) (why : HostFault) → BeginsWith bytes frames rest → GroupFailed meaning old new frames why → FailsAtGroup meaning old new bytes why
  fails_here laws old new bytes rest frames why begins failed = record {
    mid = old;
    group = frames;
    rest = rest;
    served = subst (λ following. IsServed meaning old old bytes following) begins.whole (served_none laws old bytes);
    are_frames = begins.each;
    failed = failed;
  }

  -- a group that bytes begin with fails
  pub failed_here : WriteLaws → (old new : Service J I) (bytes rest : List ℕ) (frames : List (List ℕ)) (why : HostFault) → BeginsWith bytes frames rest → GroupFailed meaning old new frames why → BytesFailed meaning old new bytes why
  failed_here laws old new bytes rest frames fault.NoMemory begins failed = fails_here laws old new bytes rest frames fault.NoMemory begins failed
  failed_here laws old new bytes rest frames (fault.Store why) begins failed = fails_here laws old new bytes rest frames (fault.Store why) begins failed
  failed_here laws old new bytes rest frames fault.Stopped begins failed = fails_here laws old new bytes rest frames fault.Stopped begins failed
  failed_here laws old new bytes rest frames fault.Read begins failed = fails_here laws old new bytes rest frames fault.Read begins failed
  failed_here laws old new bytes rest frames fault.Write begins failed = fails_here laws old new bytes rest frames fault.Write begins failed
  failed_here laws old new bytes rest frames fault.Truncated begins failed = fails_here laws old new bytes rest frames fault.Truncated begins failed
  failed_here laws old new bytes rest frames fault.TooLong begins failed = absurd failed.refused

  fails_later :
      WriteLaws → (old mid new : Service J I) (bytes rest piece : List ℕ) (why : HostFault)
      → IsServed meaning old mid bytes rest → FailsAtGroup meaning mid new (rest ++ piece) why → FailsAtGroup meaning old new (bytes ++ piece) why
  fails_later laws old mid new bytes rest piece why first fails = record {
    mid = fails.mid;
    group = fails.group;
    rest = fails.rest;
    served = served_then laws old mid fails.mid bytes rest piece (concat fails.group ++ fails.rest) first fails.served;
    are_frames = fails.are_frames;
    failed = fails.failed;
  }

  -- bytes are served, and then others are not
  pub failed_later :
      WriteLaws → (old mid new : Service J I) (bytes rest piece : List ℕ) (why : HostFault)
      → IsServed meaning old mid bytes rest → BytesFailed meaning mid new (rest ++ piece) why → BytesFailed meaning old new (bytes ++ piece) why
  failed_later laws old mid new bytes rest piece fault.NoMemory first fails = fails_later laws old mid new bytes rest piece fault.NoMemory first fails
  failed_later laws old mid new bytes rest piece (fault.Store why) first fails = fails_later laws old mid new bytes rest piece (fault.Store why) first fails
  failed_later laws old mid new bytes rest piece fault.Stopped first fails = fails_later laws old mid new bytes rest piece fault.Stopped first fails
  failed_later laws old mid new bytes rest piece fault.Read first fails = fails_later laws old mid new bytes rest piece fault.Read first fails
  failed_later laws old mid new bytes rest piece fault.Write first fails = fails_later laws old mid new bytes rest piece fault.Write first fails
  failed_later laws old mid new bytes rest piece fault.Truncated first fails = fails_later laws old mid new bytes rest piece fault.Truncated first fails
  failed_later laws old mid new bytes rest piece fault.TooLong first fails = record {
    rest = fails.rest;
    served = served_then laws old mid new bytes rest piece fails.rest first fails.served;
    too_long = fails.too_long;
  }

  no_cut : {A : Type 0} (old new : Known) (answers : List (List ℕ)) → answers ≡ [] → IsCut old new (concat answers) → A
  no_cut old new answers none cut =
      let short : cut.0 < 0 = subst (λ answers. cut.0 < length (concat answers)) none cut.1.short in
      absurd (omega (arith, short))

  -- answers that there are were not all written
  pub cut_answers :
      (result : Result (Unit {0}) HostFault) (old new : Service J I) (frames answers : List (List ℕ))
      → OnOk result (AnswersFrames meaning frames old.host new.host answers) → IfErr result (GroupRefused meaning frames old.host new.host answers)
      → IsCut old.writer new.writer (concat answers) → AreAnswersCut meaning old new frames
  cut_answers (Ok done) old new frames answers answered refused cut = record { answers = answers; answered = inl answered; cut = cut }
  cut_answers (Err fault.NoMemory) old new frames answers answered refused cut = record { answers = answers; answered = inr refused; cut = cut }
  cut_answers (Err (fault.Store why)) old new frames answers answered refused cut = no_cut old.writer new.writer answers refused.1 cut
  cut_answers (Err fault.Stopped) old new frames answers answered refused cut = no_cut old.writer new.writer answers refused.2 cut
  cut_answers (Err fault.Read) old new frames answers answered refused cut = absurd refused
  cut_answers (Err fault.Write) old new frames answers answered refused cut = absurd refused
  cut_answers (Err fault.Truncated) old new frames answers answered refused cut = absurd refused
  cut_answers (Err fault.TooLong) old new frames answers answered refused cut = absurd refused

  -- frames were not all answered, and the answers that there are were written
  pub unanswered :
      (old new : Service J I) (frames answers : List (List ℕ)) (why : HostFault)
      → GroupRefused meaning frames old.host new.host answers why → IsWritten old.writer new.writer (concat answers) → GroupFailed meaning old new frames why
  unanswered old new frames answers fault.NoMemory refused written = record { answers = answers; refused = refused; written = written }
  unanswered old new frames answers (fault.Store why) refused written = record { answers = answers; refused = refused; written = written }
  unanswered old new frames answers fault.Stopped refused written = record { answers = answers; refused = refused; written = written }
  unanswered old new frames answers fault.Read refused written = record { answers = answers; refused = refused; written = written }
  unanswered old new frames answers fault.Write refused written = absurd refused
  unanswered old new frames answers fault.Truncated refused written = record { answers = answers; refused = refused; written = written }
  unanswered old new frames answers fault.TooLong refused written = record { answers = answers; refused = refused; written = written }

  -- the first frames of a piece were taken, all or up to a length above 62, and that group fails
  pub collected_failed :
      WriteLaws → (old new : Service J I) (result : Result ℕ FrameFault) (before after : Feeding) (piece : List ℕ) (frames : List (List ℕ)) (why : HostFault)
      → IfOk result (AreCollected before after piece frames) → OnErr result (AreBeforeTooLong before piece frames)
      → GroupFailed meaning old new frames why → BytesFailed meaning old new (before.rest ++ piece) why
  collected_failed laws old new (Ok taken) before after piece frames why collected too_long failed =
      failed_here laws old new (before.rest ++ piece) (after.rest ++ drop taken piece) frames why (begins_whole before.rest after.rest piece taken frames collected.begins) failed
  collected_failed laws old new (Err fault) before after piece frames why collected too_long failed =
      failed_here laws old new (before.rest ++ piece) too_long.rest frames why too_long.begins failed

  -- ---- a piece, group by group

  -- before the first group of a piece
  pub start_piece : WriteLaws → (now : Service J I) (head : List ℕ) → IsServed meaning now now (head ++ []) head
  start_piece laws now head = subst (λ bytes. IsServed meaning now now bytes head) (sym (append-nil head)) (served_none laws now head)

  -- one more group of a piece is served
  pub next_group :
      WriteLaws → (start mid new : Service J I) (head before after piece : List ℕ) (done taken : ℕ)
      → IsServed meaning start mid (head ++ take done piece) before → IsServed meaning mid new (before ++ take taken (drop done piece)) after
      → IsServed meaning start new (head ++ take (done + taken) piece) after
  next_group laws start mid new head before after piece done taken first one =
      let joined_text : (head ++ take done piece) ++ take taken (drop done piece) ≡ head ++ take (done + taken) piece =
      append_assoc head (take done piece) (take taken (drop done piece)) ∙ ap (λ front. head ++ front) (sym (take-add done taken piece)) in
      subst (λ bytes. IsServed meaning start new bytes after) joined_text
      (served_then laws start mid new (head ++ take done piece) before (take taken (drop done piece)) after first one)

  -- a further group of a piece is not served
  pub later_group_failed :
      WriteLaws → (start mid new : Service J I) (head rest piece : List ℕ) (done : ℕ) (why : HostFault)
      → IsServed meaning start mid (head ++ take done piece) rest → BytesFailed meaning mid new (rest ++ drop done piece) why
      → BytesFailed meaning start new (head ++ piece) why
  later_group_failed laws start mid new head rest piece done why first failed =
      subst (λ bytes. BytesFailed meaning start new bytes why) (whole_piece head piece done)
      (failed_later laws start mid new (head ++ take done piece) rest (drop done piece) why first failed)
