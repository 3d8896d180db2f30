-- What holds of each list of entries that the host's journal may find.
use Rattle.std.proofs.Common.{◌≡◌, ◌⊎◌, ◌++◌, ◌∷◌, [], ℕ, List, None, length, take, inl, inr, refl, sym, ap, subst, ◌∙◌}
use Rattle.duk_host.specs.declared.fault.HostFault.{HostFault}
use Rattle.duk_host.specs.declared.fault.HostFault.TheVariants as host_fault
use Rattle.duk_journal.specs.Groups.{Entries}
use Rattle.duk_store.specs.Listed.{GroupAppendFailed}
use Rattle.duk_store.specs.StoreState.{Stops}
use Rattle.duk_journal_host.specs.Group.{AnswersFirst, AnswersFrames, GroupRefused, IsGroupNotKept}
use Rattle.duk_journal_host.specs.Host.{HostMeaning, HostOf, JudgesBy, basis_of}
use Rattle.duk_journal_host.specs.Judged.{AreJudged}
use Rattle.duk_journal_host.specs.Restart.{HostRestartRefused, IsHostRestarted}
use Rattle.duk_store.specs.declared.fault.StoreFault.{StoreFault}
use Rattle.duk_store.specs.declared.fault.StoreFault.TheVariants as store_fault
use Rattle.duk_books.specs.Arm.{ArmsJournal}
use Rattle.duk_books.specs.Books.{Meanings}
use Rattle.duk_books.proofs.moves.StepChanges.{TouchesHost, host_restarted, host_restart_refused, host_armed}

-- the journal is honest, each list of entries that it may find is such a one, and a running host
-- judges by one
pub record HostFinds {J I : Type 0} (meaning : HostMeaning J I) (Q : Entries → Type 0) (host : HostOf J I) : Type 0 where
  pub honest : (meaning.journal.state_of host.journal).honest
  pub entries : (entries : Entries) → (meaning.journal.state_of host.journal).found entries → Q entries
  pub runs : (host.state ≡ None) ⊎ ((entries : Entries) × JudgesBy meaning host entries)

-- so it is of entries that a host judges by
pub judged_finds : {J I : Type 0} (meaning : HostMeaning J I) (Q : Entries → Type 0) (host : HostOf J I) (entries : Entries) → HostFinds meaning Q host → JudgesBy meaning host entries → Q entries
judged_finds meaning Q host entries holds judges = holds.entries entries ((judges.kept.finds holds.honest entries).1 refl)

not_empty : (frame : List ℕ) → (frame ∷ []) ≡ [] → ⊥
not_empty frame same = absurd (cc)

module _ {J I : Type 0} (meaning : HostMeaning J I) (Q R : Entries → Type 0) (frame answer : List ℕ) (old new : HostOf J I) (holds : HostFinds meaning Q old)
    (more : (by added : Entries) → AreJudged (basis_of meaning old by) (frame ∷ []) (answer ∷ []) added → Q by → R (by ++ added)) where
  -- an answer is given: the host runs, and judges by such entries
  pub answered_by : AnswersFrames meaning (frame ∷ []) old new (answer ∷ []) → (entries : Entries) × JudgesBy meaning new entries × R entries
  answered_by is = elim holds.runs [
    | inl stopped ↦ absurd (not_empty frame (is.stopped stopped).no_frames)
    | inr by ↦
        let judged = is.answered by.0 by.1 in
        (by.0 ++ judged.0, judged.2, more by.0 judged.0 judged.1 (judged_finds meaning Q old by.0 holds by.1))
  ]

  pub answered_finds : AnswersFrames meaning (frame ∷ []) old new (answer ∷ []) → HostFinds meaning R new
  answered_finds is =
      let by = answered_by is in
      let honest = is.nature.honest.0 holds.honest in
      record {
        honest = honest;
        entries = λ entries found. subst R (sym ((by.1.kept.finds honest entries).0 found)) by.2;
        runs = inr (by.0, by.1);
      }

-- none is, and entries of the frame may be kept
module _ {J I : Type 0} (meaning : HostMeaning J I) (Q : Entries → Type 0) (frame : List ℕ) (old new : HostOf J I) (holds : HostFinds meaning Q old)
    (more : (by : Entries) (count : ℕ) (answers : List (List ℕ)) (added : Entries) → AreJudged (basis_of meaning old by) (take count (frame ∷ [])) answers added → Q by → Q (by ++ added)) where
  out_of_memory : (answers : List (List ℕ)) → AnswersFirst meaning (frame ∷ []) old new answers → HostFinds meaning Q new
  out_of_memory answers is = elim holds.runs [
    | inl stopped ↦ absurd (is.was_running stopped)
    | inr by ↦
        let judged = is.answers_are.answered by.0 by.1 in
        let honest = is.answers_are.nature.honest.0 holds.honest in
        let hold = more by.0 (length answers) answers judged.0 judged.1 (judged_finds meaning Q old by.0 holds by.1) in
        subst (HostFinds meaning Q) (sym is.stopped) (record {
          honest = honest;
          entries = λ entries found. subst Q (sym ((judged.2.kept.finds honest entries).0 found)) hold;
          runs = inl refl;
        })
  ]

  append_honest : (added : Entries) (why : StoreFault) → GroupAppendFailed meaning.journal old.journal new.journal added why → (meaning.journal.state_of new.journal).honest
  append_honest added store_fault.Device is = is.stops.nature.honest.0 holds.honest
  append_honest added store_fault.Stopped is = is.stays.nature.honest.0 holds.honest
  append_honest added _ is = absurd is

  append_found : (by added : Entries) (why : StoreFault) (entries : Entries) → JudgesBy meaning old by → Q (by ++ added) → GroupAppendFailed meaning.journal old.journal new.journal added why
      → (meaning.journal.state_of new.journal).found entries → Q entries
  append_found by added store_fault.Device entries judges hold is found = elim (is.stops.within holds.honest entries found) [
    | inl before ↦ holds.entries entries before
    | inr longer ↦
        let same : longer.0 ≡ by = (judges.kept.finds holds.honest longer.0).0 longer.1 in
        subst Q (sym (longer.2 ∙ ap (λ (it : Entries). it ++ added) same)) hold
  ]
  append_found by added store_fault.Stopped entries judges hold is found = holds.entries entries ((is.stays.found holds.honest entries).0 found)
  append_found by added _ entries judges hold is found = absurd is

  not_kept : (why : StoreFault) → IsGroupNotKept meaning (frame ∷ []) old new why → HostFinds meaning Q new
  not_kept why is = elim holds.runs [
    | inl stopped ↦ absurd (is.was_running stopped)
    | inr by ↦
        let it = is.not_kept by.0 by.1 in
        let hold = more by.0 it.0 it.1 it.2 it.3 (judged_finds meaning Q old by.0 holds by.1) in
        record {
          honest = append_honest it.2 why it.4;
          entries = λ entries found. append_found by.0 it.2 why entries by.1 hold it.4 found;
          runs = inl is.stopped;
        }
  ]

  pub refused_finds : (answers : List (List ℕ)) (why : HostFault) → GroupRefused meaning (frame ∷ []) old new answers why → HostFinds meaning Q new
  refused_finds answers host_fault.NoMemory is = out_of_memory answers is
  refused_finds answers (host_fault.Store why) is = not_kept why is.0
  refused_finds answers host_fault.Stopped is = subst (HostFinds meaning Q) (sym is.1) holds
  refused_finds answers _ is = absurd is

-- ---- restarts and arming

module _ {J I : Type 0} (meaning : HostMeaning J I) (Q : Entries → Type 0) (old new : HostOf J I) (holds : HostFinds meaning Q old) where
  restarted_finds : (found : ℕ) → IsHostRestarted meaning old new found → HostFinds meaning Q new
  restarted_finds found is = record {
    honest = is.journal.settles.nature.honest.0 holds.honest;
    entries = λ entries finds. subst Q (sym ((is.journal.settles.finds holds.honest entries).0 finds)) (holds.entries is.entries (is.journal.was_found holds.honest));
    runs = inr (is.entries, is.judges);
  }

  found_before : Stops (meaning.journal.state_of old.journal) (meaning.journal.state_of new.journal) (meaning.journal.state_of old.journal).found → new.state ≡ None → HostFinds meaning Q new
  found_before is stopped = record {
    honest = is.nature.honest.0 holds.honest;
    entries = λ entries found. holds.entries entries (is.within holds.honest entries found);
    runs = inl stopped;
  }

  restart_refused_finds : (why : HostFault) → HostRestartRefused meaning.journal old new why → HostFinds meaning Q new
  restart_refused_finds (host_fault.Store why) is = elim is.cause [
    | inl failed ↦ found_before failed.stops is.stopped
    | inr unusable ↦ found_before unusable.1.journal.stops is.stopped
  ]
  restart_refused_finds host_fault.NoMemory is = found_before is.journal.stops is.stopped
  restart_refused_finds _ is = absurd is

module _ {C B J I : Type 0} (m : Meanings C B J I) (Q : Entries → Type 0) (old new : HostOf J I) (holds : HostFinds m.host Q old) where
  still_runs : (steps : ℕ) → ArmsJournal m steps old new → (new.state ≡ None) ⊎ ((entries : Entries) × JudgesBy m.host new entries)
  still_runs steps is = elim holds.runs [
    | inl stopped ↦ inl (is.state ∙ stopped)
    | inr by ↦ inr (by.0, is.judges holds.honest by.0 by.1)
  ]

  armed_finds : (steps : ℕ) → ArmsJournal m steps old new → HostFinds m.host Q new
  armed_finds steps is = record {
    honest = is.stays.honest.0 holds.honest;
    entries = λ entries found. holds.entries entries ((is.stays.found holds.honest entries).0 found);
    runs = still_runs steps is;
  }

  -- whatever else happens to the host
  pub touched_finds : TouchesHost m old new → HostFinds m.host Q new
  touched_finds (host_restarted found is) = restarted_finds m.host Q old new holds found is
  touched_finds (host_restart_refused why is) = restart_refused_finds m.host Q old new holds why is
  touched_finds (host_armed steps is) = armed_finds steps is
