-- A host's restart, from that of its journal and what is taken of each entry.
use Rattle.std.proofs.Common.{◌≡◌, ◌++◌, ◌∷◌, [], ℕ, None, Some, inl, inr, refl, sym, ap, subst, ◌∙◌, append_assoc}
use Rattle.duk_journal.specs.CheckSum.{check_sum_of}
use Rattle.duk_journal.specs.Groups.{Entries}
use Rattle.duk_journal.specs.Journal.{JournalMeaning}
use Rattle.duk_journal.specs.Standing.{UseNewNumbers}
use Rattle.duk_journal.specs.declared.check_sum.CheckSum.{CheckSum}
use Rattle.duk_journal.specs.declared.entry.Entry.{Entry}
use Rattle.duk_store.specs.Listed.{IsItemRefused, ListRestartFailed, ListRestarted}
use Rattle.duk_store.specs.Restart.{Restarted}
use Rattle.duk_store.specs.StoreState.{FindsWithin}
use Rattle.duk_store.specs.declared.fault.StoreFault.{StoreFault}
use Rattle.duk_store.specs.declared.fault.StoreFault.TheVariants as store
use Rattle.duk_journal_host.specs.Check.{CheckRefused, IsChecked}
use Rattle.duk_journal_host.specs.Host.{HostMeaning, HostOf, IndexOf, IsIndexOf, KeepsAlone}
use Rattle.duk_journal_host.specs.Restart.{HostRestartRefused, IsGivenUp, IsHostRestarted, PreservesEnds}
use Rattle.duk_journal_host.specs.inner.Host.{HoldsIndex}
use Rattle.duk_journal_host.specs.inner.Reading.{IsEntryRefused, TakesChecked, TakesEntry, told_as}
use Rattle.duk_journal_host.specs.declared.check.Checked.{Checked}
use Rattle.duk_journal_host.specs.declared.check.Checking.{Checking}
use Rattle.duk_journal_host.proofs.FirstRead.{all_taken, new_front, sum_of_all}

module _ {J V : Type 0} (meaning : JournalMeaning J) (takes : V → Entry → V → Type 0) (index_in : V → IndexOf) (each : (old : V) (entry : Entry) (new : V) → takes old entry new → TakesEntry (index_in old) entry (index_in new))
    (old new : J) (visitor : V) (none : IsIndexOf [] (index_in visitor)) where
  -- ---- all entries are taken

  module _ (visited : V) (count : ℕ) (up : ListRestarted meaning takes old new visitor visited count) where
    journal_up : Restarted (meaning.state_of old) (meaning.state_of new) up.taken.items
    journal_up = record {
      settles = record { nature = up.nature; no_failure = up.no_failure; runs = up.runs; finds = λ honest. (up.taken.found honest).finds };
      was_found = λ honest. (up.taken.found honest).was_found;
    }

    keeps_up : meaning.count new ≡ count → KeepsAlone meaning new up.taken.items
    keeps_up counted = record {
      runs = up.runs;
      counted = up.taken.counted ∙ sym counted;
      finds = λ honest. (up.taken.found (up.nature.honest.1 honest)).finds;
    }

    index_up : IsIndexOf up.taken.items (index_in visited)
    index_up = all_taken takes index_in each up.taken.items [] visitor visited up.taken.taken none

    pub holds_up : meaning.count new ≡ count → HoldsIndex meaning new (index_in visited)
    holds_up counted = record { entries = up.taken.items; index_is = index_up; kept = keeps_up counted }

  -- ---- not all are

  module _ (refuses : V → Entry → StoreFault → Type 0) (told : (before : V) (entry : Entry) (why : StoreFault) → refuses before entry why → IsEntryRefused (index_in before) entry why) where
    -- a list that begins with the entry that was refused, behind those that were taken
    begins_bad : (refused : IsItemRefused takes refuses (meaning.state_of old) (meaning.state_of new) visitor store.Damaged) (rest : Entries) → ¬ UseNewNumbers (refused.earlier ++ refused.item ∷ rest)
    begins_bad refused rest are =
        told refused.visited refused.item store.Damaged refused.refused refused.earlier
        (all_taken takes index_in each refused.earlier [] visitor refused.visited refused.taken none)
        (new_front (refused.earlier ++ refused.item ∷ []) rest (subst UseNewNumbers (sym (append_assoc refused.earlier (refused.item ∷ []) rest)) are))

    -- so does each list that the next restart may find
    stays_bad : IsItemRefused takes refuses (meaning.state_of old) (meaning.state_of new) visitor store.Damaged → (meaning.state_of old).honest → FindsWithin (meaning.state_of new) (λ entries. ¬ UseNewNumbers entries)
    stays_bad refused honest entries finds =
        let list = refused.begins honest entries finds in subst (λ entries. ¬ UseNewNumbers entries) (sym list.1) (begins_bad refused list.0)

    pub check_refused : (why : StoreFault) → ListRestartFailed meaning takes refuses old new visitor why → CheckRefused meaning old new (told_as why)
    check_refused store.Device failed = elim failed.cause [
      | inl device ↦ inl (record { stops = failed.stops; fault_is = device })
      | inr given ↦ absurd (told given.0.visited given.0.item store.Device given.0.refused)
    ]
    check_refused store.Damaged failed = elim failed.cause [
      | inl damaged ↦ inl (record { stops = failed.stops; fault_is = damaged })
      | inr given ↦ inr (
        refl,
        record {
          journal = record { stops = failed.stops; no_failure = given.1 };
          next_not_usable = stays_bad given.0;
          not_usable = λ honest sound.
              let next = failed.stops.some honest sound in (next.0, failed.stops.within honest next.0 next.1, stays_bad given.0 honest next.0 next.1);
        },
      )
    ]
    check_refused store.NoMemory failed = elim failed.cause [
      | inl none_such ↦ absurd none_such
      | inr given ↦ record { stops = failed.stops; no_failure = given.1 }
    ]
    check_refused store.Stopped failed = elim failed.cause [
      | inl none_such ↦ absurd none_such
      | inr given ↦ absurd (told given.0.visited given.0.item store.Stopped given.0.refused)
    ]
    check_refused store.Worn failed = elim failed.cause [
      | inl none_such ↦ absurd none_such
      | inr given ↦ absurd (told given.0.visited given.0.item store.Worn given.0.refused)
    ]

module _ {J I : Type 0} (meaning : HostMeaning J I) (old new : HostOf J I) (empty : IndexOf) (none : IsIndexOf [] empty) (ends : PreservesEnds old new) where
  pub is_restarted : (index : IndexOf) (count : ℕ) → ListRestarted meaning.journal TakesEntry old.journal new.journal empty index count → new.state ≡ Some index → meaning.journal.count new.journal ≡ count → IsHostRestarted meaning old new count
  is_restarted index count up runs counted = record {
    entries = up.taken.items;
    ends = ends;
    journal = journal_up meaning.journal TakesEntry (λ index. index) (λ before entry after taken. taken) old.journal new.journal empty none index count up;
    counted = up.taken.counted;
    judges = record {
      index = index;
      runs = runs;
      index_is = index_up meaning.journal TakesEntry (λ index. index) (λ before entry after taken. taken) old.journal new.journal empty none index count up;
      kept = keeps_up meaning.journal TakesEntry (λ index. index) (λ before entry after taken. taken) old.journal new.journal empty none index count up counted;
    };
  }

  refused_check : (why : StoreFault) → ListRestartFailed meaning.journal TakesEntry IsEntryRefused old.journal new.journal empty why → CheckRefused meaning.journal old.journal new.journal (told_as why)
  refused_check why failed =
      check_refused meaning.journal TakesEntry (λ index. index) (λ before entry after taken. taken) old.journal new.journal empty none IsEntryRefused (λ before entry why refused. refused) why failed

  -- then the host is stopped
  pub restart_refused : new.state ≡ None → (why : StoreFault) → ListRestartFailed meaning.journal TakesEntry IsEntryRefused old.journal new.journal empty why → HostRestartRefused meaning.journal old new (told_as why)
  restart_refused stopped store.NoMemory failed =
      let given : IsGivenUp meaning.journal old.journal new.journal = refused_check store.NoMemory failed in record { ends = ends; stopped = stopped; journal = given }
  restart_refused stopped store.Device failed = record { ends = ends; stopped = stopped; cause = refused_check store.Device failed }
  restart_refused stopped store.Damaged failed = record { ends = ends; stopped = stopped; cause = refused_check store.Damaged failed }
  restart_refused stopped store.Stopped failed = record { ends = ends; stopped = stopped; cause = refused_check store.Stopped failed }
  restart_refused stopped store.Worn failed = record { ends = ends; stopped = stopped; cause = refused_check store.Worn failed }

-- ---- a journal is checked

told : ℕ → CheckSum → Checked
told count sum = record { count = count; sum = sum }

module _ {J : Type 0} (meaning : JournalMeaning J) (old new : J) (empty : Checking) (none : IsIndexOf [] empty.gathered) where
  pub is_checked : (checking : Checking) (count : ℕ) → ListRestarted meaning TakesChecked old new empty checking count → empty.sum ≡ check_sum_of [] → meaning.count new ≡ count → IsChecked meaning old new (record { count = count; sum = checking.sum })
  unfolding told
  is_checked checking count up no_sum counted = record {
    entries = up.taken.items;
    journal = journal_up meaning TakesChecked (λ checking. checking.gathered) (λ before entry after taken. taken.gathered) old new empty none checking count up;
    sound = up.sound;
    told = ap (λ n. told n (check_sum_of up.taken.items)) up.taken.counted ∙ ap (λ sum. told count sum) (sym (sum_of_all up.taken.items empty checking up.taken.taken no_sum));
    kept = keeps_up meaning TakesChecked (λ checking. checking.gathered) (λ before entry after taken. taken.gathered) old new empty none checking count up counted;
    new_numbers = (index_up meaning TakesChecked (λ checking. checking.gathered) (λ before entry after taken. taken.gathered) old new empty none checking count up).sets.new_numbers;
  }

  pub not_checked : (why : StoreFault) → ListRestartFailed meaning TakesChecked (λ before entry why. IsEntryRefused before.gathered entry why) old new empty why → CheckRefused meaning old new (told_as why)
  not_checked why failed =
      check_refused meaning TakesChecked (λ checking. checking.gathered) (λ before entry after taken. taken.gathered) old new empty none (λ before entry why. IsEntryRefused before.gathered entry why) (λ before entry why refused. refused) why failed
