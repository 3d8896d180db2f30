-- What the calls of the host leave of its journal's soundness and calm, and which faults of the journal
-- they report.
use Rattle.std.proofs.Common.{◌∷◌, [], ℕ, List, inl, inr}
use Rattle.duk_host.specs.declared.fault.HostFault.{HostFault}
use Rattle.duk_host.specs.declared.fault.HostFault.TheVariants as host_fault
use Rattle.duk_journal.specs.Groups.{Entries}
use Rattle.duk_journal.specs.Journal.{JournalMeaning}
use Rattle.duk_journal.specs.Standing.{UseNewNumbers}
use Rattle.duk_journal_host.specs.Group.{GroupRefused, IsGroupNotKept}
use Rattle.duk_journal_host.specs.Host.{HostMeaning, HostOf}
use Rattle.duk_journal_host.specs.Restart.{HostRestartRefused}
use Rattle.duk_store.specs.Listed.{GroupAppendFailed}
use Rattle.duk_store.specs.declared.fault.StoreFault.{StoreFault}
use Rattle.duk_store.specs.declared.fault.StoreFault.TheVariants.{Device, Stopped}
use Rattle.duk_books.specs.Calm.{IsJournalFault}
use Rattle.duk_stations.proofs.StoreFaults.{FailsSpared, PreservesCalm, Spares, device_spared, found_wrong, is_neither, nature_kept, none_reported, restart_failed, same_kept}
use Rattle.duk_books.proofs.moves.HostFinds.{HostFinds}

-- an append that failed
append_failed : {J : Type 0} (journal : JournalMeaning J) (old new : J) (group : Entries) (why : StoreFault) → GroupAppendFailed journal old new group why → FailsSpared (journal.state_of old) (journal.state_of new) why
append_failed journal old new group Device failed = record {
  keeps = nature_kept (journal.state_of old) (journal.state_of new) failed.stops.nature;
  spares = device_spared (journal.state_of old) (λ calm. failed.failure (failed.stops.quiet calm));
}
append_failed journal old new group Stopped failed = record {
  keeps = nature_kept (journal.state_of old) (journal.state_of new) failed.stays.nature;
  spares = is_neither (journal.state_of old) Stopped (λ same. cc) (λ same. cc);
}
append_failed journal old new group _ failed = absurd failed

-- what a host's refusal leaves of its journal's nature, and which faults of its journal it reports
pub record RefusesHost {J I : Type 0} (meaning : HostMeaning J I) (before after : HostOf J I) (why : HostFault) : Type 0 where
  pub keeps : PreservesCalm (meaning.journal.state_of before.journal) (meaning.journal.state_of after.journal)
  pub spares : Spares (meaning.journal.state_of before.journal) (λ reported. IsJournalFault why reported)

module _ {J I : Type 0} (meaning : HostMeaning J I) (before after : HostOf J I) where
  -- the journal's fault is reported
  journal_refuses : (why : StoreFault) → FailsSpared (meaning.journal.state_of before.journal) (meaning.journal.state_of after.journal) why → RefusesHost meaning before after (host_fault.Store why)
  journal_refuses why fails = record { keeps = fails.keeps; spares = fails.spares }

  -- a fault of no store
  plainly : (why : HostFault) → PreservesCalm (meaning.journal.state_of before.journal) (meaning.journal.state_of after.journal) → ((reported : StoreFault) → ¬ IsJournalFault why reported)
      → RefusesHost meaning before after why
  plainly why keeps none = record { keeps = keeps; spares = none_reported (meaning.journal.state_of before.journal) (λ reported. IsJournalFault why reported) none }

  module _ (finds : HostFinds meaning UseNewNumbers before) where
    not_kept : (frame : List ℕ) (why : StoreFault) → IsGroupNotKept meaning (frame ∷ []) before after why → FailsSpared (meaning.journal.state_of before.journal) (meaning.journal.state_of after.journal) why
    not_kept frame why is = elim finds.runs [
      | inl stopped ↦ absurd (is.was_running stopped)
      | inr by ↦
          let it = is.not_kept by.0 by.1 in
          append_failed meaning.journal before.journal after.journal it.2 why it.4
    ]

    -- a frame is not answered
    pub not_answered : (frame : List ℕ) (answers : List (List ℕ)) (why : HostFault) → GroupRefused meaning (frame ∷ []) before after answers why → RefusesHost meaning before after why
    not_answered frame answers host_fault.NoMemory is = plainly host_fault.NoMemory (rw is.stopped (nature_kept _ _ is.answers_are.nature)) (λ reported is. is)
    not_answered frame answers (host_fault.Store why) is = journal_refuses why (not_kept frame why is.0)
    not_answered frame answers host_fault.Stopped is = plainly host_fault.Stopped (rw is.1 (same_kept (meaning.journal.state_of before.journal))) (λ reported is. is)
    not_answered frame answers _ is = absurd is

    -- a restart is refused
    pub restart_refused : (why : HostFault) → HostRestartRefused meaning.journal before after why → RefusesHost meaning before after why
    restart_refused (host_fault.Store why) is = journal_refuses why (elim is.cause [
      | inl failed ↦ restart_failed _ _ why failed
      | inr (damaged, unusable) ↦
          found_wrong (meaning.journal.state_of before.journal) (meaning.journal.state_of after.journal) why damaged unusable.journal.stops.nature
          (λ honest sound. let list = unusable.not_usable honest sound in list.2 (finds.entries list.0 list.1))
    ])
    restart_refused host_fault.NoMemory is = plainly host_fault.NoMemory (nature_kept _ _ is.journal.stops.nature) (λ reported is. is)
    restart_refused _ is = absurd is
