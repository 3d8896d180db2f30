-- What the calls of the host leave of its log's soundness and calm, and which faults of the log they
-- report.
use Rattle.std.proofs.Common.{ℕ, List, inl, inr}
use Rattle.duk_host.specs.Handle.{HandleRefused}
use Rattle.duk_host.specs.Host.{HostMeaning, HostOf}
use Rattle.duk_host.specs.Restart.{HostRestartRefused}
use Rattle.duk_host.specs.declared.fault.HostFault.{HostFault}
use Rattle.duk_host.specs.declared.fault.HostFault.TheVariants as host_fault
use Rattle.duk_store.specs.Log.{AppendFailed, LogMeaning}
use Rattle.duk_store.specs.declared.fault.StoreFault.{StoreFault}
use Rattle.duk_store.specs.declared.fault.StoreFault.TheVariants.{Device, Stopped}
use Rattle.duk_stations.proofs.StoreFaults.{FailsSpared, PreservesCalm, Spares, device_spared, found_wrong, is_neither, nature_kept, none_reported, restart_failed, same_kept}
use Rattle.duk_net.specs.Calm.{IsLogFault}
use Rattle.duk_net.proofs.calm_stores.FoundIsUsable.{FindsUsable}

-- an append that failed
append_failed : {L : Type 0} (log : LogMeaning L) (old new : L) (number : _) (why : StoreFault) → AppendFailed log old new number why → FailsSpared (log.state_of old) (log.state_of new) why
append_failed log old new number Device failed = record {
  keeps = nature_kept (log.state_of old) (log.state_of new) failed.stops.nature;
  spares = device_spared (log.state_of old) (λ calm. failed.failure (failed.stops.quiet calm));
}
append_failed log old new number Stopped failed = record {
  keeps = nature_kept (log.state_of old) (log.state_of new) failed.stays.nature;
  spares = is_neither (log.state_of old) Stopped (λ same. cc) (λ same. cc);
}
append_failed log old new number _ failed = absurd failed

-- what a host's refusal leaves of its log's nature, and which faults of its log it reports
pub record RefusesHost {L I : Type 0} (log : LogMeaning L) (before after : HostOf L I) (why : HostFault) : Type 0 where
  pub keeps : PreservesCalm (log.state_of before.log) (log.state_of after.log)
  pub spares : Spares (log.state_of before.log) (λ reported. IsLogFault why reported)

module _ {L I : Type 0} (meaning : HostMeaning L I) (before after : HostOf L I) where
  -- a fault of no store
  plainly : (why : HostFault) → PreservesCalm (meaning.log.state_of before.log) (meaning.log.state_of after.log) → ((reported : StoreFault) → ¬ IsLogFault why reported) → RefusesHost meaning.log before after why
  plainly why keeps none = record { keeps = keeps; spares = none_reported (meaning.log.state_of before.log) (λ reported. IsLogFault why reported) none }

  log_refuses : (why : StoreFault) → FailsSpared (meaning.log.state_of before.log) (meaning.log.state_of after.log) why → RefusesHost meaning.log before after (host_fault.Store why)
  log_refuses why fails = record { keeps = fails.keeps; spares = fails.spares }

  -- a request that is not answered
  pub handle_refused : (bytes : List ℕ) (why : HostFault) → HandleRefused meaning bytes before after why → RefusesHost meaning.log before after why
  handle_refused bytes host_fault.Stopped refused = plainly host_fault.Stopped (rw refused.1 (same_kept (meaning.log.state_of before.log))) (λ reported is. is)
  handle_refused bytes host_fault.NoMemory refused = plainly host_fault.NoMemory (rw refused.not_kept (same_kept (meaning.log.state_of before.log))) (λ reported is. is)
  handle_refused bytes (host_fault.Store why) refused = log_refuses why (append_failed meaning.log before.log after.log refused.request.ksn why refused.not_kept.not_appended)
  handle_refused bytes _ refused = absurd refused

  -- a restart that is refused
  pub host_restart_refused : (why : HostFault) → ((meaning.log.state_of before.log).honest → FindsUsable (meaning.log.state_of before.log)) → HostRestartRefused meaning.log before after why → RefusesHost meaning.log before after why
  host_restart_refused (host_fault.Store why) usable refused = log_refuses why (elim refused.cause [
    | inl failed ↦ restart_failed (meaning.log.state_of before.log) (meaning.log.state_of after.log) why failed
    | inr (damaged, none) ↦ found_wrong (meaning.log.state_of before.log) (meaning.log.state_of after.log) why damaged none.log.settles.nature
        (λ honest sound. none.not_usable honest (usable honest none.numbers (none.log.was_found honest)))
  ])
  host_restart_refused host_fault.NoMemory usable refused = plainly host_fault.NoMemory (nature_kept (meaning.log.state_of before.log) (meaning.log.state_of after.log) refused.log.settles.nature) (λ reported is. is)
  host_restart_refused _ usable refused = absurd refused
