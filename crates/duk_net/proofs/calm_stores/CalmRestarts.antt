-- Where all stores are sound and calm, restarts bring up the ends that are there.
use Rattle.std.proofs.Common.{◌≡◌, ◌≢◌, ◌⊎◌, ◌<◌, ◌∷◌, [], ℕ, List, length, inl, inr, refl, sym, ap, subst}
use Rattle.std.specs.List.{All}
use Rattle.std.proofs.lemmas.List.Elements.{All-cons, All-head, All-nil, All-tail}
use Rattle.std.proofs.Math.ListN.{get_or}
use Rattle.duk_host.specs.Host.{HostOf}
use Rattle.duk_host.specs.Restart.{HostRestartRefused}
use Rattle.duk_host.specs.declared.fault.HostFault.{HostFault}
use Rattle.duk_host.specs.declared.fault.HostFault.TheVariants as host_fault
use Rattle.duk_store.specs.declared.fault.StoreFault.TheVariants as store_fault
use Rattle.duk_net.specs.Calm.{HasSoundStores, ReportsBroughtUp, IsCalmAt, IsLogFault, IsRestartEvent, ReportsArming}
use Rattle.duk_net.specs.Reached.{Reached}
use Rattle.duk_net.specs.Restart.{RestartsHost, TakesRestart}
use Rattle.duk_net.specs.Run.{Run}
use Rattle.duk_net.specs.Step.{Step}
use Rattle.duk_net.specs.World.{Meanings, WorldOf}
use Rattle.duk_stations.specs.Places.{ChangesOnly}
use Rattle.duk_net.specs.declared.event.End.{End}
use Rattle.duk_net.specs.declared.event.End.TheVariants as ends
use Rattle.duk_net.specs.declared.event.Event.{Event}
use Rattle.duk_net.specs.declared.event.Event.TheVariants as event
use Rattle.duk_net.specs.declared.outcome.Outcome.{Outcome}
use Rattle.duk_net.specs.declared.outcome.Outcome.TheVariants as came
use Rattle.duk_stations.proofs.PlacesInLists.{as_many, not_missing}
use Rattle.duk_stations.proofs.StoreFaults.{restart_reports, two_faults}
use Rattle.duk_net.proofs.used_once.WorldSafe.{WorldLaws}
use Rattle.duk_net.proofs.calm_stores.CalmStores.{StepFacts, reached_stores, step_facts}
use Rattle.duk_net.proofs.accepted_once.AcceptedOnce.{AnswerLaws}
use Rattle.duk_net.proofs.worlds.ReachedByMoves.{reached_step}

-- and so is the host's, if it is not out of memory
host_reports : {C L I : Type 0} (m : Meanings C L I) (old new : HostOf L I) (why : HostFault) → why ≢ host_fault.NoMemory → HostRestartRefused m.host.log old new why
    → IsLogFault why store_fault.Device ⊎ IsLogFault why store_fault.Damaged
host_reports m old new host_fault.NoMemory other refused = absurd (other refl)
host_reports m old new (host_fault.Store why) other refused = elim refused.cause [
  | inl failed ↦ two_faults (m.host.log.state_of old.log) (m.host.log.state_of new.log) why failed.fault_is
  | inr (damaged, none) ↦ inr damaged
]
host_reports m old new _ other refused = absurd refused

-- an end that is brought up was not armed
not_armed : (end : End) (outcome : Outcome) → ReportsBroughtUp outcome → ¬ ReportsArming end outcome
not_armed end (came.Armed armed steps) up reports = absurd up
not_armed end _ up reports = reports

-- a restart brings its end up, and as many terminals are there
term_up : {C L I : Type 0} (m : Meanings C L I) (old : WorldOf C L I) (t : ℕ) (outcome : Outcome) (new : WorldOf C L I) (acts : ChangesOnly t (TakesRestart m.cell t outcome) old.terminals new.terminals)
    → HasSoundStores m old → ((end : End) → IsCalmAt m old end) → StepFacts m old outcome new → ReportsBroughtUp outcome
term_up m old t (came.TermNext u next) new acts sound calm facts = tt
term_up m old t (came.TermFaulted u why) new acts sound calm facts = elim (restart_reports m.cell acts.before acts.after why acts.changed.1) [
  | inl device ↦ absurd (facts.device (ends.Term t) (calm (ends.Term t)) (acts.changed.0, device))
  | inr damaged ↦ absurd (facts.damaged sound (ends.Term t) (acts.changed.0, damaged))
]
term_up m old t _ new acts sound calm facts = absurd acts.changed

host_up : {C L I : Type 0} (m : Meanings C L I) (old : WorldOf C L I) (outcome : Outcome) (new : WorldOf C L I) → RestartsHost m old outcome new
    → HasSoundStores m old → ((end : End) → IsCalmAt m old end) → StepFacts m old outcome new → ReportsBroughtUp outcome × (length new.terminals ≡ length old.terminals)
host_up m old (came.HostUsed used) new restarts sound calm facts = (tt, ap (λ world. length world.terminals) restarts.rest)
host_up m old (came.HostFaulted why) new restarts sound calm facts = elim (host_reports m old.host new.host why restarts.not_memory restarts.host) [
  | inl device ↦ absurd (facts.device ends.Host (calm ends.Host) device)
  | inr damaged ↦ absurd (facts.damaged sound ends.Host damaged)
]
host_up m old _ new restarts sound calm facts = absurd restarts

step_up : {C L I : Type 0} (m : Meanings C L I) (old : WorldOf C L I) (event : Event) (outcome : Outcome) (new : WorldOf C L I) → IsRestartEvent old event → Step m old event outcome new
    → HasSoundStores m old → ((end : End) → IsCalmAt m old end) → StepFacts m old outcome new → ReportsBroughtUp outcome × (length new.terminals ≡ length old.terminals)
step_up m old (event.RestartTerm t) outcome new there step sound calm facts = elim step [
  | inl none ↦ absurd (not_missing old.terminals t there none.none)
  | inr change ↦ (term_up m old t outcome new change.terminal sound calm facts, as_many t _ old.terminals new.terminals change.terminal)
]
step_up m old event.RestartHost outcome new there step sound calm facts = host_up m old outcome new step sound calm facts
step_up m old _ outcome new there step sound calm facts = absurd there

-- what is there stays there, where there are as many terminals
restart_there : {C L I : Type 0} (old new : WorldOf C L I) (event : Event) → length new.terminals ≡ length old.terminals → IsRestartEvent old event → IsRestartEvent new event
restart_there old new (event.RestartTerm t) many there = record { place = there.place; number_is = there.number_is; within = subst (λ n. there.place < n) (sym many) there.within }
restart_there old new event.RestartHost many there = tt
restart_there old new _ many there = absurd there

pub all_up : {C L I : Type 0} (m : Meanings C L I) → WorldLaws m.cell → AnswerLaws → (old new : WorldOf C L I) (events : List Event) (outcomes : List Outcome) → Reached m old
    → HasSoundStores m old → ((end : End) → IsCalmAt m old end) → All (IsRestartEvent old) events → Run m old events outcomes new → All ReportsBroughtUp outcomes × ((end : End) → IsCalmAt m new end)
all_up m laws answer old new [] [] reached sound calm there run = (All-nil ReportsBroughtUp, rw run calm)
all_up m laws answer old new [] (outcome ∷ outcomes) reached sound calm there run = absurd run
all_up m laws answer old new (event ∷ events) [] reached sound calm there run = absurd run
all_up m laws answer old new (event ∷ events) (outcome ∷ outcomes) reached sound calm there run =
    let facts = step_facts m old event outcome run.0 (reached_stores m laws answer old reached) run.1 in
    let up = step_up m old event outcome run.0 (All-head (IsRestartEvent old) event events there) run.1 sound calm facts in
    let rest = all_up m laws answer run.0 new events outcomes (reached_step m old run.0 event outcome reached run.1) (facts.sound sound)
    (λ end. facts.calm end (calm end) (not_armed end outcome up.0))
    (λ k default within. restart_there old run.0 (get_or events k default) up.1 (All-tail (IsRestartEvent old) event events there k default within)) run.2 in
    (All-cons ReportsBroughtUp outcome outcomes up.0 rest.0, rest.1)
