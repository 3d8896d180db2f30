-- Sound stores report no damage, and a calm store reports no failed device step before it is armed.
use Rattle.std.proofs.Common.{◌≡◌, ◌≢◌, ◌⊎◌, ℕ, List, Some, inl, inr, refl, sym, ap, subst, ◌∙◌}
use Rattle.std.specs.List.{All}
use Rattle.std.proofs.lemmas.List.Elements.{All-contains, All-nil, All-push}
use Rattle.std.proofs.lemmas.Bool.Decides.{eqb_tells}
use Rattle.duk_host.specs.Host.{HostOf}
use Rattle.duk_host.specs.declared.fault.HostFault.{HostFault}
use Rattle.duk_host.specs.declared.fault.HostFault.TheVariants as host_fault
use Rattle.duk_store.specs.Cell.{CellMeaning}
use Rattle.duk_store.specs.declared.fault.StoreFault.{StoreFault}
use Rattle.duk_store.specs.declared.fault.StoreFault.TheVariants.{Damaged, Device}
use Rattle.duk_term.specs.Load.{Loading}
use Rattle.duk_term.specs.Terminal.{TerminalOf}
use Rattle.duk_term.specs.declared.fault.TermFault.{TermFault}
use Rattle.duk_term.specs.declared.purchase.Purchase.{Purchase}
use Rattle.duk_net.specs.Arm.{ArmsCell, ArmsHost, ArmsTerminal}
use Rattle.duk_net.specs.Begin.{Begins}
use Rattle.duk_net.specs.Calm.{FailsOnceArmed, HasSoundCell, HasSoundStores, IsCalmAt, ReportsArming, ReportsFault, ReportsNoDamage, StaysCalm}
use Rattle.duk_net.specs.Down.{TakesAnswer}
use Rattle.duk_net.specs.Load.{TakesLoad}
use Rattle.duk_net.specs.Reached.{CallLeads, Reached}
use Rattle.duk_net.specs.Restart.{IsHostLeft, RestartsHost, TakesRestart}
use Rattle.duk_net.specs.Step.{Step}
use Rattle.duk_net.specs.Up.{ReachesHost}
use Rattle.duk_net.specs.World.{Frame, Meanings, WorldOf}
use Rattle.duk_stations.specs.Places.{ChangesOnly, IsAt}
use Rattle.duk_net.specs.declared.event.End.{End}
use Rattle.duk_net.specs.declared.event.End.TheVariants as ends
use Rattle.duk_net.specs.declared.event.Event.{Event}
use Rattle.duk_net.specs.declared.event.Event.TheVariants as event
use Rattle.duk_net.specs.declared.outcome.Outcome.{Outcome}
use Rattle.duk_net.specs.declared.outcome.Outcome.TheVariants as came
use Rattle.duk_stations.proofs.Calm.{CalmSince, calm_first, calm_left, calm_more}
use Rattle.duk_stations.proofs.NoUsedKey.{is_body}
use Rattle.duk_stations.proofs.PlacesInLists.{after_at, all_at, at_contains, before_at}
use Rattle.duk_stations.proofs.StoreFaults.{FindsBodies, PreservesCalm, RefusesTerminal, nature_kept, no_reply_fault, same_kept, same_terminal, terminal_begin_refused, terminal_load_refused, terminal_restart_refused}
use Rattle.duk_net.proofs.accepted_once.AcceptedOnce.{AnswerLaws, reached_safe}
use Rattle.duk_net.proofs.calm_stores.FoundIsUsable.{FindsUsable, reached_usable}
use Rattle.duk_net.proofs.worlds.ReachedByMoves.{leads_all}
use Rattle.duk_net.proofs.calm_stores.StoreFaults.{RefusesHost, handle_refused, host_restart_refused}
use Rattle.duk_net.proofs.used_once.WorldSafe.{WorldLaws, reached_is_safe, rest_of}

-- what is known of a world's stores: they are honest, and a restart finds what it is to find
pub record KnownStores {C L I : Type 0} (m : Meanings C L I) (world : WorldOf C L I) : Type 0 where
  pub log : (m.host.log.state_of world.host.log).honest
  pub usable : FindsUsable (m.host.log.state_of world.host.log)
  pub cells : (t : ℕ) (terminal : TerminalOf C) → IsAt world.terminals t terminal → (m.cell.state_of terminal.cell).honest
  pub bodies : (t : ℕ) (terminal : TerminalOf C) → IsAt world.terminals t terminal → FindsBodies m.cell terminal.cell

-- so it is in every world that is reached
pub reached_stores : {C L I : Type 0} (m : Meanings C L I) → WorldLaws m.cell → AnswerLaws → (world : WorldOf C L I) → Reached m world → KnownStores m world
reached_stores m laws answer world reached =
    let safe = reached_is_safe m world laws reached in
    record {
      log = (reached_safe m answer world reached).honest;
      usable = reached_usable m answer world reached;
      cells = λ t terminal at. (safe.stations.each t terminal at).honest;
      bodies = λ t terminal at bytes found. is_body laws.registers (rest_of world) t bytes ((safe.stations.each t terminal at).kept (Some bytes) found);
    }

-- what a step does to sound and calm stores, and which faults it reports
pub record StepFacts {C L I : Type 0} (m : Meanings C L I) (old : WorldOf C L I) (outcome : Outcome) (new : WorldOf C L I) : Type 0 where
  pub sound : HasSoundStores m old → HasSoundStores m new
  pub calm : (end : End) → IsCalmAt m old end → ¬ ReportsArming end outcome → IsCalmAt m new end
  pub device : (end : End) → IsCalmAt m old end → ¬ ReportsFault outcome end Device
  pub damaged : HasSoundStores m old → ReportsNoDamage outcome

-- an outcome that says nothing of a store
abbrev ReportsNoFault : Outcome → Type 0
ReportsNoFault outcome = (end : End) (fault : StoreFault) → ¬ ReportsFault outcome end fault

-- a step that changes nothing
nothing_step : {C L I : Type 0} (m : Meanings C L I) (old : WorldOf C L I) (outcome : Outcome) (new : WorldOf C L I) → new ≡ old → ReportsNoFault outcome → StepFacts m old outcome new
nothing_step m old outcome new same none = record {
  sound = λ sound. rw same sound;
  calm = λ end calm unarmed. rw same calm;
  device = λ end calm. none end Device;
  damaged = λ sound end. none end Damaged;
}

-- what an event of a terminal does to its cell, and which faults it reports
record CellFacts {C : Type 0} (cell : CellMeaning C) (t : ℕ) (outcome : Outcome) (before after : TerminalOf C) : Type 0 where
  about : (end : End) (fault : StoreFault) → ReportsFault outcome end fault → end ≡ ends.Term t
  sound : (cell.state_of before.cell).honest → (cell.state_of before.cell).sound → (cell.state_of after.cell).sound
  calm : (cell.state_of before.cell).calm → ¬ ReportsArming (ends.Term t) outcome → (cell.state_of after.cell).calm
  device : (cell.state_of before.cell).calm → ¬ ReportsFault outcome (ends.Term t) Device
  damaged : (cell.state_of before.cell).honest → (cell.state_of before.cell).sound → ¬ ReportsFault outcome (ends.Term t) Damaged

-- the sound cells of a world, by the terminals' numbers
sound_at : {C L I : Type 0} (m : Meanings C L I) (world : WorldOf C L I) → HasSoundStores m world → (t : ℕ) (terminal : TerminalOf C) → IsAt world.terminals t terminal → (m.cell.state_of terminal.cell).sound
sound_at m world sound t terminal at = All-contains (HasSoundCell m) world.terminals terminal sound.cells (at_contains world.terminals t terminal at)

-- a terminal's calm cell after a step of that terminal or another one
calm_after : {C L I : Type 0} (m : Meanings C L I) (old new : WorldOf C L I) (t : ℕ) (P : TerminalOf C → TerminalOf C → Type 0) (outcome : Outcome) (acts : ChangesOnly t P old.terminals new.terminals)
    → CellFacts m.cell t outcome acts.before acts.after → new.host ≡ old.host → (end : End) → IsCalmAt m old end → ¬ ReportsArming end outcome → IsCalmAt m new end
calm_after m old new t P outcome acts facts host ends.Host calm unarmed = rw host calm
calm_after m old new t P outcome acts facts host (ends.Term u) calm unarmed = λ terminal at. elim (after_at t P old.terminals new.terminals acts u terminal at) [
  | inl (same, is) ↦ rw is (facts.calm (subst (λ u. IsCalmAt m old (ends.Term u)) same calm acts.before (before_at t P old.terminals new.terminals acts))
      (subst (λ u. ¬ ReportsArming (ends.Term u) outcome) same unarmed))
  | inr (other, was) ↦ calm terminal was
]

-- a step of a terminal
terminal_step : {C L I : Type 0} (m : Meanings C L I) (old new : WorldOf C L I) (t : ℕ) (P : TerminalOf C → TerminalOf C → Type 0) (outcome : Outcome) (acts : ChangesOnly t P old.terminals new.terminals)
    → KnownStores m old → new.host ≡ old.host → CellFacts m.cell t outcome acts.before acts.after → StepFacts m old outcome new
terminal_step m old new t P outcome acts known host facts =
    let was = before_at t P old.terminals new.terminals acts in
    let honest = known.cells t acts.before was in
    record {
      sound = λ sound. record {
        log = rw host sound.log;
        cells = all_at (HasSoundCell m) new.terminals (λ u terminal at. elim (after_at t P old.terminals new.terminals acts u terminal at) [
          | inl (same, is) ↦ rw is (facts.sound honest (sound_at m old sound t acts.before was))
          | inr (other, stood) ↦ sound_at m old sound u terminal stood
        ]);
      };
      calm = calm_after m old new t P outcome acts facts host;
      device = λ end calm reports.
          let is = facts.about end Device reports in
          facts.device (subst (λ end. IsCalmAt m old end) is calm acts.before was) (subst (λ end. ReportsFault outcome end Device) is reports);
      damaged = λ sound end reports. facts.damaged honest (sound_at m old sound t acts.before was) (subst (λ end. ReportsFault outcome end Damaged) (facts.about end Damaged reports) reports);
    }

-- an event of a terminal that is reported without a fault, and leaves its cell's nature
reported_plainly : {C : Type 0} (cell : CellMeaning C) (t : ℕ) (outcome : Outcome) (before after : TerminalOf C) → ReportsNoFault outcome → PreservesCalm (cell.state_of before.cell) (cell.state_of after.cell) → CellFacts cell t outcome before after
reported_plainly cell t outcome before after none keeps = record {
  about = λ end fault reports. absurd (none end fault reports);
  sound = keeps.sound;
  calm = λ calm unarmed. keeps.calm calm;
  device = λ calm. none (ends.Term t) Device;
  damaged = λ honest sound. none (ends.Term t) Damaged;
}

-- an event of a terminal that is refused
refused_about : (t u : ℕ) (why : TermFault) (end : End) (fault : StoreFault) → u ≡ t → ReportsFault (came.TermFaulted u why) end fault → end ≡ ends.Term t
refused_about t u why ends.Host fault is reports = absurd reports
refused_about t u why (ends.Term v) fault is reports = ap ends.Term (sym reports.0 ∙ is)

reported_refused : {C : Type 0} (cell : CellMeaning C) (t u : ℕ) (why : TermFault) (before after : TerminalOf C) → u ≡ t → RefusesTerminal cell before after why → CellFacts cell t (came.TermFaulted u why) before after
reported_refused cell t u why before after is refuses = record {
  about = λ end fault. refused_about t u why end fault is;
  sound = refuses.keeps.sound;
  calm = λ calm unarmed. refuses.keeps.calm calm;
  device = λ calm reports. refuses.spares.device calm reports.1;
  damaged = λ honest sound reports. refuses.spares.damaged honest sound reports.1;
}

load_facts : {C : Type 0} (cell : CellMeaning C) (t : ℕ) (asked : Loading) (outcome : Outcome) (before after : TerminalOf C) → TakesLoad cell t asked outcome before after → CellFacts cell t outcome before after
load_facts cell t asked (came.Loaded u iksn) before after takes = reported_plainly cell t (came.Loaded u iksn) before after (λ end fault reports. reports) (nature_kept _ _ takes.2.kept.settles.nature)
load_facts cell t asked (came.TermFaulted u why) before after takes = reported_refused cell t u why before after takes.0 (terminal_load_refused cell asked before after why takes.1)
load_facts cell t asked _ before after takes = absurd takes

down_facts : {C : Type 0} (cell : CellMeaning C) (t : ℕ) (frame : Frame) (outcome : Outcome) (before after : TerminalOf C) → TakesAnswer t frame outcome before after → CellFacts cell t outcome before after
down_facts cell t frame (came.Done u ksn code) before after takes = reported_plainly cell t (came.Done u ksn code) before after (λ end fault reports. reports) (rw takes.1.after_is (same_kept (cell.state_of before.cell)))
down_facts cell t frame (came.GotRefusal u ksn reason) before after takes = reported_plainly cell t (came.GotRefusal u ksn reason) before after (λ end fault reports. reports) (rw takes.1.after_is (same_kept (cell.state_of before.cell)))
down_facts cell t frame (came.TermFaulted u why) before after takes =
    reported_refused cell t u why before after takes.0 (same_terminal cell before after why takes.2 (λ reported. no_reply_fault before.state frame.items why reported takes.1))
down_facts cell t frame _ before after takes = absurd takes

restart_facts : {C : Type 0} (cell : CellMeaning C) (t : ℕ) (outcome : Outcome) (before after : TerminalOf C) → FindsBodies cell before.cell → TakesRestart cell t outcome before after → CellFacts cell t outcome before after
restart_facts cell t (came.TermNext u next) before after bodies takes = reported_plainly cell t (came.TermNext u next) before after (λ end fault reports. reports) (nature_kept _ _ takes.1.restarted.cell.settles.nature)
restart_facts cell t (came.TermFaulted u why) before after bodies takes = reported_refused cell t u why before after takes.0 (terminal_restart_refused cell before after why bodies takes.1)
restart_facts cell t _ before after bodies takes = absurd takes

arm_facts : {C L I : Type 0} (m : Meanings C L I) (t steps passed : ℕ) (armed : End) (before after : TerminalOf C) → armed ≡ ends.Term t → ArmsCell m steps before after → CellFacts m.cell t (came.Armed armed passed) before after
arm_facts m t steps passed armed before after is arms = record {
  about = λ end fault reports. absurd reports;
  sound = arms.stays.sound;
  calm = λ calm unarmed. absurd (unarmed is);
  device = λ calm reports. reports;
  damaged = λ honest sound reports. reports;
}

begin_step : {C L I : Type 0} (m : Meanings C L I) (old : WorldOf C L I) (t : ℕ) (purchase : Purchase) (outcome : Outcome) (new : WorldOf C L I) → KnownStores m old → Begins m old t purchase outcome new → StepFacts m old outcome new
begin_step m old t purchase came.NoSuchTerminal new known begins = nothing_step m old came.NoSuchTerminal new begins.1 (λ end fault reports. reports)
begin_step m old t purchase (came.Sent u k ksn) new known begins =
    let acts = begins.1.terminal in
    terminal_step m old new t _ (came.Sent u k ksn) acts known (ap (λ world. world.host) begins.1.rest)
    (reported_plainly m.cell t (came.Sent u k ksn) acts.before acts.after (λ end fault reports. reports) (nature_kept _ _ acts.changed.begun.kept.settles.nature))
begin_step m old t purchase (came.TermFaulted u why) new known begins =
    let acts = begins.1.terminal in
    terminal_step m old new t _ (came.TermFaulted u why) acts known (ap (λ world. world.host) begins.1.rest)
    (reported_refused m.cell t u why acts.before acts.after begins.0 (terminal_begin_refused m.cell acts.before acts.after why acts.changed))
begin_step m old t purchase _ new known begins = absurd begins

arm_term_step : {C L I : Type 0} (m : Meanings C L I) (old : WorldOf C L I) (t steps : ℕ) (outcome : Outcome) (new : WorldOf C L I) → KnownStores m old → ArmsTerminal m old t steps outcome new → StepFacts m old outcome new
arm_term_step m old t steps came.NoSuchTerminal new known arms = nothing_step m old came.NoSuchTerminal new arms.1 (λ end fault reports. reports)
arm_term_step m old t steps (came.Armed armed passed) new known arms =
    let acts = arms.2.terminal in
    terminal_step m old new t _ (came.Armed armed passed) acts known (ap (λ world. world.host) arms.2.rest) (arm_facts m t steps passed armed acts.before acts.after arms.0 acts.changed)
arm_term_step m old t steps _ new known arms = absurd arms

-- what an event of the host does to its log, and which faults it reports
record LogFacts {C L I : Type 0} (m : Meanings C L I) (outcome : Outcome) (before after : HostOf L I) : Type 0 where
  about : (end : End) (fault : StoreFault) → ReportsFault outcome end fault → end ≡ ends.Host
  sound : (m.host.log.state_of before.log).honest → (m.host.log.state_of before.log).sound → (m.host.log.state_of after.log).sound
  calm : (m.host.log.state_of before.log).calm → ¬ ReportsArming ends.Host outcome → (m.host.log.state_of after.log).calm
  device : (m.host.log.state_of before.log).calm → ¬ ReportsFault outcome ends.Host Device
  damaged : (m.host.log.state_of before.log).honest → (m.host.log.state_of before.log).sound → ¬ ReportsFault outcome ends.Host Damaged

host_calm : {C L I : Type 0} (m : Meanings C L I) (old new : WorldOf C L I) (outcome : Outcome) → new.terminals ≡ old.terminals → LogFacts m outcome old.host new.host
    → (end : End) → IsCalmAt m old end → ¬ ReportsArming end outcome → IsCalmAt m new end
host_calm m old new outcome terminals facts ends.Host calm unarmed = facts.calm calm unarmed
host_calm m old new outcome terminals facts (ends.Term t) calm unarmed = λ terminal at. calm terminal (subst (λ list. IsAt list t terminal) terminals at)

-- a step of the host
host_step : {C L I : Type 0} (m : Meanings C L I) (old new : WorldOf C L I) (outcome : Outcome) → KnownStores m old → new.terminals ≡ old.terminals → LogFacts m outcome old.host new.host → StepFacts m old outcome new
host_step m old new outcome known terminals facts = record {
  sound = λ sound. record { log = facts.sound known.log sound.log; cells = rw terminals sound.cells };
  calm = host_calm m old new outcome terminals facts;
  device = λ end calm reports.
      let is = facts.about end Device reports in
      facts.device (subst (λ end. IsCalmAt m old end) is calm) (subst (λ end. ReportsFault outcome end Device) is reports);
  damaged = λ sound end reports. facts.damaged known.log sound.log (subst (λ end. ReportsFault outcome end Damaged) (facts.about end Damaged reports) reports);
}

-- an event of the host that is reported without a fault, and leaves its log's nature
host_plainly : {C L I : Type 0} (m : Meanings C L I) (outcome : Outcome) (before after : HostOf L I) → ReportsNoFault outcome → PreservesCalm (m.host.log.state_of before.log) (m.host.log.state_of after.log) → LogFacts m outcome before after
host_plainly m outcome before after none keeps = record {
  about = λ end fault reports. absurd (none end fault reports);
  sound = keeps.sound;
  calm = λ calm unarmed. keeps.calm calm;
  device = λ calm. none ends.Host Device;
  damaged = λ honest sound. none ends.Host Damaged;
}

host_about : (why : HostFault) (end : End) (fault : StoreFault) → ReportsFault (came.HostFaulted why) end fault → end ≡ ends.Host
host_about why ends.Host fault reports = refl
host_about why (ends.Term t) fault reports = absurd reports

host_refused : {C L I : Type 0} (m : Meanings C L I) (why : HostFault) (before after : HostOf L I) → RefusesHost m.host.log before after why → LogFacts m (came.HostFaulted why) before after
host_refused m why before after refuses = record {
  about = host_about why;
  sound = refuses.keeps.sound;
  calm = λ calm unarmed. refuses.keeps.calm calm;
  device = refuses.spares.device;
  damaged = refuses.spares.damaged;
}

up_step : {C L I : Type 0} (m : Meanings C L I) (old : WorldOf C L I) (k : ℕ) (outcome : Outcome) (new : WorldOf C L I) → KnownStores m old → ReachesHost m old k outcome new → StepFacts m old outcome new
up_step m old k came.NoSuchFrame new known up = nothing_step m old came.NoSuchFrame new up.1 (λ end fault reports. reports)
up_step m old k (came.Accepted n ksn code) new known up =
    host_step m old new (came.Accepted n ksn code) known (ap (λ world. world.terminals) up.answered.rest)
    (host_plainly m (came.Accepted n ksn code) old.host new.host (λ end fault reports. reports) (nature_kept _ _ up.accepted.kept.appended.nature))
up_step m old k (came.Repeated n ksn code) new known up =
    host_step m old new (came.Repeated n ksn code) known (ap (λ world. world.terminals) up.answered.rest)
    (host_plainly m (came.Repeated n ksn code) old.host new.host (λ end fault reports. reports) (rw up.repeated.same (same_kept (m.host.log.state_of old.host.log))))
up_step m old k (came.Refused n ksn reason) new known up =
    host_step m old new (came.Refused n ksn reason) known (ap (λ world. world.terminals) up.answered.rest)
    (host_plainly m (came.Refused n ksn reason) old.host new.host (λ end fault reports. reports) (rw up.refused.same (same_kept (m.host.log.state_of old.host.log))))
up_step m old k (came.HostFaulted why) new known up =
    host_step m old new (came.HostFaulted why) known (ap (λ world. world.terminals) up.rest) (host_refused m why old.host new.host (handle_refused m.host old.host new.host up.request.items why up.faulted))
up_step m old k _ new known up = absurd up

restart_host_step : {C L I : Type 0} (m : Meanings C L I) (old : WorldOf C L I) (outcome : Outcome) (new : WorldOf C L I) → KnownStores m old → RestartsHost m old outcome new → StepFacts m old outcome new
restart_host_step m old (came.HostUsed used) new known restarts =
    host_step m old new (came.HostUsed used) known (ap (λ world. world.terminals) restarts.rest)
    (host_plainly m (came.HostUsed used) old.host new.host (λ end fault reports. reports) (nature_kept _ _ restarts.host.log.settles.nature))
restart_host_step m old (came.HostFaulted why) new known restarts =
    host_step m old new (came.HostFaulted why) known (ap (λ world. world.terminals) restarts.rest)
    (host_refused m why old.host new.host (host_restart_refused m.host old.host new.host why (λ honest. known.usable) restarts.host))
restart_host_step m old _ new known restarts = absurd restarts

arm_host_step : {C L I : Type 0} (m : Meanings C L I) (old : WorldOf C L I) (steps : ℕ) (outcome : Outcome) (new : WorldOf C L I) → KnownStores m old → ArmsHost m old steps outcome new → StepFacts m old outcome new
arm_host_step m old steps (came.Armed armed passed) new known arms =
    host_step m old new (came.Armed armed passed) known (ap (λ world. world.terminals) arms.3) (record {
      about = λ end fault reports. absurd reports;
      sound = arms.2.stays.sound;
      calm = λ calm unarmed. absurd (unarmed arms.0);
      device = λ calm reports. reports;
      damaged = λ honest sound reports. reports;
    })
arm_host_step m old steps _ new known arms = absurd arms

-- what each step does
pub step_facts : {C L I : Type 0} (m : Meanings C L I) (old : WorldOf C L I) (event : Event) (outcome : Outcome) (new : WorldOf C L I) → KnownStores m old → Step m old event outcome new → StepFacts m old outcome new
step_facts m old (event.Load t iksn) outcome new known step = elim step [
  | inl none ↦ nothing_step m old outcome new none.same (rw none.outcome_is (λ end fault reports. reports))
  | inr there ↦ elim there [
    | inl other ↦ nothing_step m old outcome new other.same (rw other.outcome_is (λ end fault reports. reports))
    | inr free ↦ elim free [
      | inl no_keys ↦ nothing_step m old outcome new no_keys.same (rw no_keys.outcome_is (λ end fault reports. reports))
      | inr given ↦ terminal_step m old new t _ outcome given.terminal known (ap (λ world. world.host) given.rest)
          (load_facts m.cell t given.asked outcome given.terminal.before given.terminal.after given.terminal.changed)
    ]
  ]
]
step_facts m old (event.Begin t purchase) outcome new known step = begin_step m old t purchase outcome new known step
step_facts m old (event.Up k) outcome new known step = up_step m old k outcome new known step
step_facts m old (event.Down k t) outcome new known step = elim step [
  | inl none ↦ nothing_step m old outcome new none.same (rw none.outcome_is (λ end fault reports. reports))
  | inr there ↦ elim there [
    | inl missing ↦ nothing_step m old outcome new missing.same (rw missing.outcome_is (λ end fault reports. reports))
    | inr delivered ↦
        let acts = delivered.change.terminal in
        terminal_step m old new t _ outcome acts known (ap (λ world. world.host) delivered.change.rest) (down_facts m.cell t delivered.frame outcome acts.before acts.after acts.changed)
  ]
]
step_facts m old (event.RestartTerm t) outcome new known step = elim step [
  | inl none ↦ nothing_step m old outcome new none.same (rw none.outcome_is (λ end fault reports. reports))
  | inr change ↦
      let acts = change.terminal in
      terminal_step m old new t _ outcome acts known (ap (λ world. world.host) change.rest)
      (restart_facts m.cell t outcome acts.before acts.after (known.bodies t acts.before (before_at t _ old.terminals new.terminals acts)) acts.changed)
]
step_facts m old event.RestartHost outcome new known step = restart_host_step m old outcome new known step
step_facts m old (event.Arm ends.Host steps) outcome new known step = arm_host_step m old steps outcome new known step
step_facts m old (event.Arm (ends.Term t) steps) outcome new known step = arm_term_step m old t steps outcome new known step

-- the host's restart that is refused memory leaves sound and calm stores so
left_facts : {C L I : Type 0} (m : Meanings C L I) (old new : WorldOf C L I) → KnownStores m old → IsHostLeft m old new → StepFacts m old (came.HostFaulted host_fault.NoMemory) new
left_facts m old new known left =
    host_step m old new (came.HostFaulted host_fault.NoMemory) known (ap (λ world. world.terminals) left.rest)
    (host_refused m host_fault.NoMemory old.host new.host (host_restart_refused m.host old.host new.host host_fault.NoMemory (λ honest. known.usable) left.host))

-- what a call does: sound stores stay so, and report no damage
record SoundSince {C L I : Type 0} (m : Meanings C L I) (outcomes : List Outcome) (world : WorldOf C L I) : Type 0 where
  sound : HasSoundStores m world
  none : All ReportsNoDamage outcomes

pub leads_sound : {C L I : Type 0} (m : Meanings C L I) → WorldLaws m.cell → AnswerLaws → (old new : WorldOf C L I) (outcomes : List Outcome) → Reached m old → HasSoundStores m old → CallLeads m old outcomes new
    → HasSoundStores m new × All ReportsNoDamage outcomes
leads_sound m laws answer old new outcomes reached sound leads =
    let since = leads_all m (SoundSince m)
    (λ outcomes before after event outcome reached since step.
    let facts = step_facts m before event outcome after (reached_stores m laws answer before reached) step in
    record { sound = facts.sound since.sound; none = All-push ReportsNoDamage outcomes outcome since.none (facts.damaged since.sound) })
    (λ outcomes before after reached since left. record { sound = (left_facts m before after (reached_stores m laws answer before reached) left).sound since.sound; none = since.none })
    old new outcomes reached (record { sound = sound; none = All-nil ReportsNoDamage }) leads in
    (since.sound, since.none)

-- whether an end is this one
same_end : (one other : End) → (one ≡ other) ⊎ (one ≢ other)
same_end ends.Host ends.Host = inl refl
same_end (ends.Term t) (ends.Term u) = elim (eqb_tells t u) [
  | inl same ↦ inl (ap ends.Term same.1)
  | inr apart ↦ inr (λ same. apart.1 cc)
]
same_end _ _ = inr (λ same. cc)

-- whether an outcome says that the store of an end was armed
reports_arming : (end : End) (outcome : Outcome) → ReportsArming end outcome ⊎ ¬ ReportsArming end outcome
reports_arming end (came.Armed armed steps) = same_end armed end
reports_arming end _ = inr (λ reports. reports)

-- what a call does: a calm store stays so until it is armed, and reports no failed device step before
pub leads_calm : {C L I : Type 0} (m : Meanings C L I) → WorldLaws m.cell → AnswerLaws → (end : End) (old new : WorldOf C L I) (outcomes : List Outcome) → Reached m old → IsCalmAt m old end → CallLeads m old outcomes new
    → StaysCalm m end new outcomes × FailsOnceArmed end outcomes
leads_calm m laws answer end old new outcomes reached calm leads =
    let fails = λ (outcome : Outcome). ReportsFault outcome end Device in
    leads_all m (λ outcomes world. CalmSince (ReportsArming end) fails (IsCalmAt m world end) outcomes)
    (λ outcomes before after event outcome reached since step.
    let facts = step_facts m before event outcome after (reached_stores m laws answer before reached) step in
    calm_more (ReportsArming end) fails (IsCalmAt m before end) (IsCalmAt m after end) outcomes outcome (reports_arming end outcome) (facts.device end) (facts.calm end) since)
    (λ outcomes before after reached since left.
    let facts = left_facts m before after (reached_stores m laws answer before reached) left in
    calm_left (ReportsArming end) fails (IsCalmAt m before end) (IsCalmAt m after end) outcomes (λ still. facts.calm end still (λ reports. reports)) since)
    old new outcomes reached (calm_first (ReportsArming end) fails (IsCalmAt m old end) calm) leads
