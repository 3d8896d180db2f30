-- What a move of a world changes.
use Rattle.std.proofs.Common.{◌≡◌, ℕ, List, inl, inr, refl, sym, ap, subst, ◌∙◌, arith}
use Rattle.duk_frame.specs.declared.code.Code.{Code}
use Rattle.duk_host.specs.Handle.{HandleRefused}
use Rattle.duk_host.specs.Host.{HostOf}
use Rattle.duk_host.specs.Restart.{IsHostRestarted, HostRestartRefused}
use Rattle.duk_host.specs.declared.fault.HostFault.{HostFault}
use Rattle.duk_host.specs.declared.fault.HostFault.TheVariants as host_fault
use Rattle.duk_store.specs.Cell.{CellMeaning}
use Rattle.duk_term.specs.Load.{Loading}
use Rattle.duk_term.specs.Terminal.{TerminalOf}
use Rattle.duk_term.specs.declared.answer.Answer.TheVariants as answer
use Rattle.duk_term.specs.declared.purchase.Purchase.{Purchase}
use Rattle.duk_tree.specs.Serial.{Serial}
use Rattle.duk_stations.specs.inner.Moves.{Goes, is_armed, reopens}
use Rattle.duk_stations.proofs.PlacesInLists.{changes_as, goes_nowhere as list_goes_nowhere}
use Rattle.duk_stations.proofs.Terminals.{begin_goes, restart_goes}
use Rattle.duk_net.specs.Arm.{ArmsHost, ArmsLog, ArmsTerminal}
use Rattle.duk_net.specs.Begin.{Begins, IsSent}
use Rattle.duk_net.specs.Down.{ReportsAnswerOf, TakesAnswer}
use Rattle.duk_net.specs.Load.{IsGiven, TakesLoad}
use Rattle.duk_net.specs.Restart.{IsHostLeft, RestartsHost, TakesRestart}
use Rattle.duk_net.specs.Step.{Step}
use Rattle.duk_net.specs.Up.{UpAccepted, UpRefused, UpRepeated, ReachesHost}
use Rattle.duk_net.specs.World.{Frame, Meanings, ChangesTerminal, WorldOf}
use Rattle.duk_stations.specs.Places.{IsAt}
use Rattle.duk_net.specs.declared.event.End.TheVariants as end
use Rattle.duk_net.specs.declared.event.Event.{Event}
use Rattle.duk_net.specs.declared.event.Event.TheVariants as event
use Rattle.duk_net.specs.declared.outcome.Outcome.{Outcome}
use Rattle.duk_net.specs.declared.outcome.Outcome.TheVariants as came

-- an outcome that sends no frame and completes nothing
abbrev pub IsQuiet : Outcome → Type 0
IsQuiet (came.Sent t k ksn) = ⊥
IsQuiet (came.Accepted k ksn code) = ⊥
IsQuiet (came.Repeated k ksn code) = ⊥
IsQuiet (came.Refused k ksn reason) = ⊥
IsQuiet (came.Done t ksn code) = ⊥
IsQuiet _ = Unit {0}

-- what else may happen to the host: no answer, a restart, or arming
pub data TouchesHost {C L I : Type 0} (m : Meanings C L I) (before after : HostOf L I) : Type 0 where
  no_answer : (bytes : List ℕ) (why : HostFault) → HandleRefused m.host bytes before after why → TouchesHost m before after
  host_restarted : (found : ℕ) → IsHostRestarted m.host.log before after found → TouchesHost m before after
  host_restart_refused : (why : HostFault) → HostRestartRefused m.host.log before after why → TouchesHost m before after
  host_armed : (steps : ℕ) → ArmsLog m steps before after → TouchesHost m before after

-- what a step is, by what it changes
pub data View {C L I : Type 0} (m : Meanings C L I) (old : WorldOf C L I) (outcome : Outcome) (new : WorldOf C L I) : Type 0 where
  nothing : new ≡ old → IsQuiet outcome → View m old outcome new
  load : (t iksn : ℕ) → IsGiven m old t iksn outcome new → IsQuiet outcome → View m old outcome new
  send : (t k : ℕ) (purchase : Purchase) (ksn : Serial) → outcome ≡ came.Sent t k ksn → IsSent m old t purchase k ksn new → View m old outcome new
  terminal : (t : ℕ) → ChangesTerminal t (Goes m.cell) old new → IsQuiet outcome → View m old outcome new
  accept : (k n : ℕ) (ksn : Serial) (code : Code) → outcome ≡ came.Accepted n ksn code → UpAccepted m old k n ksn code new → View m old outcome new
  repeat : (k n : ℕ) (ksn : Serial) (code : Code) → outcome ≡ came.Repeated n ksn code → UpRepeated m old k n ksn code new → View m old outcome new
  refuse : (k n : ℕ) (ksn : Serial) (reason : ℕ) → outcome ≡ came.Refused n ksn reason → UpRefused m old k n ksn reason new → View m old outcome new
  done : (k t : ℕ) (frame : Frame) (ksn : Serial) (code : Code) → outcome ≡ came.Done t ksn code → IsAt old.answers k frame
      → ChangesTerminal t (ReportsAnswerOf frame ksn (answer.Done code)) old new → View m old outcome new
  host : TouchesHost m old.host new.host → new ≡ record old { host = new.host } → IsQuiet outcome → View m old outcome new

-- where the terminal stays as it was, so does the world
goes_nowhere : {C L I : Type 0} (t : ℕ) (P : TerminalOf C → TerminalOf C → Type 0) (old new : WorldOf C L I) (change : ChangesTerminal t P old new) → change.terminal.after ≡ change.terminal.before → new ≡ old
goes_nowhere t P old new change same = change.rest ∙ ap (λ terminals. record old { terminals = terminals }) (list_goes_nowhere t P old.terminals new.terminals change.terminal same)

-- a terminal goes on, and nothing else happens
moves_on : {C L I : Type 0} (m : Meanings C L I) (t : ℕ) (P : TerminalOf C → TerminalOf C → Type 0) (outcome : Outcome) (old new : WorldOf C L I) (change : ChangesTerminal t P old new) → Goes m.cell change.terminal.before change.terminal.after → IsQuiet outcome → View m old outcome new
moves_on m t P outcome old new change moves quiet = terminal t (record { terminal = changes_as t P old.terminals new.terminals change.terminal (Goes m.cell) (λ is. moves); rest = change.rest }) quiet

quiet_as : (outcome other : Outcome) → outcome ≡ other → IsQuiet other → IsQuiet outcome
quiet_as outcome other is quiet = subst IsQuiet (sym is) quiet

-- a load is reported by a quiet outcome
quiet_load : {C : Type 0} (meaning : CellMeaning C) (t : ℕ) (asked : Loading) (outcome : Outcome) (before after : TerminalOf C) → TakesLoad meaning t asked outcome before after → IsQuiet outcome
quiet_load meaning at asked (came.Sent t k ksn) before after takes = absurd takes
quiet_load meaning at asked (came.Accepted k ksn code) before after takes = absurd takes
quiet_load meaning at asked (came.Repeated k ksn code) before after takes = absurd takes
quiet_load meaning at asked (came.Refused k ksn reason) before after takes = absurd takes
quiet_load meaning at asked (came.Done t ksn code) before after takes = absurd takes
quiet_load meaning at asked _ before after takes = tt

begin_view : {C L I : Type 0} (m : Meanings C L I) (old : WorldOf C L I) (t : ℕ) (purchase : Purchase) (outcome : Outcome) (new : WorldOf C L I) → Begins m old t purchase outcome new → View m old outcome new
begin_view m old at purchase (came.Sent u k ksn) new begins = send at k purchase ksn (ap (λ n. came.Sent n k ksn) begins.0) begins.1
begin_view m old at purchase (came.TermFaulted t why) new begins = let acts = begins.1.terminal in moves_on m at _ (came.TermFaulted t why) old new begins.1 (begin_goes m.cell acts.before acts.after why acts.changed) tt
begin_view m old at purchase came.NoSuchTerminal new begins = nothing begins.1 tt
begin_view m old at purchase _ new begins = absurd begins

up_view : {C L I : Type 0} (m : Meanings C L I) (old : WorldOf C L I) (k : ℕ) (outcome : Outcome) (new : WorldOf C L I) → ReachesHost m old k outcome new → View m old outcome new
up_view m old which (came.Accepted n ksn code) new ups = accept which n ksn code refl ups
up_view m old which (came.Repeated n ksn code) new ups = repeat which n ksn code refl ups
up_view m old which (came.Refused n ksn reason) new ups = refuse which n ksn reason refl ups
up_view m old which (came.HostFaulted why) new ups = host (no_answer _ why ups.faulted) ups.rest tt
up_view m old which came.NoSuchFrame new ups = nothing ups.1 tt
up_view m old which _ new ups = absurd ups

-- what a terminal makes of an answer changes it only where it is done
down_view : {C L I : Type 0} (m : Meanings C L I) (old : WorldOf C L I) (k t : ℕ) (outcome : Outcome) (new : WorldOf C L I) (frame : Frame) → IsAt old.answers k frame → ChangesTerminal t (TakesAnswer t frame outcome) old new → View m old outcome new
down_view m old which at (came.Done u ksn code) new frame sent change = done which at frame ksn code (ap (λ n. came.Done n ksn code) change.terminal.changed.0) sent (record { terminal = changes_as at _ old.terminals new.terminals change.terminal (ReportsAnswerOf frame ksn (answer.Done code)) (λ takes. takes.1); rest = change.rest })
down_view m old which at (came.GotRefusal t ksn reason) new frame sent change = nothing (goes_nowhere at _ old new change change.terminal.changed.1.after_is) tt
down_view m old which at (came.TermFaulted t why) new frame sent change = nothing (goes_nowhere at _ old new change change.terminal.changed.2) tt
down_view m old which at _ new frame sent change = absurd change.terminal.changed

restart_move : {C : Type 0} (cell : CellMeaning C) (t : ℕ) (outcome : Outcome) (before after : TerminalOf C) → TakesRestart cell t outcome before after → IsQuiet outcome × Goes cell before after
restart_move cell at (came.TermNext t next) before after takes = (tt, reopens takes.1.restarted)
restart_move cell at (came.TermFaulted t why) before after takes = (tt, restart_goes cell before after why takes.1)
restart_move cell at _ before after takes = absurd takes

restart_host_view : {C L I : Type 0} (m : Meanings C L I) (old : WorldOf C L I) (outcome : Outcome) (new : WorldOf C L I) → RestartsHost m old outcome new → View m old outcome new
restart_host_view m old (came.HostUsed n) new restarts = host (host_restarted n restarts.host) restarts.rest tt
restart_host_view m old (came.HostFaulted why) new restarts = host (host_restart_refused why restarts.host) restarts.rest tt
restart_host_view m old _ new restarts = absurd restarts

arm_host_view : {C L I : Type 0} (m : Meanings C L I) (old : WorldOf C L I) (steps : ℕ) (outcome : Outcome) (new : WorldOf C L I) → ArmsHost m old steps outcome new → View m old outcome new
arm_host_view m old steps (came.Armed which passed) new arms = host (host_armed steps arms.2) arms.3 tt
arm_host_view m old steps _ new arms = absurd arms

arm_term_view : {C L I : Type 0} (m : Meanings C L I) (old : WorldOf C L I) (t steps : ℕ) (outcome : Outcome) (new : WorldOf C L I) → ArmsTerminal m old t steps outcome new → View m old outcome new
arm_term_view m old at steps (came.Armed which passed) new arms = let is = arms.2.terminal.changed in moves_on m at _ (came.Armed which passed) old new arms.2 (is_armed is.stays is.state) tt
arm_term_view m old at steps came.NoSuchTerminal new arms = nothing arms.1 tt
arm_term_view m old at steps _ new arms = absurd arms

-- each step is one of these
pub step_view : {C L I : Type 0} (m : Meanings C L I) (old : WorldOf C L I) (event : Event) (outcome : Outcome) (new : WorldOf C L I) → Step m old event outcome new → View m old outcome new
step_view m old (event.Load t iksn) outcome new step = elim step [
  | inl none ↦ nothing none.same (quiet_as outcome _ none.outcome_is tt)
  | inr there ↦ elim there [
    | inl other ↦ nothing other.same (quiet_as outcome _ other.outcome_is tt)
    | inr free ↦ elim free [
      | inl no_keys ↦ nothing no_keys.same (quiet_as outcome _ no_keys.outcome_is tt)
      | inr given ↦ load t iksn given (quiet_load m.cell t given.asked outcome given.terminal.before given.terminal.after given.terminal.changed)
    ]
  ]
]
step_view m old (event.Begin t purchase) outcome new step = begin_view m old t purchase outcome new step
step_view m old (event.Up k) outcome new step = up_view m old k outcome new step
step_view m old (event.Down k t) outcome new step = elim step [
  | inl none ↦ nothing none.same (quiet_as outcome _ none.outcome_is tt)
  | inr there ↦ elim there [
    | inl missing ↦ nothing missing.same (quiet_as outcome _ missing.outcome_is tt)
    | inr delivered ↦ down_view m old k t outcome new delivered.frame delivered.sent delivered.change
  ]
]
step_view m old (event.RestartTerm t) outcome new step = elim step [
  | inl none ↦ nothing none.same (quiet_as outcome _ none.outcome_is tt)
  | inr change ↦
      let acts = change.terminal in
      let moves = restart_move m.cell t outcome acts.before acts.after acts.changed in
      moves_on m t _ outcome old new change moves.1 moves.0
]
step_view m old event.RestartHost outcome new step = restart_host_view m old outcome new step
step_view m old (event.Arm end.Host steps) outcome new step = arm_host_view m old steps outcome new step
step_view m old (event.Arm (end.Term t) steps) outcome new step = arm_term_view m old t steps outcome new step

-- the host's restart that is refused memory touches the host alone
pub left_touches : {C L I : Type 0} (m : Meanings C L I) (old new : WorldOf C L I) → IsHostLeft m old new → TouchesHost m old.host new.host
left_touches m old new left = host_restart_refused host_fault.NoMemory left.host

-- whatever happens to the host, its keys stay
pub touched_keys : {C L I : Type 0} (m : Meanings C L I) (before after : HostOf L I) → TouchesHost m before after → after.keys ≡ before.keys
touched_keys m before after touches = grind arith
