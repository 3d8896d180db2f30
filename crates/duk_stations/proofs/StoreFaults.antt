-- What the calls of a store and of a terminal leave of a store's soundness and calm, and which faults
-- it may then report.
use Rattle.std.proofs.Common.{◌≡◌, ◌≢◌, ◌⊎◌, ℕ, List, Some, inl, inr, refl, subst, sym}
use Rattle.duk_store.specs.Cell.{CellMeaning, PutFailed}
use Rattle.duk_store.specs.Restart.{IsRestartFault, RestartFailed}
use Rattle.duk_store.specs.StoreState.{PreservesNature, StoreState}
use Rattle.duk_store.specs.declared.fault.StoreFault.{StoreFault}
use Rattle.duk_store.specs.declared.fault.StoreFault.TheVariants.{Damaged, Device, Stopped, Worn}
use Rattle.duk_term.specs.Begin.{BeginRefused}
use Rattle.duk_term.specs.Body.{IsTerminalBody}
use Rattle.duk_term.specs.Load.{LoadRefused, Loading}
use Rattle.duk_term.specs.Reply.{ReplyRefused}
use Rattle.duk_term.specs.Restart.{TerminalRestartRefused}
use Rattle.duk_term.specs.Reversal.{ReversalRefused, ReversalReplyRefused}
use Rattle.duk_term.specs.Terminal.{TerminalOf}
use Rattle.duk_term.specs.declared.fault.TermFault.{TermFault}
use Rattle.duk_term.specs.declared.fault.TermFault.TheVariants as term_fault
use Rattle.duk_term.specs.declared.state.State.{State}
use Rattle.duk_tree.specs.Serial.{Serial}
use Rattle.duk_stations.specs.Calm.{IsCellFault}

-- what a store keeps of its nature where nothing arms it
pub record PreservesCalm {V : Type 0} (old new : StoreState V) : Type 0 where
  pub sound : old.honest → old.sound → new.sound
  pub calm : old.calm → new.calm

-- a store whose nature stays
pub nature_kept : {V : Type 0} (old new : StoreState V) → PreservesNature old new → PreservesCalm old new
nature_kept old new nature = record { sound = nature.sound; calm = nature.calm }

-- a store that stays as it is
pub same_kept : {V : Type 0} (store : StoreState V) → PreservesCalm store store
same_kept store = record { sound = λ honest sound. sound; calm = λ calm. calm }

-- what is reported of a store: of a calm one not that a device step failed, and of an honest and
-- sound one no damage
pub record Spares {V : Type 0} (store : StoreState V) (reported : StoreFault → Type 0) : Type 0 where
  pub device : store.calm → ¬ reported Device
  pub damaged : store.honest → store.sound → ¬ reported Damaged

-- nothing is reported of it
pub none_reported : {V : Type 0} (store : StoreState V) (reported : StoreFault → Type 0) → ((fault : StoreFault) → ¬ reported fault) → Spares store reported
none_reported store reported none = record { device = λ calm. none Device; damaged = λ honest sound. none Damaged }

-- that one fault is reported
abbrev pub IsFault : StoreFault → StoreFault → Type 0
IsFault why fault = why ≡ fault

-- a fault is another than these two
pub is_neither : {V : Type 0} (store : StoreState V) (why : StoreFault) → why ≢ Device → why ≢ Damaged → Spares store (IsFault why)
is_neither store why device damaged = record { device = λ calm. device; damaged = λ honest sound. damaged }

-- a device step failed, which none of a calm store does
pub device_spared : {V : Type 0} (store : StoreState V) → ¬ store.calm → Spares store (IsFault Device)
device_spared store never = record { device = λ calm same. never calm; damaged = λ honest sound same. cc }

-- damage is found, which is none of an honest and sound store
damage_spared : {V : Type 0} (store : StoreState V) → (store.honest → ¬ store.sound) → Spares store (IsFault Damaged)
damage_spared store never = record { device = λ calm same. cc; damaged = λ honest sound same. never honest sound }

-- a call of a store that failed: it keeps its nature, and is spared the fault
pub record FailsSpared {V : Type 0} (old new : StoreState V) (why : StoreFault) : Type 0 where
  pub keeps : PreservesCalm old new
  pub spares : Spares old (IsFault why)

-- a write that failed
pub put_failed : {C : Type 0} (cell : CellMeaning C) (old new : C) (body : List ℕ) (why : StoreFault) → PutFailed cell old new body why → FailsSpared (cell.state_of old) (cell.state_of new) why
put_failed cell old new body Device failed = record {
  keeps = nature_kept (cell.state_of old) (cell.state_of new) failed.stops.nature;
  spares = device_spared (cell.state_of old) (λ calm. failed.failure (failed.stops.quiet calm));
}
put_failed cell old new body Stopped failed = record {
  keeps = nature_kept (cell.state_of old) (cell.state_of new) failed.stays.nature;
  spares = is_neither (cell.state_of old) Stopped (λ same. cc) (λ same. cc);
}
put_failed cell old new body Worn failed = record {
  keeps = nature_kept (cell.state_of old) (cell.state_of new) failed.stays.nature;
  spares = is_neither (cell.state_of old) Worn (λ same. cc) (λ same. cc);
}
put_failed cell old new body _ failed = absurd failed

-- a restart that failed
pub restart_failed : {V : Type 0} (old new : StoreState V) (why : StoreFault) → RestartFailed old new why → FailsSpared old new why
restart_failed old new Device failed = record {
  keeps = nature_kept old new failed.stops.nature;
  spares = device_spared old (λ calm. failed.fault_is (failed.stops.quiet calm));
}
restart_failed old new Damaged failed = record { keeps = nature_kept old new failed.stops.nature; spares = damage_spared old failed.fault_is.unsound }
restart_failed old new _ failed = absurd failed.fault_is

-- a restart that found what an honest and sound store does not find, and says that it is damaged
pub found_wrong : {V : Type 0} (old new : StoreState V) (why : StoreFault) → why ≡ Damaged → PreservesNature old new → (old.honest → ¬ old.sound) → FailsSpared old new why
found_wrong old new why damaged nature never = record {
  keeps = nature_kept old new nature;
  spares = subst (λ (it : StoreFault). Spares old (IsFault it)) (sym damaged) (damage_spared old never);
}

-- ---- the cell of a terminal

-- what a terminal's refusal leaves of its cell's nature, and which faults of its cell it reports
pub record RefusesTerminal {C : Type 0} (cell : CellMeaning C) (before after : TerminalOf C) (why : TermFault) : Type 0 where
  pub keeps : PreservesCalm (cell.state_of before.cell) (cell.state_of after.cell)
  pub spares : Spares (cell.state_of before.cell) (λ reported. IsCellFault why reported)

-- the cell's fault is reported
cell_refuses : {C : Type 0} (cell : CellMeaning C) (before after : TerminalOf C) (why : StoreFault) → FailsSpared (cell.state_of before.cell) (cell.state_of after.cell) why
    → RefusesTerminal cell before after (term_fault.Store why)
cell_refuses cell before after why fails = record { keeps = fails.keeps; spares = fails.spares }

-- nothing changes, and the cell has no fault
pub same_terminal : {C : Type 0} (cell : CellMeaning C) (before after : TerminalOf C) (why : TermFault) → after ≡ before → ((reported : StoreFault) → ¬ IsCellFault why reported) → RefusesTerminal cell before after why
same_terminal cell before after why same none =
    record { keeps = rw same (same_kept (cell.state_of before.cell)); spares = none_reported (cell.state_of before.cell) (λ reported. IsCellFault why reported) none }

pub terminal_load_refused : {C : Type 0} (cell : CellMeaning C) (asked : Loading) (before after : TerminalOf C) (why : TermFault) → LoadRefused cell asked before after why → RefusesTerminal cell before after why
terminal_load_refused cell asked before after term_fault.Stopped refused = same_terminal cell before after term_fault.Stopped refused.1 (λ reported is. is)
terminal_load_refused cell asked before after term_fault.IksnSpent refused = same_terminal cell before after term_fault.IksnSpent refused.1 (λ reported is. is)
terminal_load_refused cell asked before after term_fault.LoadsSpent refused = same_terminal cell before after term_fault.LoadsSpent refused.2 (λ reported is. is)
terminal_load_refused cell asked before after (term_fault.Block block) refused = same_terminal cell before after (term_fault.Block block) refused.2 (λ reported is. is)
terminal_load_refused cell asked before after term_fault.WrongUse refused = same_terminal cell before after term_fault.WrongUse refused.2 (λ reported is. is)
terminal_load_refused cell asked before after (term_fault.Store why) refused = cell_refuses cell before after why (put_failed cell before.cell after.cell _ why refused.stops.not_kept)
terminal_load_refused cell asked before after _ refused = absurd refused

pub terminal_begin_refused : {C : Type 0} (cell : CellMeaning C) (before after : TerminalOf C) (why : TermFault) → BeginRefused cell before after why → RefusesTerminal cell before after why
terminal_begin_refused cell before after term_fault.Stopped refused = same_terminal cell before after term_fault.Stopped refused.1 (λ reported is. is)
terminal_begin_refused cell before after term_fault.NotLoaded refused = same_terminal cell before after term_fault.NotLoaded refused.1 (λ reported is. is)
terminal_begin_refused cell before after term_fault.Spent refused = same_terminal cell before after term_fault.Spent refused.1 (λ reported is. is)
terminal_begin_refused cell before after (term_fault.Store why) refused = cell_refuses cell before after why (put_failed cell before.cell after.cell _ why refused.stops.not_kept)
terminal_begin_refused cell before after _ refused = absurd refused

pub terminal_reversal_refused : {C : Type 0} (cell : CellMeaning C) (reversed : Serial) (before after : TerminalOf C) (why : TermFault) → ReversalRefused cell reversed before after why → RefusesTerminal cell before after why
terminal_reversal_refused cell reversed before after term_fault.Stopped refused = same_terminal cell before after term_fault.Stopped refused.1 (λ reported is. is)
terminal_reversal_refused cell reversed before after term_fault.NotLoaded refused = same_terminal cell before after term_fault.NotLoaded refused.1 (λ reported is. is)
terminal_reversal_refused cell reversed before after term_fault.Spent refused = same_terminal cell before after term_fault.Spent refused.1 (λ reported is. is)
terminal_reversal_refused cell reversed before after term_fault.NotMine refused = same_terminal cell before after term_fault.NotMine refused.1 (λ reported is. is)
terminal_reversal_refused cell reversed before after (term_fault.Store why) refused = cell_refuses cell before after why (put_failed cell before.cell after.cell _ why refused.stopped.stops.not_kept)
terminal_reversal_refused cell reversed before after _ refused = absurd refused

-- bytes that are refused have no fault of the cell
pub no_reply_fault : (state : State) (bytes : List ℕ) (why : TermFault) (reported : StoreFault) → ReplyRefused state bytes why → ¬ IsCellFault why reported
no_reply_fault state bytes (term_fault.Store why) reported refused is = absurd refused
no_reply_fault state bytes _ reported refused is = is

pub no_reversal_fault : (state : State) (reversed : Serial) (bytes : List ℕ) (why : TermFault) (reported : StoreFault) → ReversalReplyRefused state reversed bytes why → ¬ IsCellFault why reported
no_reversal_fault state reversed bytes (term_fault.Store why) reported refused is = absurd refused
no_reversal_fault state reversed bytes _ reported refused is = is

-- another fault than the cell's
pub no_cell_fault : (why other : TermFault) → why ≡ other → ((reported : StoreFault) → ¬ IsCellFault other reported) → (reported : StoreFault) → ¬ IsCellFault why reported
no_cell_fault why other same none = rw same none

-- a cell finds no bytes but bodies of a terminal
abbrev pub FindsBodies : {C : Type 0} → CellMeaning C → C → Type 0
FindsBodies cell at = (bytes : List ℕ) → (cell.state_of at).found (Some bytes) → IsTerminalBody bytes

pub terminal_restart_refused : {C : Type 0} (cell : CellMeaning C) (before after : TerminalOf C) (why : TermFault) → FindsBodies cell before.cell → TerminalRestartRefused cell before after why → RefusesTerminal cell before after why
terminal_restart_refused cell before after (term_fault.Store why) bodies refused = cell_refuses cell before after why (elim refused.cause [
  | inl failed ↦ restart_failed (cell.state_of before.cell) (cell.state_of after.cell) why failed
  | inr (damaged, none) ↦ found_wrong (cell.state_of before.cell) (cell.state_of after.cell) why damaged none.cell.settles.nature
      (λ honest sound. none.no_body (bodies none.bytes (none.cell.was_found honest)))
])
terminal_restart_refused cell before after _ bodies refused = absurd refused

-- the fault of a store's restart is one of two
pub two_faults : {V : Type 0} (old new : StoreState V) (why : StoreFault) → IsRestartFault old new why → (why ≡ Device) ⊎ (why ≡ Damaged)
two_faults old new Device is = inl refl
two_faults old new Damaged is = inr refl
two_faults old new _ is = absurd is

-- so is that of a terminal's restart
pub restart_reports : {C : Type 0} (cell : CellMeaning C) (before after : TerminalOf C) (why : TermFault) → TerminalRestartRefused cell before after why → IsCellFault why Device ⊎ IsCellFault why Damaged
restart_reports cell before after (term_fault.Store why) refused = elim refused.cause [
  | inl failed ↦ two_faults (cell.state_of before.cell) (cell.state_of after.cell) why failed.fault_is
  | inr (damaged, none) ↦ inr damaged
]
restart_reports cell before after _ refused = absurd refused
