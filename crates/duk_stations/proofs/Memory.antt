-- What a station waits for: as it goes on, for what it waited for, or for nothing.
use Rattle.std.proofs.Common.{◌≡◌, ◌⊎◌, Some, None, inl, inr, refl, sym, ap, subst}
use Rattle.duk_regs.specs.Registers.{RegisterSet}
use Rattle.duk_store.specs.Cell.{CellMeaning, Kept}
use Rattle.duk_term.specs.Body.{set_of_body}
use Rattle.duk_term.specs.Load.{Loading}
use Rattle.duk_term.specs.Reply.{IsIdle, completed}
use Rattle.duk_term.specs.Restart.{Opens}
use Rattle.duk_term.specs.Terminal.{TerminalOf}
use Rattle.duk_term.specs.declared.state.State.{State}
use Rattle.duk_term.specs.declared.state.State.TheVariants.{Stopped, Empty, Loaded}
use Rattle.duk_stations.specs.inner.Moves.{Goes, GoesLoaded, is_armed, loading_stops, is_loaded, not_loaded, reopening_stops, reopens, unmoved, stops_short, waits_no_more}

pub stopped_is_idle : (state : State) → state ≡ Stopped → IsIdle state
stopped_is_idle state is pending (set, waits) = absurd (cc)

empty_is_idle : (state : State) → state ≡ Empty → IsIdle state
empty_is_idle state is pending (set, waits) = absurd (cc)

pub loaded_is_idle : (state : State) (held : RegisterSet) → state ≡ Loaded held None → IsIdle state
loaded_is_idle state held is pending (set, waits) = absurd (cc)

pub completed_is_idle : (state : State) → IsIdle (completed state)
completed_is_idle Stopped = stopped_is_idle Stopped refl
completed_is_idle Empty = empty_is_idle Empty refl
completed_is_idle (Loaded set pending) = loaded_is_idle (Loaded set None) set refl

pub opened_is_idle : (kept : Kept) (state : State) → Opens kept state → IsIdle state
opened_is_idle None state opens = empty_is_idle state opens
opened_is_idle (Some body) state opens = loaded_is_idle state (set_of_body body) opens.1

-- a station waits for what it waited for, or for nothing
abbrev pub Subsides : State → State → Type 0
Subsides old new = (new ≡ old) ⊎ IsIdle new

module _ {C : Type 0} (cell : CellMeaning C) (old new : TerminalOf C) where
  pub goes_subsides : Goes cell old new → Subsides old.state new.state
  goes_subsides (unmoved is) = inl (ap (λ (it : TerminalOf C). it.state) is)
  goes_subsides (stops_short why is) = inr (stopped_is_idle new.state is.stops.stopped)
  goes_subsides (reopens is) = inr (opened_is_idle is.kept new.state is.opens)
  goes_subsides (reopening_stops why is) = inr (stopped_is_idle new.state is.stopped)
  goes_subsides (waits_no_more is) = inr (subst IsIdle (sym (ap (λ (it : TerminalOf C). it.state) is)) (completed_is_idle old.state))
  goes_subsides (is_armed stays state) = inl state

  pub load_subsides : (owned : Type 0) (asked : Loading) → GoesLoaded cell owned asked old new → Subsides old.state new.state
  load_subsides owned asked (not_loaded is) = inl (ap (λ (it : TerminalOf C). it.state) is)
  load_subsides owned asked (is_loaded owns is) = inr (loaded_is_idle new.state is.set is.state_is)
  load_subsides owned asked (loading_stops why owns is) = inr (stopped_is_idle new.state is.stops.stopped)
