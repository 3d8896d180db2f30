-- What holds of the registers of a station, and of each image that its cell may find.
use Rattle.std.proofs.Common.{◌≡◌, ◌⊎◌, inl, inr, ℕ, List, Option, Some, None, ap, refl, subst, sym}
use Rattle.duk_regs.specs.Registers.{RegisterSet}
use Rattle.duk_store.specs.Cell.{CellMeaning, IsPut, Kept, PutFailed}
use Rattle.duk_store.specs.Restart.{Restarted}
use Rattle.duk_store.specs.declared.fault.StoreFault.{StoreFault}
use Rattle.duk_store.specs.declared.fault.StoreFault.TheVariants as store_fault
use Rattle.duk_term.specs.Begin.{BeginRefused, IsBegun, TakesNumber}
use Rattle.duk_term.specs.Body.{IsFoundAgain, body_bytes, set_of_body}
use Rattle.duk_term.specs.Load.{IsFirstSet, LoadRefused, Loading, MayTake}
use Rattle.duk_term.specs.Reply.{completed}
use Rattle.duk_term.specs.Restart.{Opens, TerminalRestartRefused}
use Rattle.duk_term.specs.Reversal.{IsReversalBegun, ReversalRefused}
use Rattle.duk_term.specs.Terminal.{TerminalOf}
use Rattle.duk_term.specs.declared.fault.TermFault.{TermFault}
use Rattle.duk_term.specs.declared.fault.TermFault.TheVariants as term_fault
use Rattle.duk_term.specs.declared.purchase.Purchase.{Purchase}
use Rattle.duk_term.specs.declared.state.Pending.{Pending}
use Rattle.duk_term.specs.declared.state.State.{State}
use Rattle.duk_term.specs.declared.state.State.TheVariants.{Stopped, Empty, Loaded}
use Rattle.duk_tree.specs.Serial.{Serial}
use Rattle.duk_stations.specs.inner.Moves.{Goes, GoesLoaded, GoesOn, TakesNext, is_armed, loading_stops, is_loaded, not_loaded, reopening_stops, reopens, unmoved, stops_short, waits_no_more}
use Rattle.duk_stations.specs.Registers.{RegisterLaws}

-- ---- a write that failed

-- after it a restart finds what it would have found, or the new body
pub found_then : {J : Type 0} (meaning : CellMeaning J) (old new : J) (body : List ℕ) (why : StoreFault) → (meaning.state_of old).honest → PutFailed meaning old new body why
    → (kept : Kept) → (meaning.state_of new).found kept → (meaning.state_of old).found kept ⊎ (kept ≡ Some body)
found_then meaning old new body store_fault.Device honest failed kept found = failed.stops.within honest kept found
found_then meaning old new body store_fault.Stopped honest failed kept found = inl ((failed.stays.found honest kept).0 found)
found_then meaning old new body store_fault.Worn honest failed kept found = inl ((failed.stays.found honest kept).0 found)
found_then meaning old new body _ honest failed kept found = absurd failed

-- and the cell is as honest as it was
pub stays_honest : {J : Type 0} (meaning : CellMeaning J) (old new : J) (body : List ℕ) (why : StoreFault) → PutFailed meaning old new body why
    → (meaning.state_of old).honest → (meaning.state_of new).honest
stays_honest meaning old new body store_fault.Device failed honest = failed.stops.nature.honest.0 honest
stays_honest meaning old new body store_fault.Stopped failed honest = failed.stays.nature.honest.0 honest
stays_honest meaning old new body store_fault.Worn failed honest = failed.stays.nature.honest.0 honest
stays_honest meaning old new body _ failed honest = absurd failed

-- ---- the calls of a terminal are moves

module _ {C : Type 0} (cell : CellMeaning C) (old new : TerminalOf C) where
  abbrev pub request_takes : (purchase : Purchase) (frame : List ℕ) → IsBegun cell purchase old new frame → TakesNext cell old new
  request_takes purchase frame is = record { set = is.set; key = is.key; left = is.left; takes = is.takes; left_are = is.left_are; state_is = is.state_is; kept = is.kept }

  abbrev pub reversal_takes : (reversed ksn : Serial) (frame : List ℕ) → IsReversalBegun cell reversed ksn frame old new → TakesNext cell old new
  reversal_takes reversed ksn frame is = record { set = is.set; key = is.key; left = is.left; takes = is.takes; left_are = is.left_are; state_is = is.state_is; kept = is.kept }

  pub begin_goes : (why : TermFault) → BeginRefused cell old new why → Goes cell old new
  begin_goes term_fault.Stopped is = unmoved is.1
  begin_goes term_fault.NotLoaded is = unmoved is.1
  begin_goes term_fault.Spent is = unmoved is.1
  begin_goes (term_fault.Store why) is = stops_short why is
  begin_goes _ is = absurd is

  pub reversal_goes : (reversed : Serial) (why : TermFault) → ReversalRefused cell reversed old new why → Goes cell old new
  reversal_goes reversed term_fault.Stopped is = unmoved is.1
  reversal_goes reversed term_fault.NotLoaded is = unmoved is.1
  reversal_goes reversed term_fault.Spent is = unmoved is.1
  reversal_goes reversed term_fault.NotMine is = unmoved is.1
  reversal_goes reversed (term_fault.Store why) is = stops_short why is.stopped
  reversal_goes reversed _ is = absurd is

  pub restart_goes : (why : TermFault) → TerminalRestartRefused cell old new why → Goes cell old new
  restart_goes (term_fault.Store why) is = reopening_stops why is
  restart_goes _ is = absurd is

  pub load_goes : (owned : Type 0) (asked : Loading) (why : TermFault) → ((store : StoreFault) → why ≡ term_fault.Store store → owned) → LoadRefused cell asked old new why → GoesLoaded cell owned asked old new
  load_goes owned asked term_fault.Stopped owns is = not_loaded is.1
  load_goes owned asked term_fault.IksnSpent owns is = not_loaded is.1
  load_goes owned asked term_fault.LoadsSpent owns is = not_loaded is.2
  load_goes owned asked (term_fault.Block why) owns is = not_loaded is.2
  load_goes owned asked term_fault.WrongUse owns is = not_loaded is.2
  load_goes owned asked (term_fault.Store why) owns is = loading_stops why (owns why refl) is
  load_goes owned asked _ owns is = absurd is

-- ---- what holds of no registers, or of some

abbrev pub OfRegisters : Type 1
OfRegisters = Option RegisterSet → Type 0

abbrev pub StateHas : OfRegisters → State → Type 0
StateHas P Stopped = Unit {0}
StateHas P Empty = P None
StateHas P (Loaded set pending) = P (Some set)

-- a body is that of its registers, as they are kept now, and this holds of them
pub record BodyHas (P : OfRegisters) (body : List ℕ) : Type 0 where
  pub own : body ≡ body_bytes (set_of_body body)
  pub holds : P (Some (set_of_body body))

abbrev pub KeptHas : OfRegisters → Kept → Type 0
KeptHas P None = P None
KeptHas P (Some body) = BodyHas P body

pub record TerminalHas {C : Type 0} (cell : CellMeaning C) (P : OfRegisters) (terminal : TerminalOf C) : Type 0 where
  pub honest : (cell.state_of terminal.cell).honest
  pub state : StateHas P terminal.state
  pub kept : (kept : Kept) → (cell.state_of terminal.cell).found kept → KeptHas P kept

state_as : (P Q : OfRegisters) (it : State) → ((set : Option RegisterSet) → P set → Q set) → StateHas P it → StateHas Q it
state_as P Q Stopped follows has = tt
state_as P Q Empty follows has = follows None has
state_as P Q (Loaded set pending) follows has = follows (Some set) has

kept_as : (P Q : OfRegisters) (kept : Kept) → ((set : Option RegisterSet) → P set → Q set) → KeptHas P kept → KeptHas Q kept
kept_as P Q None follows has = follows None has
kept_as P Q (Some body) follows has = record { own = has.own; holds = follows (Some (set_of_body body)) has.holds }

-- what follows of all registers
pub terminal_as : {C : Type 0} (cell : CellMeaning C) (P Q : OfRegisters) (terminal : TerminalOf C) → ((set : Option RegisterSet) → P set → Q set) → TerminalHas cell P terminal → TerminalHas cell Q terminal
terminal_as cell P Q terminal follows has = record {
  honest = has.honest;
  state = state_as P Q terminal.state follows has.state;
  kept = λ kept found. kept_as P Q kept follows (has.kept kept found);
}

-- a new terminal over a cell in which nothing was ever kept
pub new_has : {C : Type 0} (cell : CellMeaning C) (P : OfRegisters) (terminal : TerminalOf C) → (cell.state_of terminal.cell).honest → ((kept : Kept) → (cell.state_of terminal.cell).found kept → kept ≡ None)
    → terminal.state ≡ Stopped → P None → TerminalHas cell P terminal
new_has cell P terminal honest nothing stopped has = record {
  honest = honest;
  state = subst (StateHas P) (sym stopped) tt;
  kept = λ kept found. subst (KeptHas P) (sym (nothing kept found)) has;
}

-- ---- it stays so

module _ {C : Type 0} (laws : RegisterLaws) (cell : CellMeaning C) (P Q : OfRegisters) where
  body_has : (set : RegisterSet) → IsFoundAgain set → Q (Some set) → KeptHas Q (Some (body_bytes set))
  body_has set again has =
      let is_same = sym (again.same (body_bytes set) (inl refl)) in
      record { own = ap body_bytes is_same; holds = subst (λ (it : RegisterSet). Q (Some it)) is_same has }

  is_put : (old new : TerminalOf C) (set : RegisterSet) (pending : Option Pending) → TerminalHas cell P old → IsPut cell old.cell new.cell (body_bytes set)
      → new.state ≡ Loaded set pending → IsFoundAgain set → Q (Some set) → TerminalHas cell Q new
  is_put old new set pending has put state again now = record {
    honest = put.settles.nature.honest.0 has.honest;
    state = subst (StateHas Q) (sym state) now;
    kept = λ kept found. subst (KeptHas Q) (sym ((put.settles.finds has.honest kept).0 found)) (body_has set again now);
  }

  is_not_put : (old new : TerminalOf C) (set : RegisterSet) (why : StoreFault) → TerminalHas cell P old → PutFailed cell old.cell new.cell (body_bytes set) why
      → new.state ≡ Stopped → IsFoundAgain set → ((it : Option RegisterSet) → P it → Q it) → Q (Some set) → TerminalHas cell Q new
  is_not_put old new set why has failed stopped again follows now = record {
    honest = stays_honest cell old.cell new.cell (body_bytes set) why failed has.honest;
    state = subst (StateHas Q) (sym stopped) tt;
    kept = λ kept found. elim (found_then cell old.cell new.cell (body_bytes set) why has.honest failed kept found) [
      | inl before ↦ kept_as P Q kept follows (has.kept kept before)
      | inr is_new ↦ subst (KeptHas Q) (sym is_new) (body_has set again now)
    ];
  }

  -- the next number is taken
  pub takes_has : (old new : TerminalOf C) → (is : TakesNext cell old new) → TerminalHas cell P old → (P (Some is.set) → Q (Some is.left)) → TerminalHas cell Q new
  takes_has old new is has now =
      is_put old new is.left _ has is.kept is.state_is (laws.left is.set is.left is.key is.takes.takes is.left_are) (now (subst (StateHas P) is.takes.had has.state))

module _ {C : Type 0} (laws : RegisterLaws) (cell : CellMeaning C) (P : OfRegisters) where
  -- as a number is taken
  abbrev pub Takes : Type 0
  Takes = (set left : RegisterSet) (key : List ℕ) → TakesNumber set key left → P (Some set) → P (Some left)

  -- as an initial key is loaded
  abbrev pub LoadsTo : Loading → Type 0
  LoadsTo asked = (it : State) (set : RegisterSet) → MayTake it asked.iksn → IsFirstSet asked it set → StateHas P it → P (Some set)

  as_it_was : (old new : TerminalOf C) → TerminalHas cell P old → new ≡ old → TerminalHas cell P new
  as_it_was old new has is = subst (TerminalHas cell P) (sym is) has

  opened : (kept : Kept) (it : State) → KeptHas P kept → Opens kept it → StateHas P it
  opened None it has opens = subst (StateHas P) (sym opens) has
  opened (Some body) it has opens = subst (StateHas P) (sym opens.1) has.holds

  -- a restart of the cell that found this
  restarted_has : (old new : TerminalOf C) (kept : Kept) → TerminalHas cell P old → Restarted (cell.state_of old.cell) (cell.state_of new.cell) kept → (KeptHas P kept → StateHas P new.state) → TerminalHas cell P new
  restarted_has old new kept has is opens =
      let found = has.kept kept (is.was_found has.honest) in
      record {
        honest = is.settles.nature.honest.0 has.honest;
        state = opens found;
        kept = λ other finds. subst (KeptHas P) (sym ((is.settles.finds has.honest other).0 finds)) found;
      }

  completed_has : (it : State) → StateHas P it → StateHas P (completed it)
  completed_has Stopped has = has
  completed_has Empty has = has
  completed_has (Loaded set pending) has = has

  -- however it goes on
  pub goes_has : (old new : TerminalOf C) → Takes → TerminalHas cell P old → Goes cell old new → TerminalHas cell P new
  goes_has old new on has (unmoved is) = as_it_was old new has is
  goes_has old new on has (stops_short why is) =
      is_not_put laws cell P P old new is.left why has is.stops.not_kept is.stops.stopped (laws.left is.set is.left is.key is.takes.takes is.left_are) (λ it holds. holds)
      (on is.set is.left is.key is.takes.takes (subst (StateHas P) is.takes.had has.state))
  goes_has old new on has (reopens is) = restarted_has old new is.kept has is.cell (λ found. opened is.kept new.state found is.opens)
  goes_has old new on has (reopening_stops why is) = elim is.cause [
    | inl failed ↦ record {
      honest = failed.stops.nature.honest.0 has.honest;
      state = subst (StateHas P) (sym is.stopped) tt;
      kept = λ kept found. has.kept kept (failed.stops.within has.honest kept found);
    }
    | inr damaged ↦ restarted_has old new (Some damaged.1.bytes) has damaged.1.cell (λ found. subst (StateHas P) (sym is.stopped) tt)
  ]
  goes_has old new on has (waits_no_more is) =
      subst (TerminalHas cell P) (sym is) (record { honest = has.honest; state = completed_has old.state has.state; kept = has.kept })
  goes_has old new on has (is_armed stays state) = record {
    honest = stays.honest.0 has.honest;
    state = subst (StateHas P) (sym state) has.state;
    kept = λ kept found. has.kept kept ((stays.found has.honest kept).0 found);
  }

  first_again : (it : State) (asked : Loading) (set : RegisterSet) → IsFirstSet asked it set → IsFoundAgain set
  first_again it asked set first =
      laws.of_key first.initial set (record { size_is = first.wrapped.use_is.length_is; bytes_fit = first.wrapped.wraps.block.key_is.bytes_fit }) first.set_is first.future_keys

  -- however it goes on, or takes its next number
  pub goes_on_has : (old new : TerminalOf C) → Takes → TerminalHas cell P old → GoesOn cell old new → TerminalHas cell P new
  goes_on_has old new on has (inl goes) = goes_has old new on has goes
  goes_on_has old new on has (inr next) = takes_has laws cell P P old new next has (on next.set next.left next.key next.takes.takes)

  -- whatever comes of a load
  pub load_has : (owned : Type 0) (asked : Loading) (old new : TerminalOf C) → (owned → LoadsTo asked) → TerminalHas cell P old → GoesLoaded cell owned asked old new → TerminalHas cell P new
  load_has owned asked old new loads has (not_loaded is) = as_it_was old new has is
  load_has owned asked old new loads has (is_loaded owns is) =
      is_put laws cell P P old new is.set None has is.kept is.state_is (first_again old.state asked is.set is.set_is) (loads owns old.state is.set is.may is.set_is has.state)
  load_has owned asked old new loads has (loading_stops why owns is) =
      is_not_put laws cell P P old new is.set why has is.stops.not_kept is.stops.stopped (first_again old.state asked is.set is.set_is) (λ it holds. holds) (loads owns old.state is.set is.may is.set_is has.state)
