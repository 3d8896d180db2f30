-- What a restart would find where an image was not kept.
use Rattle.std.proofs.Common.{◌≡◌, ◌≢◌, ◌⊎◌, ℕ, List, Some, None, Result, Ok, Err, IfOk, IfErr, inl, inr, refl, sym, subst}
use Rattle.duk_block.specs.KeyUse.{HasNoKeyFor, IsDoubleKeyFor}
use Rattle.duk_block.specs.declared.fault.KeyFault.{KeyFault}
use Rattle.duk_block.specs.declared.fault.KeyFault.TheVariants as key_fault
use Rattle.duk_block.specs.declared.key_use.KeyUse.TheVariants.{InitialKey}
use Rattle.duk_regs.specs.Registers.{HaveSixteenBytes, RegisterSet}
use Rattle.duk_store.specs.Cell.{CellMeaning, IsPut, Kept, PutFailed}
use Rattle.duk_store.specs.StoreState.{StoreState}
use Rattle.duk_store.specs.declared.fault.StoreFault.{StoreFault}
use Rattle.duk_store.specs.declared.fault.StoreFault.TheVariants as store_fault
use Rattle.duk_tree.specs.Serial.{Serial}
use Rattle.duk_term.specs.Begin.{BeginRefused, TakesFrom}
use Rattle.duk_term.specs.Body.{body_bytes}
use Rattle.duk_term.specs.Load.{IsFirstSet, IsTerminalLoaded, KeepsState, LoadRefused, Loading, MayTake}
use Rattle.duk_term.specs.Loading.{term_fault_of}
use Rattle.duk_term.specs.Reversal.{MayReverse, ReversalRefused}
use Rattle.duk_term.specs.Terminal.{HasRegistersIn, PromisesBody, TerminalOf}
use Rattle.duk_term.specs.inner.Terminal.{Agrees, CellHoldsRegisters, IsImageNotKept}
use Rattle.duk_term.specs.declared.fault.TermFault.{TermFault}
use Rattle.duk_term.specs.declared.fault.TermFault.TheVariants as fault
use Rattle.duk_term.specs.declared.state.State.{State}
use Rattle.duk_term.specs.declared.state.State.TheVariants.{Stopped, Empty, Loaded}

-- after a write that failed a restart finds what it would have found, or the new body
found_then : {C : Type 0} (meaning : CellMeaning C) (old new : C) (body : List ℕ) (why : StoreFault) → (meaning.state_of old).honest → PutFailed meaning old new body why
    → (kept : Kept) → (meaning.state_of new).found kept → (meaning.state_of old).found kept ⊎ (kept ≡ Some body)
found_then meaning old new body store_fault.Device honest failed kept found = failed.stops.within honest kept found
found_then meaning old new body store_fault.Stopped honest failed kept found = inl ((failed.stays.found honest kept).0 found)
found_then meaning old new body store_fault.Worn honest failed kept found = inl ((failed.stays.found honest kept).0 found)
found_then meaning old new body _ honest failed kept found = absurd failed

-- what a cell that holds registers keeps, keeps those
held : (cell : StoreState Kept) (set : RegisterSet) (kept : Kept) → CellHoldsRegisters cell set → cell.honest → cell.found kept → HasRegistersIn set kept
held cell set kept holds honest found = let finds = holds.finds honest in subst (HasRegistersIn set) (sym ((finds.1 kept).0 found)) finds.2

-- no request goes out where the image of the registers that are left was not kept
pub begin_stopped :
    {C : Type 0} (meaning : CellMeaning C) (old mid new : TerminalOf C) (set left : RegisterSet) (key : List ℕ) (why : TermFault) → Agrees (meaning.state_of old.cell) old.state
    → TakesFrom old.state set key left → mid.cell ≡ old.cell → HaveSixteenBytes left.registers → IsImageNotKept meaning (body_bytes left) mid new why → BeginRefused meaning old new why
begin_stopped meaning old mid new set left key (fault.Store why) agrees takes cell left_are not =
    let holds : CellHoldsRegisters (meaning.state_of old.cell) set = subst (Agrees (meaning.state_of old.cell)) takes.had agrees in
    let failed : PutFailed meaning old.cell new.cell (body_bytes left) why = subst (λ cell. PutFailed meaning cell new.cell (body_bytes left) why) cell not.1 in
    record {
      set = set;
      key = key;
      left = left;
      takes = takes;
      left_are = left_are;
      stops = record {
        stopped = not.0;
        not_kept = failed;
        within = λ honest kept found. elim (found_then meaning old.cell new.cell (body_bytes left) why honest failed kept found) [
          | inl before ↦ inl (held (meaning.state_of old.cell) set kept holds honest before)
          | inr is ↦ inr is
        ];
      };
    }
begin_stopped meaning old mid new set left key _ agrees takes cell left_are not = absurd not

-- nor does a reversal
pub reversal_stopped :
    {C : Type 0} (meaning : CellMeaning C) (reversed : Serial) (old mid new : TerminalOf C) (set left : RegisterSet) (key : List ℕ) (why : TermFault) → Agrees (meaning.state_of old.cell) old.state
    → MayReverse old.state reversed → TakesFrom old.state set key left → mid.cell ≡ old.cell → HaveSixteenBytes left.registers → IsImageNotKept meaning (body_bytes left) mid new why
    → ReversalRefused meaning reversed old new why
reversal_stopped meaning reversed old mid new set left key (fault.Store why) agrees may takes cell left_are not =
    record { may = may; stopped = begin_stopped meaning old mid new set left key (fault.Store why) agrees takes cell left_are not }
reversal_stopped meaning reversed old mid new set left key _ agrees may takes cell left_are not = absurd not

-- what the cell of a running terminal keeps
kept_by_state : (cell : StoreState Kept) (state : State) (kept : Kept) → state ≢ Stopped → Agrees cell state → cell.honest → cell.found kept → KeepsState state kept
kept_by_state cell Stopped kept runs holds honest found = absurd (runs refl)
kept_by_state cell Empty kept runs holds honest found = (holds.finds honest kept).0 found
kept_by_state cell (Loaded set pending) kept runs holds honest found = held cell set kept holds honest found

-- a terminal is not loaded where the image of its first registers was not kept
pub load_stopped :
    {C : Type 0} (meaning : CellMeaning C) (asked : Loading) (old new : TerminalOf C) (set : RegisterSet) (why : TermFault) → Agrees (meaning.state_of old.cell) old.state
    → MayTake old.state asked.iksn → IsFirstSet asked old.state set → IsImageNotKept meaning (body_bytes set) old new why → LoadRefused meaning asked old new why
load_stopped meaning asked old new set (fault.Store why) agrees may first not =
    record {
      set = set;
      may = may;
      set_is = first;
      stops = record {
        stopped = not.0;
        not_kept = not.1;
        within = λ honest kept found. elim (found_then meaning old.cell new.cell (body_bytes set) why honest not.1 kept found) [
          | inl before ↦ inl (kept_by_state (meaning.state_of old.cell) old.state kept may.runs agrees honest before)
          | inr is ↦ inr is
        ];
      };
    }
load_stopped meaning asked old new set _ agrees may first not = absurd not

-- what came of keeping the first registers is what came of the load
pub load_done :
    {C T E : Type 0} (meaning : CellMeaning C) (asked : Loading) (old new : TerminalOf C) (set : RegisterSet) (result : Result T E) → MayTake old.state asked.iksn → IsFirstSet asked old.state set
    → IfOk result (λ _. IsPut meaning old.cell new.cell (body_bytes set)) → IfOk result (λ _. new.state ≡ Loaded set None) → IfOk result (λ _. IsTerminalLoaded meaning asked old new)
load_done meaning asked old new set (Ok _) may first kept state = record { set = set; may = may; set_is = first; state_is = state; kept = kept }
load_done meaning asked old new set (Err _) may first kept state = kept

pub load_not_done :
    {C T : Type 0} (meaning : CellMeaning C) (asked : Loading) (old new : TerminalOf C) (set : RegisterSet) (result : Result T TermFault) → Agrees (meaning.state_of old.cell) old.state
    → MayTake old.state asked.iksn → IsFirstSet asked old.state set → IfErr result (IsImageNotKept meaning (body_bytes set) old new) → IfErr result (LoadRefused meaning asked old new)
load_not_done meaning asked old new set (Ok _) agrees may first not = not
load_not_done meaning asked old new set (Err why) agrees may first not = load_stopped meaning asked old new set why agrees may first not

-- the cell promises the body of the registers that were kept
pub promises_kept :
    {C T E : Type 0} (meaning : CellMeaning C) (new : TerminalOf C) (set : RegisterSet) (result : Result T E) → IfOk result (λ _. new.state ≡ Loaded set None)
    → IfOk result (λ _. meaning.after_put new.cell (body_bytes set)) → IfOk result (λ _. PromisesBody meaning new)
promises_kept meaning new set (Ok _) state promised = (set, None, state, promised)
promises_kept meaning new set (Err _) state promised = promised

-- a load whose block has no initial key is refused for that, and changes nothing
pub load_without_key : {C : Type 0} (meaning : CellMeaning C) (asked : Loading) (old : TerminalOf C) (why : KeyFault)
    → MayTake old.state asked.iksn → HasNoKeyFor (IsDoubleKeyFor InitialKey) asked.loading_key asked.block why → LoadRefused meaning asked old old (term_fault_of why)
load_without_key meaning asked old (key_fault.Block why) may refused = (may, refused, refl)
load_without_key meaning asked old key_fault.WrongUse may refused = (may, refused, refl)
