-- What a restart of the book would find where a last purchase was not kept.
use Rattle.std.proofs.Common.{◌≡◌, ◌⊎◌, ℕ, List, Option, Some, inl, inr, subst}
use Rattle.duk_store.specs.Cell.{CellMeaning, Kept, PutFailed}
use Rattle.duk_store.specs.declared.fault.StoreFault.{StoreFault}
use Rattle.duk_store.specs.declared.fault.StoreFault.TheVariants as store_fault
use Rattle.duk_till.specs.Image.{last_bytes}
use Rattle.duk_till.specs.Till.{IsLastNotKept}
use Rattle.duk_till.specs.declared.last.Last.{Last}
use Rattle.duk_till.specs.declared.state.TillState.{TillState}
use Rattle.duk_till.specs.declared.state.TillState.TheVariants.{Stopped, Running}
use Rattle.duk_till.specs.inner.Till.{Agrees, BookHolds}

-- after a write that failed a restart finds what it would have found, or the new body
pub found_then : {J : Type 0} (meaning : CellMeaning J) (old new : J) (body : List ℕ) (why : StoreFault) → (meaning.state_of old).honest → PutFailed meaning old new body why
    → (kept : Kept) → (meaning.state_of new).found kept → (meaning.state_of old).found kept ⊎ (kept ≡ Some body)
found_then meaning old new body store_fault.Device honest failed kept found = failed.stops.within honest kept found
found_then meaning old new body store_fault.Stopped honest failed kept found = inl ((failed.stays.found honest kept).0 found)
found_then meaning old new body store_fault.Worn honest failed kept found = inl ((failed.stays.found honest kept).0 found)
found_then meaning old new body _ honest failed kept found = absurd failed

-- after it the cell is as honest as it was
pub stays_honest : {J : Type 0} (meaning : CellMeaning J) (old new : J) (body : List ℕ) (why : StoreFault) → PutFailed meaning old new body why
    → (meaning.state_of old).honest → (meaning.state_of new).honest
stays_honest meaning old new body store_fault.Device failed honest = failed.stops.nature.honest.0 honest
stays_honest meaning old new body store_fault.Stopped failed honest = failed.stays.nature.honest.0 honest
stays_honest meaning old new body store_fault.Worn failed honest = failed.stays.nature.honest.0 honest
stays_honest meaning old new body _ failed honest = absurd failed

-- a last purchase that was not kept
pub not_kept : {J : Type 0} (meaning : CellMeaning J) (last : Last) (before : Option Last) (old new : J) (was state : TillState) (why : StoreFault)
    → Agrees (meaning.state_of old) was → was ≡ Running before → state ≡ Stopped → PutFailed meaning old new (last_bytes last) why
    → IsLastNotKept meaning last before old new state why
not_kept meaning last before old new was state why agrees is stopped failed =
    let holds : BookHolds (meaning.state_of old) before = subst (Agrees (meaning.state_of old)) is agrees in
    record {
      stopped = stopped;
      not_kept = failed;
      within = λ honest kept found. elim (found_then meaning old new (last_bytes last) why honest failed kept found) [
        | inl found_before ↦ inl ((holds.finds honest kept).0 found_before)
        | inr is_new ↦ inr is_new
      ];
    }
