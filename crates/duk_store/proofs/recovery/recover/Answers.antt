use Rattle.std.proofs.Common.{subst}
use Rattle.std.proofs.lemmas.Result.{err_from_is_err_and}
use Rattle.duk_store.specs.inner.SlotChoice.{IsCurrent}
use Rattle.duk_store.proofs.SlotsFound.{brought_up, cleared_restores, damaged, failed_restores}
use Rattle.duk_store.proofs.recovery.recover.Goals as goal

pub returns-in_err-place-clause-failed : goal.returns-in_err-place-clause-failed
returns-in_err-place-clause-failed g c =
    let p = err_from_is_err_and c.from_residual-in_err-place.result c.from_residual-in_err-place.ensures.1 in
    rw (p.1, p.2, c.in_err-place.ensures.damaged.0) (damaged _ _ c.in_ok-slots.slots c.in_ok-slots.ensures.found c.in_err-place.ensures.damaged.1)

pub returns-in_err-clear-clause-restored : goal.returns-in_err-clear-clause-restored
returns-in_err-clear-clause-restored g c =
    let current = subst (λ place. IsCurrent c.in_ok-slots.slots place) c.in-Some.is c.in_ok-place.ensures.current in
    failed_restores _ _ c.in_ok-slots.slots c.in_ok-slots.ensures.found c.in-Some.place current c.other.result c.other.ensures _ _ c.in_err-clear.ensures.failed

pub returns-clause-found : goal.returns-clause-found
returns-clause-found g c =
    let current = subst (λ place. IsCurrent c.in_ok-slots.slots place) c.in-Some.is c.in_ok-place.ensures.current in
    brought_up _ _ c.in_ok-slots.slots c.in_ok-slots.ensures.found c.in-Some.place current c.other.result c.other.ensures _ c.in_ok-clear.ensures.cleared c.at-slot.result.now c.at-slot.ensures

pub returns-clause-restored : goal.returns-clause-restored
returns-clause-restored g c =
    let current = subst (λ place. IsCurrent c.in_ok-slots.slots place) c.in-Some.is c.in_ok-place.ensures.current in
    cleared_restores _ _ c.in_ok-slots.slots c.in_ok-slots.ensures.found c.in-Some.place current c.other.result c.other.ensures _ c.in_ok-clear.ensures.cleared
