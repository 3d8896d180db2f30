use Rattle.std.proofs.Common.{inl}
use Rattle.std.proofs.lemmas.Result.{err_from_is_err_and}
use Rattle.duk_store.specs.inner.SlotSteps.{ChangesAt, IsPartlyClosed, IsPartlyEmptied}
use Rattle.duk_store.proofs.SlotChanges.{changes_as}
use Rattle.duk_store.proofs.StepsInTurn.{failed_as}
use Rattle.duk_store.proofs.slot_steps.empty.Goals as goal

pub returns-in_err-close-clause-failed : goal.returns-in_err-close-clause-failed
returns-in_err-close-clause-failed g c =
    let p = err_from_is_err_and c.from_residual.result c.from_residual.ensures.1 in
    rw (p.1, p.2)
    (failed_as (ChangesAt c.args.place IsPartlyClosed) (ChangesAt c.args.place IsPartlyEmptied) _ _ 1024 _ (g.D.Disk.leaves_its_size c.args.disk.now) c.requires
    (λ a b size changes. changes_as c.args.place IsPartlyClosed IsPartlyEmptied a b (λ s t same. inl same) changes)
    c.in_err-close.ensures.failed)
