use Rattle.std.proofs.lemmas.Result.{IfErr-weaker, on_ok_weaker}
use Rattle.duk_store.specs.inner.SlotSteps.{ChangesAt, IsCleared, IsEmptied, IsPartlyCleared, IsPartlyWiped, IsWiped}
use Rattle.duk_store.proofs.SlotChanges.{emptied_is_cleared, wiped_is_cleared, partly_wiped_is_cleared}
use Rattle.duk_store.proofs.StepsInTurn.{done_where, failed_where}
use Rattle.duk_store.proofs.recovery.clear.Goals as goal

pub returns-then-is_open-clause-cleared : goal.returns-then-is_open-clause-cleared
returns-then-is_open-clause-cleared g c =
    on_ok_weaker c.empty.result
    (done_where (ChangesAt c.args.place IsEmptied) (ChangesAt c.args.place IsCleared) _ _ (λ h a b left changes. emptied_is_cleared c.args.place c.args.is_open _ a b (c.requires.commit h) c.if-is_open.true left changes))
    c.empty.ensures.emptied

pub returns-else-is_open-clause-cleared : goal.returns-else-is_open-clause-cleared
returns-else-is_open-clause-cleared g c =
    on_ok_weaker c.wipe.result
    (done_where (ChangesAt c.args.place IsWiped) (ChangesAt c.args.place IsCleared) _ _ (λ h a b left changes. wiped_is_cleared c.args.place c.args.is_open _ a b (c.requires.commit h) c.if-is_open.false left changes))
    c.wipe.ensures.wiped

pub returns-else-is_open-clause-failed : goal.returns-else-is_open-clause-failed
returns-else-is_open-clause-failed g c =
    IfErr-weaker c.wipe.result _ _
    (λ fault. failed_where (ChangesAt c.args.place IsPartlyWiped) (ChangesAt c.args.place IsPartlyCleared) _ _ fault (λ h a b left changes. partly_wiped_is_cleared c.args.place c.args.is_open _ a b (c.requires.commit h) c.if-is_open.false left changes))
    c.wipe.ensures.failed
