use Rattle.std.proofs.Common.{[], ◌∷◌, ◌≡◌}
use Rattle.std.proofs.lemmas.Result.{IfErr-weaker, on_ok_weaker}
use Rattle.duk_store.specs.Disk.{DiffersWithin, written}
use Rattle.duk_store.specs.inner.SlotSteps.{ChangesAt, IsClosed, IsPartlyClosed}
use Rattle.duk_store.proofs.SlotChanges.{is_closed, is_partly_closed}
use Rattle.duk_store.proofs.StepsInTurn.{done_as, failed_as}
use Rattle.duk_store.proofs.slot_steps.close.Goals as goal

pub returns-clause-closed : goal.returns-clause-closed
returns-clause-closed g c =
    on_ok_weaker c.write_through.result
    (done_as (λ before after. after ≡ written before c.commit.result (0 ∷ [])) (ChangesAt c.args.place IsClosed) _ _ 1024 (g.D.Disk.leaves_its_size c.args.disk.now) c.requires
    (λ a b size is. is_closed c.args.place c.commit.result c.commit.ensures a b size is))
    c.write_through.ensures.through

pub returns-clause-failed : goal.returns-clause-failed
returns-clause-failed g c =
    IfErr-weaker c.write_through.result _ _
    (λ fault. failed_as (DiffersWithin c.commit.result 1) (ChangesAt c.args.place IsPartlyClosed) _ _ 1024 fault (g.D.Disk.leaves_its_size c.args.disk.now) c.requires
    (λ a b size torn. is_partly_closed c.args.place c.commit.result c.commit.ensures a b torn))
    c.write_through.ensures.failed
