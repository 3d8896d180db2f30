use Rattle.std.proofs.Common.{◌≡◌, ◌+◌, ℕ, refl, length, replicate}
use Rattle.std.proofs.lemmas.Result.{IfErr-weaker, on_ok_weaker}
use Rattle.duk_store.specs.Disk.{DiffersWithin, written}
use Rattle.duk_store.specs.inner.SlotSteps.{ChangesAt, IsPartlyWiped, IsWiped}
use Rattle.duk_store.proofs.SlotChanges.{is_partly_wiped, is_wiped}
use Rattle.duk_store.proofs.StepsInTurn.{done_as, failed_as}
use Rattle.duk_store.proofs.slot_steps.wipe.Goals as goal

pub returns-clause-wiped : goal.returns-clause-wiped
returns-clause-wiped g c =
    on_ok_weaker c.write_through.result
    (done_as (λ before after. after ≡ written before (c.commit.result + 1) (replicate 511 0)) (ChangesAt c.args.place IsWiped) _ _ 1024 (g.D.Disk.leaves_its_size c.args.disk.now) c.requires
    (λ a b size is. is_wiped c.args.place c.commit.result c.commit.ensures a b (replicate 511 0) refl refl size is))
    c.write_through.ensures.through

pub returns-clause-failed : goal.returns-clause-failed
returns-clause-failed g c =
    IfErr-weaker c.write_through.result _ _
    (λ fault. failed_as (DiffersWithin (c.commit.result + 1) (length {A = ℕ} (replicate 511 0))) (ChangesAt c.args.place IsPartlyWiped) _ _ 1024 fault (g.D.Disk.leaves_its_size c.args.disk.now) c.requires
    (λ a b size torn. is_partly_wiped c.args.place c.commit.result c.commit.ensures a b (length {A = ℕ} (replicate 511 0)) refl torn))
    c.write_through.ensures.failed
