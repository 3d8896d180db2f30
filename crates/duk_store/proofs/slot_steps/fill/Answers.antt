use Rattle.std.proofs.Common.{List, [], ◌∷◌, ◌≡◌, ◌+◌, ◌∙◌, ℕ, length}
use Rattle.std.proofs.lemmas.Result.{IfErr-weaker, err_from_is_err_and, on_ok_weaker}
use Rattle.duk_store.specs.Disk.{DiffersWithin, written}
use Rattle.duk_store.specs.SlotFormat.{after_commit, commit_of}
use Rattle.duk_store.specs.inner.SlotSteps.{ChangesAt, IsFilled, IsPartlyClosed, IsPartlyFilled}
use Rattle.duk_store.proofs.SlotChanges.{contents_are, filled, commit_is, is_partly_closed, is_partly_wiped, not_filled, partly_filled}
use Rattle.duk_store.proofs.StepsInTurn.{done_as, done_then, done_then_failed, failed_as}
use Rattle.duk_store.proofs.slot_steps.fill.Goals as goal

pub returns-in_err-write_through-clause-failed : goal.returns-in_err-write_through-clause-failed
returns-in_err-write_through-clause-failed g c =
    let p = err_from_is_err_and c.from_residual.result c.from_residual.ensures.1 in
    rw (p.1, p.2)
    (failed_as (DiffersWithin (c.commit.result + 1) (length c.contents_of.result)) (ChangesAt c.args.place (IsPartlyFilled c.args.sequence c.args.body.now)) _ _ 1024 _
    (g.D.Disk.leaves_its_size c.args.disk.now) c.requires
    (λ a b size torn. not_filled c.args.place c.args.sequence c.args.body.now a b (is_partly_wiped c.args.place c.commit.result c.commit.ensures a b (length c.contents_of.result) c.contents_of.ensures.length torn))
    c.in_err-write_through.ensures.failed)

pub returns-clause-filled : goal.returns-clause-filled
returns-clause-filled g c =
    let place = c.args.place in
    let bytes = c.contents_of.result in
    let lengths = g.D.Disk.leaves_its_size c.args.disk.now in
    let lengths_then = g.D.Disk.leaves_its_size c.write_through.new.disk in
    let one : (a b : List ℕ) → length a ≡ 1024 → b ≡ written a (c.commit.result + 1) bytes → ChangesAt place (λ before after. (commit_of after ≡ commit_of before) × (after_commit after ≡ bytes)) a b =
    λ a b size is. contents_are place c.commit.result c.commit.ensures a b bytes c.contents_of.ensures.length size is in
    let two : (a b : List ℕ) → length a ≡ 1024 → b ≡ written a c.commit-2.result (1 ∷ []) → ChangesAt place (λ before after. (commit_of after ≡ 1) × (after_commit after ≡ after_commit before)) a b =
    λ a b size is. commit_is place c.commit-2.result c.commit-2.ensures a b 1 size is in
    let first = done_as (λ before after. after ≡ written before (c.commit.result + 1) bytes) _ _ _ 1024 lengths c.requires one c.in_ok-write_through.ensures.through in
    let size_then = first.nature.size ∙ c.requires in
    on_ok_weaker c.write_through-2.result
    (λ through.
    let second = done_as (λ before after. after ≡ written before c.commit-2.result (1 ∷ [])) _ _ _ 1024 lengths_then size_then two through in
    done_then _ _ (ChangesAt place (IsFilled c.args.sequence c.args.body.now)) _ _ _ first second
    (λ a b d new opened. filled place c.args.sequence c.args.body.now bytes a b d c.contents_of.ensures.contents new opened))
    c.write_through-2.ensures.through

pub returns-clause-failed : goal.returns-clause-failed
returns-clause-failed g c =
    let place = c.args.place in
    let bytes = c.contents_of.result in
    let lengths = g.D.Disk.leaves_its_size c.args.disk.now in
    let lengths_then = g.D.Disk.leaves_its_size c.write_through.new.disk in
    let one : (a b : List ℕ) → length a ≡ 1024 → b ≡ written a (c.commit.result + 1) bytes → ChangesAt place (λ before after. (commit_of after ≡ commit_of before) × (after_commit after ≡ bytes)) a b =
    λ a b size is. contents_are place c.commit.result c.commit.ensures a b bytes c.contents_of.ensures.length size is in
    let first = done_as (λ before after. after ≡ written before (c.commit.result + 1) bytes) _ _ _ 1024 lengths c.requires one c.in_ok-write_through.ensures.through in
    let size_then = first.nature.size ∙ c.requires in
    IfErr-weaker c.write_through-2.result _ _
    (λ fault failed.
    let second = failed_as (DiffersWithin c.commit-2.result 1) (ChangesAt place IsPartlyClosed) _ _ 1024 fault lengths_then size_then (λ a b size torn. is_partly_closed place c.commit-2.result c.commit-2.ensures a b torn) failed in
    done_then_failed _ _ (ChangesAt place (IsPartlyFilled c.args.sequence c.args.body.now)) _ _ _ fault first second
    (λ a b d new torn. partly_filled place c.args.sequence c.args.body.now bytes a b d c.contents_of.ensures.contents new torn))
    c.write_through-2.ensures.failed
