use Rattle.std.proofs.lemmas.Result.{IfErr-weaker, err_from_is_err_and, on_ok_weaker}
use Rattle.duk_store.proofs.BodyReplaced.{empty_failed, fill_failed, replaced}
use Rattle.duk_store.proofs.put_steps.replace.Goals as goal

pub returns-in_err-fill-clause-failed : goal.returns-in_err-fill-clause-failed
returns-in_err-fill-clause-failed g c =
    let p = err_from_is_err_and c.from_residual.result c.from_residual.ensures.1 in
    rw (p.1, p.2) (fill_failed c.args.place c.args.sequence c.args.body.now c.ranges.sequence.fits _ c.requires.ready _ _ c.in_err-fill.ensures.failed)

pub returns-clause-replaced : goal.returns-clause-replaced
returns-clause-replaced g c =
    on_ok_weaker c.empty.result
    (replaced c.args.place c.args.sequence c.args.body.now c.ranges.sequence.fits _ c.requires.ready _ c.in_ok-fill.ensures.filled c.other.result c.other.ensures _)
    c.empty.ensures.emptied

pub returns-clause-failed : goal.returns-clause-failed
returns-clause-failed g c =
    IfErr-weaker c.empty.result _ _
    (λ fault. empty_failed c.args.place c.args.sequence c.args.body.now c.ranges.sequence.fits _ c.requires.ready _ c.in_ok-fill.ensures.filled c.other.result c.other.ensures _ fault)
    c.empty.ensures.failed
