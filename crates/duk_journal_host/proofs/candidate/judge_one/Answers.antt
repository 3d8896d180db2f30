use Rattle.std.proofs.Common.{subst, sym}
use Rattle.duk_host.specs.Judgement.{IsCodeOf}
use Rattle.duk_journal_host.specs.Steps.{IsPurchase}
use Rattle.duk_journal_host.specs.inner.Steps.{IsAuthenticated, IsOpenedUnder}
use Rattle.duk_journal_host.proofs.candidate.judge_one.Goals as goal

pub returns-in-Ok-Payment : goal.returns-in-Ok-Payment
returns-in-Ok-Payment g c = λ keys opens.
    let payment = c.in-Ok-Payment.payment in
    let decides = g.I.Issuer.decides c.args.issuer.now in
    let is = subst (λ authentic. IsAuthenticated keys c.args.frame.now authentic) c.in-Ok-Payment.field-0-is (c.in-Ok-Payment.ensures.authentic keys opens) in
    let opened = subst (λ authentic. IsOpenedUnder keys authentic) c.in-Ok-Payment.field-0-is (c.in-Ok-Payment.ensures.opened keys opens) in
    let code = c.code_for-code.ensures keys opened in (
      subst (λ purchase. IsPurchase keys c.args.frame.now purchase) (sym c.of.ensures) is.1,
      λ request is_request. subst (λ request. IsCodeOf keys decides request c.code_for-code.result) (c.one_reading.ensures.request c.args.frame.now payment.request request is.0 is_request) code,
    )
