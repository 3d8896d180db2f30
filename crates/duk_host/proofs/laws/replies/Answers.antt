use Rattle.std.proofs.Common.{subst, sym}
use Rattle.duk_frame.specs.Answer.{IsReply}
use Rattle.duk_frame.specs.Payment.{reply_mac}
use Rattle.duk_host.proofs.laws.replies.Goals as goal

pub returns : goal.returns
returns c = λ basis bytes request frame accepted.
    let code = accepted.reply.code in
    let key = accepted.reply.reply.key in
    subst (λ frame. IsReply frame request.ksn code (reply_mac key request.ksn code)) (sym accepted.reply.reply.frame_is)
    (c.payments.ensures.reply key request.ksn code accepted.is_request.fields.ksn_is)
