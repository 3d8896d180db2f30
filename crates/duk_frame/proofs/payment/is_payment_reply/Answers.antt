use Rattle.std.proofs.Common.{◌≡◌, ◌++◌, sym, ap, ◌∙◌}
use Rattle.duk_mac.specs.Retail.{retail_of}
use Rattle.duk_frame.specs.Answer.{reply_text}
use Rattle.duk_frame.specs.Frame.{framed}
use Rattle.duk_frame.proofs.PlacesOfFrames.{same_mac}
use Rattle.duk_frame.proofs.payment.is_payment_reply.Goals as goal

pub returns : goal.returns
returns c = λ ksn code is.
    let mac = c.args.mac in
    let text = reply_text ksn code in
    let texts = c.mac_texts.ensures.reply c.args.reply.now ksn code mac is in
    let made : c.retail.result ≡ retail_of c.args.response_key.now text =
    c.retail.ensures ∙ ap (retail_of c.args.response_key.now) (c.mac_text.ensures ∙ texts.1) in
    let equal = c.same_mac.ensures in (
      λ yes. is.laid_out ∙ ap (λ mac. framed (text ++ mac)) (sym (equal.0 yes) ∙ made),
      λ same. equal.1 (made ∙ sym (same_mac text mac (retail_of c.args.response_key.now text) (sym is.laid_out ∙ same))),
    )
