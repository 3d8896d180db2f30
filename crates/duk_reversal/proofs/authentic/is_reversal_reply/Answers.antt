use Rattle.std.proofs.Common.{◌≡◌, ◌++◌, ap, sym, ◌∙◌}
use Rattle.duk_frame.specs.Frame.{framed}
use Rattle.duk_mac.specs.Retail.{retail_of}
use Rattle.duk_reversal.specs.Reply.{reversal_reply_text}
use Rattle.duk_reversal.proofs.PlacesOfNumbers.{same_mac}
use Rattle.duk_reversal.proofs.authentic.is_reversal_reply.Goals as goal

pub returns : goal.returns
returns c =
    let reply = c.args.reply.now in
    let key = c.args.response_key.now in
    let text = reversal_reply_text reply.numbers reply.state in
    let made : c.retail.result ≡ retail_of key text = c.retail.ensures ∙ ap (retail_of key) (c.as_slice.ensures.value ∙ c.text-text.ensures.text) in
    let equal = c.same_mac.ensures in (
      λ yes. ap (λ mac. framed (text ++ mac)) (sym (equal.0 yes) ∙ made),
      λ same. equal.1 (made ∙ sym (same_mac text reply.mac (retail_of key text) same)),
    )
