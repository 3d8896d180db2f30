use Rattle.duk_reversal.specs.Reply.{reversal_reply_text}
use Rattle.duk_reversal.specs.Reversal.{reversal_text}
use Rattle.duk_reversal.proofs.PlacesOfNumbers.{text_of_frame}
use Rattle.duk_reversal.proofs.laws.mac_texts.Goals as goal

pub returns : goal.returns
returns c = record {
  reversal = λ bytes reversal is. text_of_frame bytes (reversal_text reversal.numbers) reversal.mac is.fields.mac_is.eight is.laid_out;
  reply = λ bytes reply is. text_of_frame bytes (reversal_reply_text reply.numbers reply.state) reply.mac is.fields.mac_is.eight is.laid_out;
}
