use Rattle.duk_frame.specs.Answer.{reply_text}
use Rattle.duk_frame.specs.Request.{request_text}
use Rattle.duk_frame.proofs.PlacesOfFrames.{text_of_frame}
use Rattle.duk_frame.proofs.laws.mac_texts.Goals as goal

pub returns : goal.returns
returns c = record {
  request = λ bytes request is.
      text_of_frame bytes (request_text request.ksn request.pan request.amount request.block) request.mac is.fields.mac_is.eight is.laid_out;
  reply = λ bytes ksn code mac is. text_of_frame bytes (reply_text ksn code) mac is.fields.1.eight is.laid_out;
}
