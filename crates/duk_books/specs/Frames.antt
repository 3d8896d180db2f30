-- What kind of answer a frame is: this project's own.
use Rattle.std.specs.Prelude.{ℕ}
use Rattle.duk_frame.specs.Answer.{IsRefusal}
use Rattle.duk_reversal.specs.Reply.{IsReversalReply}
use Rattle.duk_reversal.specs.declared.reply.ReversalReply.{ReversalReply}
use Rattle.duk_tree.specs.Serial.{Serial}
use Rattle.duk_books.specs.Books.{Frame}

-- the reply to a reversal
abbrev pub IsReversalReplyFrame : Frame → Type 0
IsReversalReplyFrame frame = (reply : ReversalReply) × IsReversalReply frame.items reply

-- a refusal, of a request or of a reversal
abbrev pub IsRefusalFrame : Frame → Type 0
IsRefusalFrame frame = (ksn : Serial) × (reason : ℕ) × IsRefusal frame.items ksn reason
