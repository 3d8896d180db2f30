-- What a host may send back to a reversal: formats of this project's own.
use Rattle.std.specs.Prelude.{ℕ, List}
use Rattle.duk_frame.specs.Answer.{IsRefusal}
use Rattle.duk_reversal.specs.Reply.{IsReversalReply}
use Rattle.duk_reversal.specs.declared.answer.ReversalAnswerFrame.{ReversalAnswerFrame}
use Rattle.duk_reversal.specs.declared.answer.ReversalAnswerFrame.TheVariants.{Reply, Refusal}

-- the bytes are the frame of this answer to a reversal: a reply to one, or a refusal as payments
-- have them
abbrev pub IsReversalAnswer : List ℕ → ReversalAnswerFrame → Type 0
IsReversalAnswer bytes (Reply reply) = IsReversalReply bytes reply
IsReversalAnswer bytes (Refusal ksn reason) = IsRefusal bytes ksn reason
