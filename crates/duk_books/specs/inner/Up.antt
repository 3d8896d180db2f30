-- What only private functions and proofs say beside `Up.antt`: this project's own.
use Rattle.std.specs.Prelude.{◌≡◌, ◌⊎◌, ℕ, Bool, true, false}
use Rattle.duk_frame.specs.Answer.{IsAnswer}
use Rattle.duk_frame.specs.declared.answer.AnswerFrame.{AnswerFrame}
use Rattle.duk_frame.specs.declared.answer.AnswerFrame.TheVariants.{Refusal, Reply}
use Rattle.duk_reversal.specs.Reply.{IsReversalReply}
use Rattle.duk_reversal.specs.declared.reply.ReversalReply.{ReversalReply}
use Rattle.duk_books.specs.Books.{Frame}
use Rattle.duk_books.specs.Frames.{IsReversalReplyFrame}
use Rattle.duk_books.specs.declared.outcome.Outcome.{Outcome}
use Rattle.duk_books.specs.declared.outcome.Outcome.TheVariants as outcome

-- a frame is one that a host sends back
abbrev pub IsAnswerFrame : Frame → Type 0
IsAnswerFrame frame =
    ((answer : AnswerFrame) × IsAnswer frame.items answer) ⊎ IsReversalReplyFrame frame

-- the answer of this number is the reply to a reversal, and says so
abbrev pub SaysReversed : ℕ → Frame → Outcome → Type 0
SaysReversed n answer (outcome.Reversed k ksn reversed state) =
    (k ≡ n)
    × ((reply : ReversalReply) × IsReversalReply answer.items reply
    × (reply.numbers ≡ record { ksn = ksn; reversed = reversed }) × (reply.state ≡ state))
SaysReversed n answer _ = ⊥

-- what comes of an answer of this number to a request, which was perhaps given before
abbrev pub said_by : ℕ → Bool → AnswerFrame → Outcome
said_by k true (Reply ksn code mac) = outcome.Repeated k ksn code
said_by k false (Reply ksn code mac) = outcome.Accepted k ksn code
said_by k again (Refusal ksn reason) = outcome.Refused k ksn reason
