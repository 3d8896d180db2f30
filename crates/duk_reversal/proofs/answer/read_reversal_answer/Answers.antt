use Rattle.std.proofs.Common.{◌≡◌, ℕ, List, Some, None, ap, sym, ◌∙◌}
use Rattle.duk_frame.specs.Answer.{IsAnswer}
use Rattle.duk_frame.specs.declared.answer.AnswerFrame.{AnswerFrame}
use Rattle.duk_frame.specs.declared.answer.AnswerFrame.TheVariants as payment
use Rattle.duk_reversal.specs.Answer.{IsReversalAnswer}
use Rattle.duk_reversal.specs.Reply.{IsReversalReply}
use Rattle.duk_reversal.specs.declared.answer.ReversalAnswerFrame.{ReversalAnswerFrame}
use Rattle.duk_reversal.specs.declared.answer.ReversalAnswerFrame.TheVariants.{Reply, Refusal}
use Rattle.duk_reversal.specs.declared.reply.ReversalReply.{ReversalReply}
use Rattle.duk_tree.specs.Serial.{Serial}
use Rattle.duk_reversal.proofs.answer.read_reversal_answer.Goals as goal

-- the bytes are no reply to a reversal
abbrev NoReply : List ℕ → Type 0
NoReply bytes = (reply : ReversalReply) → IsReversalReply bytes reply → None ≡ Some reply

none_found : (answer : ReversalAnswerFrame) (bytes : List ℕ) → NoReply bytes → ((other : AnswerFrame) → IsAnswer bytes other → None ≡ Some other) → ¬ IsReversalAnswer bytes answer
none_found (Reply reply) bytes no_reply no_answer is = let wrong = no_reply reply is in cc
none_found (Refusal ksn reason) bytes no_reply no_answer is = let wrong = no_answer (payment.Refusal ksn reason) is in cc

refusal_found : (answer : ReversalAnswerFrame) (bytes : List ℕ) (ksn : Serial) (reason : ℕ) → NoReply bytes → ((other : AnswerFrame) → IsAnswer bytes other → Some (payment.Refusal ksn reason) ≡ Some other)
    → IsReversalAnswer bytes answer → Some (Refusal ksn reason) ≡ Some answer
refusal_found (Reply reply) bytes ksn reason no_reply every is = let wrong = no_reply reply is in cc
refusal_found (Refusal other why) bytes ksn reason no_reply every is = let same = every (payment.Refusal other why) is in cc

pub returns-in_err-ksn-clause-every : goal.returns-in_err-ksn-clause-every
returns-in_err-ksn-clause-every c = λ answer is.
    absurd (none_found answer c.args.bytes.now c.in_default.ensures.every c.in_err-ksn.ensures.every is)

pub returns-in-Refusal-clause-every : goal.returns-in-Refusal-clause-every
returns-in-Refusal-clause-every c = λ answer is.
    refusal_found answer c.args.bytes.now c.in-Refusal.ksn c.in-Refusal.reason c.in_default.ensures.every (λ other is. ap Some (sym c.in-Refusal.is) ∙ c.in_ok-ksn.ensures.every other is) is
