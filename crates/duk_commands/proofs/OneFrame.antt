-- Bytes are one frame of the host at most.
use Rattle.std.proofs.Common.{◌≡◌, ℕ, List, ap}
use Rattle.duk_commands.specs.Frames.{IsTold}
use Rattle.duk_commands.specs.declared.told.Told.{Told}
use Rattle.duk_commands.specs.declared.told.Told.TheVariants as told
use Rattle.duk_frame.specs.Answer.{IsAnswer}
use Rattle.duk_frame.specs.declared.answer.AnswerFrame.{AnswerFrame}
use Rattle.duk_reversal.specs.Reply.{IsReversalReply}
use Rattle.duk_reversal.specs.Reversal.{IsReversal}
use Rattle.duk_reversal.specs.declared.reply.ReversalReply.{ReversalReply}
use Rattle.duk_reversal.specs.declared.reversal.Reversal.{Reversal}

pub one_told : ((bytes : List ℕ) (one other : AnswerFrame) → IsAnswer bytes one → IsAnswer bytes other → one ≡ other)
    → ((bytes : List ℕ) (one other : ReversalReply) → IsReversalReply bytes one → IsReversalReply bytes other → one ≡ other)
    → ((bytes : List ℕ) (answer : AnswerFrame) → IsAnswer bytes answer
    → ((reversal : Reversal) → ¬ IsReversal bytes reversal) × ((reply : ReversalReply) → ¬ IsReversalReply bytes reply))
    → (bytes : List ℕ) (one other : Told) → IsTold bytes one → IsTold bytes other → one ≡ other
one_told answers replies apart bytes (told.Answer one) (told.Answer other) p q = ap told.Answer (answers bytes one other p q)
one_told answers replies apart bytes (told.Answer one) (told.Undoing other) p q = absurd ((apart bytes one p).1 other q)
one_told answers replies apart bytes (told.Undoing one) (told.Answer other) p q = absurd ((apart bytes other q).1 one p)
one_told answers replies apart bytes (told.Undoing one) (told.Undoing other) p q = ap told.Undoing (replies bytes one other p q)
