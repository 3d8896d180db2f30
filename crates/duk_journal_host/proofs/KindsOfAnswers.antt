-- What a frame is answered with: a refusal, or a reply.
use Rattle.std.proofs.Common.{◌⊎◌, ◌++◌, ℕ, List, inl, inr, subst, sym}
use Rattle.duk_frame.specs.Answer.{IsAnswer}
use Rattle.duk_frame.specs.Payment.{reply_mac}
use Rattle.duk_frame.specs.declared.answer.AnswerFrame.{AnswerFrame}
use Rattle.duk_frame.specs.declared.answer.AnswerFrame.TheVariants.{Refusal, Reply}
use Rattle.duk_hsm.specs.Keys.{HsmKeys}
use Rattle.duk_journal.specs.Groups.{Entries}
use Rattle.duk_reversal.specs.Authentic.{reversal_reply_of}
use Rattle.duk_reversal.specs.Reply.{IsReversalReply}
use Rattle.duk_reversal.specs.declared.reply.ReversalReply.{ReversalReply}
use Rattle.duk_tree.specs.Derivation.{response_key_of}
use Rattle.duk_journal_host.specs.Judgement.{IsJudged, LineBasis}
use Rattle.duk_journal_host.proofs.OneNumber.{AnswerLaws, IsOneOf, one_of}

by_kind : AnswerLaws → (keys : HsmKeys) (entries : Entries) (answer : List ℕ) → IsOneOf keys entries answer → ((given : AnswerFrame) × IsAnswer answer given) ⊎ ((reply : ReversalReply) × IsReversalReply answer reply)
by_kind laws keys entries answer (inl refusal) = inl (Refusal refusal.0 refusal.1, refusal.2)
by_kind laws keys entries answer (inr (inl (ksn, serial, is))) =
    let given = Reply ksn is.code (reply_mac is.reply.key ksn is.code) in
    inl (given, subst (λ bytes. IsAnswer bytes given) (sym is.reply.frame_is) (laws.replied is.reply.key ksn is.code serial))
by_kind laws keys entries answer (inr (inr (numbers, state, is))) =
    let reply = reversal_reply_of (response_key_of is.reply.key) numbers state in
    inr (reply, subst (λ bytes. IsReversalReply bytes reply) (sym is.reply.frame_is) (laws.told (response_key_of is.reply.key) numbers state is.are_numbers))

pub kind_of : AnswerLaws → (basis : LineBasis) (frame answer : List ℕ) (added : Entries) → IsJudged basis frame answer added → ((given : AnswerFrame) × IsAnswer answer given) ⊎ ((reply : ReversalReply) × IsReversalReply answer reply)
kind_of laws basis frame answer added judged = by_kind laws basis.keys (basis.entries ++ added) answer (one_of laws basis frame answer added judged)
