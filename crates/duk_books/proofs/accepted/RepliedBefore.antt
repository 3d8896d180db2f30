-- Each reply that stands among the answers was given, before these outcomes or in them.
use Rattle.std.proofs.Common.{◌≡◌, ◌⊎◌, ◌∷◌, [], ℕ, List, Any, Contains, inl, inr, sym, ap, subst, ◌∙◌}
use Rattle.std.proofs.lemmas.List.Elements.{Contains-push_cases}
use Rattle.duk_frame.specs.Answer.{IsAnswer, IsReply}
use Rattle.duk_frame.specs.declared.answer.AnswerFrame.{AnswerFrame}
use Rattle.duk_frame.specs.declared.answer.AnswerFrame.TheVariants.{Refusal, Reply}
use Rattle.duk_frame.specs.declared.code.Code.{Code}
use Rattle.duk_journal_host.specs.Judged.{TellsReversal}
use Rattle.duk_reversal.specs.Numbers.{Numbers}
use Rattle.duk_reversal.specs.Reply.{IsReversalReply}
use Rattle.duk_reversal.specs.declared.reply.ReversalReply.{ReversalReply}
use Rattle.duk_reversal.specs.declared.state.ReversalState.{ReversalState}
use Rattle.duk_tree.specs.Serial.{Serial}
use Rattle.duk_books.specs.AcceptedOnce.{HasReply, HasReversalReply}
use Rattle.duk_books.specs.Books.{BooksOf, Frame, Meanings}
use Rattle.duk_books.specs.Completed.{AcceptsWith, RepliesWith, WasRepliedOrAccepted}
use Rattle.duk_books.specs.Run.{Run}
use Rattle.duk_books.specs.Up.{SaysAnswer}
use Rattle.duk_books.specs.declared.event.Event.{Event}
use Rattle.duk_books.specs.declared.outcome.Outcome.{Outcome}
use Rattle.duk_books.specs.declared.outcome.Outcome.TheVariants as came
use Rattle.duk_books.proofs.accepted.ListsOfOutcomes.{any_first, any_later}
use Rattle.duk_books.proofs.accepted.StepsSeen.{Seen, given, neither, step_seen, taken}

-- how answers are read
pub record AnswerLaws : Type 0 where
  pub one_answer : (bytes : List ℕ) (one other : AnswerFrame) → IsAnswer bytes one → IsAnswer bytes other → one ≡ other
  pub one_reply : (bytes : List ℕ) (one other : ReversalReply) → IsReversalReply bytes one → IsReversalReply bytes other → one ≡ other
  pub apart : (bytes : List ℕ) (answer : AnswerFrame) (reply : ReversalReply) → IsAnswer bytes answer → ¬ IsReversalReply bytes reply

pub same_ksn : (ksn other : Serial) (code with : Code) (mac also : List ℕ) → Reply ksn code mac ≡ Reply other with also → ksn ≡ other
same_ksn ksn other code with mac also same = cc

pub same_code : (ksn other : Serial) (code with : Code) (mac also : List ℕ) → Reply ksn code mac ≡ Reply other with also → code ≡ with
same_code ksn other code with mac also same = cc

pub no_refusal : (ksn other : Serial) (code : Code) (mac : List ℕ) (reason : ℕ) → ¬ (Refusal ksn reason ≡ Reply other code mac)
no_refusal ksn other code mac reason same = cc

module _ (laws : AnswerLaws) (answers : List Frame) (answer : Frame) where
  -- the answer is the reply to a payment
  says_reply : (outcome : Outcome) (ksn : Serial) (code : Code) (mac : List ℕ) → SaysAnswer answers answer outcome → IsReply answer.items ksn code mac → HasReply answers ksn code ⊎ AcceptsWith ksn code outcome
  says_reply (came.Accepted n accepted with) ksn code mac says is =
      let same = laws.one_answer answer.items (Reply accepted with says.2.0) (Reply ksn code mac) says.2.1 is in
      inr (same_ksn accepted ksn with code says.2.0 mac same, same_code accepted ksn with code says.2.0 mac same)
  says_reply (came.Repeated n accepted with) ksn code mac says is = inl (record { frame = answer; mac = mac; sent = says.1; reply = is })
  says_reply (came.Refused n refused reason) ksn code mac says is = absurd (no_refusal refused ksn code mac reason (laws.one_answer answer.items (Refusal refused reason) (Reply ksn code mac) says.1 is))
  says_reply (came.Reversed n used reversed told) ksn code mac says is = absurd (laws.apart answer.items (Reply ksn code mac) says.1.0 is says.1.1)
  says_reply _ ksn code mac says is = absurd says

  -- it is the reply to a reversal
  says_reversal : (outcome : Outcome) (numbers : Numbers) (state : ReversalState) → SaysAnswer answers answer outcome → TellsReversal numbers state answer.items → RepliesWith numbers state outcome
  says_reversal (came.Accepted n accepted with) numbers state says is = absurd (laws.apart answer.items (Reply accepted with says.2.0) (record { numbers = numbers; state = state; mac = is.0 }) says.2.1 is.1)
  says_reversal (came.Repeated n accepted with) numbers state says is = absurd (laws.apart answer.items (Reply accepted with says.2.0) (record { numbers = numbers; state = state; mac = is.0 }) says.2.1 is.1)
  says_reversal (came.Refused n refused reason) numbers state says is = absurd (laws.apart answer.items (Refusal refused reason) (record { numbers = numbers; state = state; mac = is.0 }) says.1 is.1)
  says_reversal (came.Reversed n used reversed told) numbers state says is =
      let same = laws.one_reply answer.items says.1.0 (record { numbers = numbers; state = state; mac = is.0 }) says.1.1 is.1 in
      (sym says.1.2 ∙ ap (λ (it : ReversalReply). it.numbers) same, sym says.1.3 ∙ ap (λ (it : ReversalReply). it.state) same)
  says_reversal _ numbers state says is = absurd says

module _ {C B J I : Type 0} (m : Meanings C B J I) (laws : AnswerLaws) where
  -- a reply after a step stood among the answers before, or its outcome says so
  replied_comes : (old : BooksOf C B J I) (outcome : Outcome) (new : BooksOf C B J I) (ksn : Serial) (code : Code) → Seen m old outcome new → HasReply new.answers ksn code → HasReply old.answers ksn code ⊎ AcceptsWith ksn code outcome
  replied_comes old outcome new ksn code (given k is) has =
      let stands = subst (λ list. Contains list has.frame) (ap (λ books. books.answers) is.rest) has.sent in
      elim (Contains-push_cases old.answers is.answer has.frame stands) [
        | inl before ↦ inl (record { frame = has.frame; mac = has.mac; sent = before; reply = has.reply })
        | inr same ↦ says_reply laws old.answers is.answer outcome ksn code has.mac is.says (subst (λ (it : Frame). IsReply it.items ksn code has.mac) (sym same) has.reply)
      ]
  replied_comes old outcome new ksn code (taken k t is) has = inl (subst (λ list. HasReply list ksn code) (ap (λ books. books.answers) is.rest) has)
  replied_comes old outcome new ksn code (neither same is) has = inl (subst (λ list. HasReply list ksn code) same has)

  reversal_comes : (old : BooksOf C B J I) (outcome : Outcome) (new : BooksOf C B J I) (numbers : Numbers) (state : ReversalState) → Seen m old outcome new → HasReversalReply new.answers numbers state
      → HasReversalReply old.answers numbers state ⊎ RepliesWith numbers state outcome
  reversal_comes old outcome new numbers state (given k is) has =
      let stands = subst (λ list. Contains list has.frame) (ap (λ books. books.answers) is.rest) has.sent in
      elim (Contains-push_cases old.answers is.answer has.frame stands) [
        | inl before ↦ inl (record { frame = has.frame; sent = before; reply = has.reply })
        | inr same ↦ inr (says_reversal laws old.answers is.answer outcome numbers state is.says (subst (λ (it : Frame). TellsReversal numbers state it.items) (sym same) has.reply))
      ]
  reversal_comes old outcome new numbers state (taken k t is) has = inl (subst (λ list. HasReversalReply list numbers state) (ap (λ books. books.answers) is.rest) has)
  reversal_comes old outcome new numbers state (neither same is) has = inl (subst (λ list. HasReversalReply list numbers state) same has)

  -- so it is after a run
  pub run_replied : (old new : BooksOf C B J I) (events : List Event) (outcomes : List Outcome) (ksn : Serial) (code : Code) → Run m old events outcomes new → HasReply new.answers ksn code → WasRepliedOrAccepted old.answers outcomes ksn code
  run_replied old new [] [] ksn code run has = inl (subst (λ (books : BooksOf C B J I). HasReply books.answers ksn code) run has)
  run_replied old new [] (outcome ∷ outcomes) ksn code run has = absurd run
  run_replied old new (event ∷ events) [] ksn code run has = absurd run
  run_replied old new (event ∷ events) (outcome ∷ outcomes) ksn code run has = elim (run_replied run.0 new events outcomes ksn code run.2 has) [
    | inl there ↦ elim (replied_comes old outcome run.0 ksn code (step_seen m old event outcome run.0 run.1) there) [
      | inl before ↦ inl before
      | inr here ↦ inr (any_first (AcceptsWith ksn code) outcome outcomes here)
    ]
    | inr after ↦ inr (any_later (AcceptsWith ksn code) outcome outcomes after)
  ]

  pub run_reversed : (old new : BooksOf C B J I) (events : List Event) (outcomes : List Outcome) (numbers : Numbers) (state : ReversalState) → Run m old events outcomes new → HasReversalReply new.answers numbers state
      → HasReversalReply old.answers numbers state ⊎ Any (RepliesWith numbers state) outcomes
  run_reversed old new [] [] numbers state run has = inl (subst (λ (books : BooksOf C B J I). HasReversalReply books.answers numbers state) run has)
  run_reversed old new [] (outcome ∷ outcomes) numbers state run has = absurd run
  run_reversed old new (event ∷ events) [] numbers state run has = absurd run
  run_reversed old new (event ∷ events) (outcome ∷ outcomes) numbers state run has = elim (run_reversed run.0 new events outcomes numbers state run.2 has) [
    | inl there ↦ elim (reversal_comes old outcome run.0 numbers state (step_seen m old event outcome run.0 run.1) there) [
      | inl before ↦ inl before
      | inr here ↦ inr (any_first (RepliesWith numbers state) outcome outcomes here)
    ]
    | inr after ↦ inr (any_later (RepliesWith numbers state) outcome outcomes after)
  ]
