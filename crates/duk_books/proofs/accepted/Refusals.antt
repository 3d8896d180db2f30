-- Why the host refuses a frame that a till sent.
use Rattle.std.proofs.Common.{◌≡◌, ◌⊎◌, ◌∷◌, [], ℕ, List, All, Contains, inl, inr, sym, subst, arith}
use Rattle.std.proofs.lemmas.List.Elements.{All-cons, All-nil}
use Rattle.duk_frame.specs.Answer.{IsAnswer, IsRefusal, IsReply}
use Rattle.duk_frame.specs.Payment.{reply_mac}
use Rattle.duk_frame.specs.Request.{IsRequest}
use Rattle.duk_frame.specs.declared.answer.AnswerFrame.{AnswerFrame}
use Rattle.duk_frame.specs.declared.answer.AnswerFrame.TheVariants.{Refusal, Reply}
use Rattle.duk_frame.specs.declared.code.Code.{Code}
use Rattle.duk_frame.specs.declared.request.Request.{Request}
use Rattle.duk_host.specs.Judgement.{IsAuthentic, IsReasonAgainst, IsRefusalFor, IsRefusedRequest, IsReplyWith, JudgementBasis, reason_number}
use Rattle.duk_hsm.specs.Keys.{HsmKeys}
use Rattle.duk_journal.specs.Groups.{Entries}
use Rattle.duk_journal_host.specs.Host.{basis_of}
use Rattle.duk_journal_host.specs.Judgement.{IsAuthenticReversal, IsJudged, IsReversalReplyWith, LineBasis, refusal_of, without_repeats}
use Rattle.duk_journal_host.specs.Judgement as line
use Rattle.duk_reversal.specs.Authentic.{reversal_reply_of, reversal_reply_under}
use Rattle.duk_reversal.specs.Numbers.{AreNumbers, Numbers}
use Rattle.duk_reversal.specs.Reply.{IsReversalReply}
use Rattle.duk_reversal.specs.Reversal.{IsReversal}
use Rattle.duk_reversal.specs.declared.reply.ReversalReply.{ReversalReply}
use Rattle.duk_reversal.specs.declared.reversal.Reversal as reversal_frame
use Rattle.duk_reversal.specs.declared.state.ReversalState.{ReversalState}
use Rattle.duk_tree.specs.Derivation.{response_key_of}
use Rattle.duk_tree.specs.Serial.{IsSerial, Serial}
use Rattle.duk_books.specs.Books.{BooksOf, Frame, Meanings}
use Rattle.duk_books.specs.CallLeads.{CallLeads}
use Rattle.duk_books.specs.OwnKeyOfReplies.{IsRefusedAsUsedOrFull}
use Rattle.duk_books.specs.Reached.{Reached}
use Rattle.duk_books.specs.Run.{Run}
use Rattle.duk_books.specs.Up.{IsAnswered}
use Rattle.duk_books.specs.declared.event.Event.{Event}
use Rattle.duk_books.specs.declared.outcome.Outcome.{Outcome}
use Rattle.duk_books.specs.declared.outcome.Outcome.TheVariants as came
use Rattle.duk_books.proofs.accepted.RepliesHold.{ReplyLaws, reached_safe}
use Rattle.duk_books.proofs.accepted.StepsSeen.{IsOther, Seen, given, neither, step_seen, taken}
use Rattle.duk_books.proofs.moves.ReachedByMoves.{reached_step}
use Rattle.duk_stations.proofs.PlacesInLists.{at_contains}

-- the bytes are an authentic request, or an authentic reversal
abbrev pub IsAuthenticSent : HsmKeys → List ℕ → Type 0
IsAuthenticSent keys bytes = ((request : Request) × IsRequest bytes request × IsAuthentic keys request) ⊎ ((reversal : reversal_frame.Reversal) × IsReversal bytes reversal × IsAuthenticReversal keys reversal)

-- how frames are read, and what a refusal and a reply are read as
pub record RefusalLaws : Type 0 where
  pub replies : ReplyLaws
  pub one_request : (bytes : List ℕ) (one other : Request) → IsRequest bytes one → IsRequest bytes other → one ≡ other
  pub one_reversal : (bytes : List ℕ) (one other : reversal_frame.Reversal) → IsReversal bytes one → IsReversal bytes other → one ≡ other
  pub apart : (bytes : List ℕ) (request : Request) (reversal : reversal_frame.Reversal) → IsRequest bytes request → ¬ IsReversal bytes reversal
  pub apart_answers : (bytes : List ℕ) (answer : AnswerFrame) (reply : ReversalReply) → IsAnswer bytes answer → ¬ IsReversalReply bytes reply
  pub refusals : (basis : JudgementBasis) (bytes frame : List ℕ) (refused : IsRefusedRequest basis bytes frame) → IsRefusal frame refused.request.ksn (reason_number refused.reason)
  pub told : (response_key : List ℕ) (numbers : Numbers) (state : ReversalState) → AreNumbers numbers → IsReversalReply (reversal_reply_under response_key numbers state) (reversal_reply_of response_key numbers state)

-- against an authentic request there is no reason but that its number is used or that there is no
-- room, and so it is of a reversal
used_or_full : (basis : JudgementBasis) (request : Request) (why : _) → IsAuthentic basis.keys request → IsReasonAgainst basis request why → (reason_number why ≡ 5) ⊎ (reason_number why ≡ 6)
used_or_full basis request why authentic first = grind (arith, first.fails, authentic.key_is.held, authentic.key_is.usable, authentic)

reversal_used_or_full : (basis : LineBasis) (reversal : reversal_frame.Reversal) (why : _) → IsAuthenticReversal basis.keys reversal → line.IsReasonAgainst basis reversal why → (reason_number why ≡ 5) ⊎ (reason_number why ≡ 6)
reversal_used_or_full basis reversal why authentic first = grind (arith, first.fails, authentic.key_is.held, authentic.key_is.usable, authentic)

same_reason : (ksn other : Serial) (why reason : ℕ) → Refusal ksn why ≡ Refusal other reason → why ≡ reason
same_reason ksn other why reason same = cc

not_both : (ksn other : Serial) (code : Code) (mac : List ℕ) (reason : ℕ) → ¬ (Reply ksn code mac ≡ Refusal other reason)
not_both ksn other code mac reason same = cc

module _ (laws : RefusalLaws) (keys : HsmKeys) (answer : List ℕ) (ksn : Serial) (why : ℕ) (refusal : IsRefusal answer ksn why) where
  -- the answer is no reply to a payment, and none to a reversal
  no_reply : (number : Serial) (code : Code) → IsSerial number → ¬ IsReplyWith keys number code answer
  no_reply number code serial is =
      let mac = reply_mac is.key number code in
      let reply : IsReply answer number code mac = subst (λ bytes. IsReply bytes number code mac) (sym is.frame_is) (laws.replies.host.replied is.key number code serial) in
      not_both number ksn code mac why (laws.replies.host.one_answer answer (Reply number code mac) (Refusal ksn why) reply refusal)

  no_reversal_reply : (numbers : Numbers) (state : ReversalState) → AreNumbers numbers → ¬ IsReversalReplyWith keys numbers state answer
  no_reversal_reply numbers state are is =
      let reply = reversal_reply_of (response_key_of is.key) numbers state in
      laws.apart_answers answer (Refusal ksn why) reply refusal (subst (λ bytes. IsReversalReply bytes reply) (sym is.frame_is) (laws.told (response_key_of is.key) numbers state are))

module _ (laws : RefusalLaws) (basis : LineBasis) (bytes answer : List ℕ) (ksn : Serial) (why : ℕ) (refusal : IsRefusal answer ksn why) where
  -- a request is refused
  request_refused : (request : Request) → IsRequest bytes request → IsAuthentic basis.keys request → IsRefusalFor (without_repeats basis) bytes answer → (why ≡ 5) ⊎ (why ≡ 6)
  request_refused request is authentic (inl malformed) = absurd (malformed.no_request request is)
  request_refused request is authentic (inr refused) =
      let same = laws.one_request bytes request refused.request is refused.is_request in
      let read = laws.refusals (without_repeats basis) bytes answer refused in
      subst (λ it. (it ≡ 5) ⊎ (it ≡ 6)) (same_reason refused.request.ksn ksn (reason_number refused.reason) why (laws.replies.host.one_answer answer (Refusal refused.request.ksn (reason_number refused.reason)) (Refusal ksn why) read refusal))
      (used_or_full (without_repeats basis) refused.request refused.reason (subst (IsAuthentic basis.keys) same authentic) refused.refuses)

  -- a refusal of a reversal is read as that
  read_refusal : (number : Serial) (reason : _) → IsSerial number → answer ≡ refusal_of number reason → IsRefusal answer number (reason_number reason)
  read_refusal number reason serial is = record { fields = (serial, record { least = grind arith; most = grind arith }); laid_out = is }

  reversal_refused : (reversal : reversal_frame.Reversal) → IsReversal bytes reversal → IsAuthenticReversal basis.keys reversal → line.IsReversalRefused basis bytes answer → (why ≡ 5) ⊎ (why ≡ 6)
  reversal_refused reversal is authentic refused =
      let same = laws.one_reversal bytes reversal refused.reversal is refused.is_reversal in
      let read = read_refusal refused.reversal.numbers.ksn refused.why refused.is_reversal.fields.numbers_are.ksn_is refused.frame_is in
      subst (λ it. (it ≡ 5) ⊎ (it ≡ 6))
      (same_reason refused.reversal.numbers.ksn ksn (reason_number refused.why) why (laws.replies.host.one_answer answer (Refusal refused.reversal.numbers.ksn (reason_number refused.why)) (Refusal ksn why) read refusal))
      (reversal_used_or_full basis refused.reversal refused.why (subst (IsAuthenticReversal basis.keys) same authentic) refused.refuses)

  -- what a frame is refused for
  judged_refused : (added : Entries) → IsAuthenticSent basis.keys bytes → IsJudged basis bytes answer added → (why ≡ 5) ⊎ (why ≡ 6)
  judged_refused added (inl (request, is, authentic)) (inl (inl (inl refused), none)) = request_refused request is authentic refused.refusal
  judged_refused added (inr (reversal, is, authentic)) (inl (inl (inl refused), none)) = absurd (refused.no_reversal reversal is)
  judged_refused added sent (inl (inl (inr again), none)) = absurd (no_reply laws basis.keys answer ksn why refusal again.request.ksn again.code again.is_request.fields.ksn_is again.reply)
  judged_refused added (inl (request, is, authentic)) (inl (inr (inl refused), none)) = absurd (laws.apart bytes request refused.reversal is refused.is_reversal)
  judged_refused added (inr (reversal, is, authentic)) (inl (inr (inl refused), none)) = reversal_refused reversal is authentic refused
  judged_refused added sent (inl (inr (inr again), none)) = absurd (no_reversal_reply laws basis.keys answer ksn why refusal again.reversal.numbers again.state again.is_reversal.fields.numbers_are again.reply)
  judged_refused added sent (inr (entry, inl paid, one)) = absurd (no_reply laws basis.keys answer ksn why refusal paid.request.ksn paid.accepted.reply.code paid.accepted.is_request.fields.ksn_is paid.accepted.reply.reply)
  judged_refused added sent (inr (entry, inr reversed, one)) =
      absurd (no_reversal_reply laws basis.keys answer ksn why refusal reversed.reversal.numbers reversed.state reversed.is_reversal.fields.numbers_are reversed.reply)

not_empty : (frame : List ℕ) → (frame ∷ []) ≡ [] → ⊥
not_empty frame same = absurd (cc)

other_refusal : (outcome : Outcome) → IsOther outcome → IsRefusedAsUsedOrFull outcome
other_refusal (came.Refused n ksn why) is = absurd is
other_refusal _ is = tt

module _ {C B J I : Type 0} (m : Meanings C B J I) (laws : RefusalLaws) (all_authentic : (books : BooksOf C B J I) → Reached m books → (frame : Frame) → Contains books.requests frame → IsAuthenticSent books.host.keys frame.items) where
  answered_refused : (old new : BooksOf C B J I) (k n : ℕ) (ksn : Serial) (why : ℕ) → Reached m old → IsAnswered m old k (came.Refused n ksn why) new → (why ≡ 5) ⊎ (why ≡ 6)
  answered_refused old new k n ksn why reached is = elim (reached_safe m laws.replies old reached).host.runs [
    | inl stopped ↦ absurd (not_empty is.frame.items (is.answered.stopped stopped).no_frames)
    | inr by ↦
        let judged = (is.answered.answered by.0 by.1).1 in
        judged_refused laws (basis_of m.host old.host by.0) is.frame.items is.answer.items ksn why is.says.1 judged.0 (all_authentic old reached is.frame (at_contains old.requests k is.frame is.sent)) judged.2
  ]

  given_refused : (old new : BooksOf C B J I) (k : ℕ) (outcome : Outcome) → Reached m old → IsAnswered m old k outcome new → IsRefusedAsUsedOrFull outcome
  given_refused old new k (came.Refused n ksn why) reached is = answered_refused old new k n ksn why reached is
  given_refused old new k _ reached is = tt

  taken_refused : (old new : BooksOf C B J I) (outcome : Outcome) → Reached m old → Seen m old outcome new → IsRefusedAsUsedOrFull outcome
  taken_refused old new outcome reached (given k is) = given_refused old new k outcome reached is
  taken_refused old new (came.Refused n ksn why) reached (taken k t is) = elim is.till.changed [
    | inl request ↦ absurd request.takes
    | inr reversal ↦ absurd reversal.1
  ]
  taken_refused old new _ reached (taken k t is) = tt
  taken_refused old new outcome reached (neither same is) = other_refusal outcome is

  run_refuses : (old new : BooksOf C B J I) (events : List Event) (outcomes : List Outcome) → Reached m old → Run m old events outcomes new → All IsRefusedAsUsedOrFull outcomes
  run_refuses old new [] [] reached run = All-nil IsRefusedAsUsedOrFull
  run_refuses old new [] (outcome ∷ outcomes) reached run = absurd run
  run_refuses old new (event ∷ events) [] reached run = absurd run
  run_refuses old new (event ∷ events) (outcome ∷ outcomes) reached run =
      All-cons IsRefusedAsUsedOrFull outcome outcomes (taken_refused old run.0 outcome reached (step_seen m old event outcome run.0 run.1))
      (run_refuses run.0 new events outcomes (reached_step m old run.0 event outcome reached run.1) run.2)

  -- a call refuses no frame that was sent but because its number is used or there is no room
  pub leads_refuses : (old new : BooksOf C B J I) (outcomes : List Outcome) → Reached m old → CallLeads m old outcomes new → All IsRefusedAsUsedOrFull outcomes
  leads_refuses old new outcomes reached leads = run_refuses old leads.mid leads.events outcomes reached leads.run
