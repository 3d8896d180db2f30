-- By one basis, frames in turn have one list of answers, and add one list of entries.
use Rattle.std.proofs.Common.{◌≡◌, ◌<◌, ◌⊎◌, ℕ, List, [], ◌∷◌, ◌++◌, inl, inr, refl, sym, ap, subst, ◌∙◌, arith}
use Rattle.duk_frame.specs.Answer.{IsAnswer, IsRefusal, IsReply, refusal_text}
use Rattle.duk_frame.specs.Frame.{framed}
use Rattle.duk_frame.specs.Payment.{reply_mac}
use Rattle.duk_frame.specs.declared.answer.AnswerFrame.{AnswerFrame}
use Rattle.duk_frame.specs.declared.answer.AnswerFrame.TheVariants.{Refusal, Reply}
use Rattle.duk_frame.specs.declared.code.Code.{Code}
use Rattle.duk_frame.specs.declared.request.Request.{Request}
use Rattle.duk_host.specs.Judgement.{IsAccepted, IsAnswerTo, IsRefusalFor, JudgementBasis, reason_number}
use Rattle.duk_host.specs.declared.reason.Reason.{Reason}
use Rattle.duk_host.specs.declared.reason.Reason.TheVariants as reason
use Rattle.duk_journal.specs.Groups.{Entries}
use Rattle.duk_journal.specs.Standing.{UseNewNumbers}
use Rattle.duk_journal.specs.declared.entry.Entry.{Entry}
use Rattle.duk_reversal.specs.Reversal.{IsReversal}
use Rattle.duk_reversal.specs.declared.reversal.Reversal.{Reversal}
use Rattle.duk_reversal.specs.declared.state.ReversalState.{ReversalState}
use Rattle.duk_reversal.specs.declared.state.ReversalState.TheVariants.{NoneStands, Undone}
use Rattle.duk_tree.specs.Serial.{Serial, serial_bytes}
use Rattle.duk_journal_host.specs.Judged.{AreJudged}
use Rattle.duk_journal_host.specs.Judgement.{FindsState, IsAnsweredAgain, IsJudged, IsPaid, IsReasonAgainst, IsRefused, IsReversalAcceptable, IsReversalAnsweredAgain, IsReversalRefused, IsReversalReplyWith, IsReversed, LineBasis, ReversalFails, ReversalPasses, entry_of, refusal_of, reversal_entry, with_entries, without_repeats}
use Rattle.duk_journal_host.proofs.AnsweredAgain.{ReadingLaws, answered_again, reversed_again}
use Rattle.duk_journal_host.proofs.NewNumbers.{new_after_one}
use Rattle.duk_journal_host.proofs.OneNumber.{same_reply, same_reversal_reply}

-- what is known of frames: each is read in one way; bytes have one answer of a host that answers
-- nothing again; and its refusals and replies are read as such
pub record FrameLaws : Type 0 where
  pub readings : ReadingLaws
  pub one_reading : (bytes : List ℕ) (answer other : AnswerFrame) → IsAnswer bytes answer → IsAnswer bytes other → answer ≡ other
  pub one_answer : (basis : JudgementBasis) (bytes frame other : List ℕ) → IsAnswerTo basis bytes frame → IsAnswerTo basis bytes other → frame ≡ other
  pub refused : (basis : JudgementBasis) (bytes frame : List ℕ) → IsRefusalFor basis bytes frame → (ksn : Serial) × (number : ℕ) × IsRefusal frame ksn number
  pub accepted : (basis : JudgementBasis) (bytes : List ℕ) (request : Request) (frame : List ℕ) → (accepted : IsAccepted basis bytes request frame)
      → IsReply frame request.ksn accepted.reply.code (reply_mac accepted.reply.reply.key request.ksn accepted.reply.code)

no_reply_too : (ksn serial : Serial) (number : ℕ) (code : Code) (mac : List ℕ) → Refusal ksn number ≡ Reply serial code mac → ⊥
no_reply_too ksn serial number code mac same = cc

same_code : (ksn serial : Serial) (code other : Code) (mac also : List ℕ) → Reply ksn code mac ≡ Reply serial other also → code ≡ other
same_code ksn serial code other mac also same = cc

-- ---- a frame is judged as a request, or as a reversal

abbrev IsRequestJudged : LineBasis → List ℕ → List ℕ → Entries → Type 0
IsRequestJudged basis frame answer added =
    ((IsRefused basis frame answer ⊎ IsAnsweredAgain basis frame answer) × (added ≡ []))
    ⊎ ((entry : Entry) × IsPaid basis frame answer entry × (added ≡ entry ∷ []))

abbrev IsReversalJudged : LineBasis → List ℕ → List ℕ → Entries → Type 0
IsReversalJudged basis frame answer added =
    ((IsReversalRefused basis frame answer ⊎ IsReversalAnsweredAgain basis frame answer) × (added ≡ []))
    ⊎ ((entry : Entry) × IsReversed basis frame answer entry × (added ≡ entry ∷ []))

kind_of : (basis : LineBasis) (frame answer : List ℕ) (added : Entries) → IsJudged basis frame answer added → IsRequestJudged basis frame answer added ⊎ IsReversalJudged basis frame answer added
kind_of basis frame answer added (inl (inl request, none)) = inl (inl (request, none))
kind_of basis frame answer added (inl (inr reversal, none)) = inr (inl (reversal, none))
kind_of basis frame answer added (inr (entry, inl paid, one)) = inl (inr (entry, paid, one))
kind_of basis frame answer added (inr (entry, inr reversed, one)) = inr (inr (entry, reversed, one))

reversal_in : (basis : LineBasis) (frame answer : List ℕ) (added : Entries) → IsReversalJudged basis frame answer added → (reversal : Reversal) × IsReversal frame reversal
reversal_in basis frame answer added (inl (inl refused, none)) = (refused.reversal, refused.is_reversal)
reversal_in basis frame answer added (inl (inr again, none)) = (again.reversal, again.is_reversal)
reversal_in basis frame answer added (inr (entry, reversed, one)) = (reversed.reversal, reversed.is_reversal)

-- ---- the least reason

pass_or_fail : (basis : LineBasis) (reversal : Reversal) (why : Reason) → ReversalPasses basis reversal why → ¬ ReversalFails basis reversal why
pass_or_fail basis reversal reason.Malformed passes fails = fails
pass_or_fail basis reversal reason.UnknownKeySet passes fails = absurd (cc (passes, fails))
pass_or_fail basis reversal reason.BadCounter passes fails = fails passes
pass_or_fail basis reversal reason.BadMac passes fails = fails passes
pass_or_fail basis reversal reason.Used passes fails = passes fails
pass_or_fail basis reversal reason.LogFull passes fails = omega (arith, passes, fails)

one_reason : (basis : LineBasis) (reversal : Reversal) (why other : Reason) → IsReasonAgainst basis reversal why → IsReasonAgainst basis reversal other → reason_number why ≡ reason_number other
one_reason basis reversal why other is also =
    let not_less : ¬ (reason_number why < reason_number other) = λ less. pass_or_fail basis reversal why (also.earlier_met why less) is.fails in
    let not_more : ¬ (reason_number other < reason_number why) = λ more. pass_or_fail basis reversal other (is.earlier_met other more) also.fails in
    omega (arith, not_less, not_more)

no_reason : (basis : LineBasis) (reversal : Reversal) (why : Reason) → IsReversalAcceptable basis reversal → ¬ ReversalFails basis reversal why
no_reason basis reversal reason.Malformed acceptable fails = fails
no_reason basis reversal reason.UnknownKeySet acceptable fails = absurd (cc (acceptable.authentic.key_is.held, fails))
no_reason basis reversal reason.BadCounter acceptable fails = fails acceptable.authentic.key_is.usable
no_reason basis reversal reason.BadMac acceptable fails = fails acceptable.authentic
no_reason basis reversal reason.Used acceptable fails = acceptable.new fails
no_reason basis reversal reason.LogFull acceptable fails = omega (arith, acceptable.room, fails)

one_state : (entries : Entries) (number : Serial) (state other : ReversalState) → FindsState entries number state → FindsState entries number other → state ≡ other
one_state entries number Undone Undone finds also = refl
one_state entries number Undone NoneStands finds also = absurd (also finds)
one_state entries number NoneStands Undone finds also = absurd (finds also)
one_state entries number NoneStands NoneStands finds also = refl

module _ (laws : FrameLaws) (basis : LineBasis) (new : UseNewNumbers basis.entries) (frame answer other : List ℕ) where
  -- ---- requests

  -- bytes that are refused are not paid too
  not_paid_too : (reply : List ℕ) (entry : Entry) (refusal : List ℕ) → IsRefused basis frame refusal → IsPaid basis frame reply entry → ⊥
  not_paid_too reply entry refusal refused paid =
      let host = without_repeats basis in
      let same : refusal ≡ reply = laws.one_answer host frame refusal reply (inl refused.refusal) (inr (inl (paid.request, paid.accepted))) in
      let read = laws.refused host frame reply (subst (λ answer. IsRefusalFor host frame answer) same refused.refusal) in
      no_reply_too read.0 paid.request.ksn read.1 paid.accepted.reply.code (reply_mac paid.accepted.reply.reply.key paid.request.ksn paid.accepted.reply.code)
      (laws.one_reading reply _ _ read.2 (laws.accepted host frame paid.request reply paid.accepted))

  -- a request is paid with one frame, and makes one entry
  paid_once : (entry further : Entry) → IsPaid basis frame answer entry → IsPaid basis frame other further → (answer ≡ other) × (entry ≡ further)
  paid_once entry further one two =
      let host = without_repeats basis in
      let same : answer ≡ other = laws.one_answer host frame answer other (inr (inl (one.request, one.accepted))) (inr (inl (two.request, two.accepted))) in
      let request : one.request ≡ two.request = laws.readings.one_request frame one.request two.request one.accepted.is_request two.accepted.is_request in
      let reply = subst (λ frame. IsReply frame one.request.ksn one.accepted.reply.code (reply_mac one.accepted.reply.reply.key one.request.ksn one.accepted.reply.code)) same (laws.accepted host frame one.request answer one.accepted) in
      let code : one.accepted.reply.code ≡ two.accepted.reply.code = same_code _ _ _ _ _ _ (laws.one_reading other _ _ reply (laws.accepted host frame two.request other two.accepted)) in (
        same,
        one.entry_is ∙ ap (λ request. entry_of request one.accepted.reply.code) request ∙ ap (λ code. entry_of two.request code) code ∙ sym two.entry_is,
      )

  -- a request that is answered again has no other answer, and adds nothing
  again_alone : (one another : List ℕ) (further : Entries) → IsAnsweredAgain basis frame one → IsJudged basis frame another further → (one ≡ another) × (further ≡ [])
  again_alone one another further again judged =
      let rest = answered_again laws.readings basis frame another further again.request again.code new judged again.is_request again.authentic again.kept in
      (same_reply basis.keys again.request.ksn again.code one another again.reply rest.0, rest.1)

  one_request : (added further : Entries) → IsRequestJudged basis frame answer added → IsRequestJudged basis frame other further → IsJudged basis frame answer added → IsJudged basis frame other further
      → (answer ≡ other) × (added ≡ further)
  one_request added further (inl (inr again, none)) two first second = let alone = again_alone answer other further again second in (alone.0, none ∙ sym alone.1)
  one_request added further (inl (inl one, none)) (inl (inr again, nothing)) first second = let alone = again_alone other answer added again first in (sym alone.0, alone.1 ∙ sym nothing)
  one_request added further (inr one) (inl (inr again, nothing)) first second = let alone = again_alone other answer added again first in (sym alone.0, alone.1 ∙ sym nothing)
  one_request added further (inl (inl one, none)) (inl (inl two, nothing)) first second =
      (laws.one_answer (without_repeats basis) frame answer other (inl one.refusal) (inl two.refusal), none ∙ sym nothing)
  one_request added further (inl (inl one, none)) (inr (entry, paid, is)) first second = absurd (not_paid_too other entry answer one paid)
  one_request added further (inr (entry, paid, is)) (inl (inl two, none)) first second = absurd (not_paid_too answer entry other two paid)
  one_request added further (inr (entry, paid, is)) (inr (more, also, are_more)) first second =
      let both = paid_once entry more paid also in (both.0, is ∙ ap (λ (entry : Entry). entry ∷ []) both.1 ∙ sym are_more)

  -- ---- reversals

  refused_once : IsReversalRefused basis frame answer → IsReversalRefused basis frame other → answer ≡ other
  refused_once one two =
      let same : one.reversal ≡ two.reversal = laws.readings.one_reversal frame one.reversal two.reversal one.is_reversal two.is_reversal in
      let number = one_reason basis two.reversal one.why two.why (subst (λ reversal. IsReasonAgainst basis reversal one.why) same one.refuses) two.refuses in
      one.frame_is ∙ ap (λ (reversal : Reversal). refusal_of reversal.numbers.ksn one.why) same
      ∙ ap (λ (number : ℕ). framed (refusal_text (serial_bytes two.reversal.numbers.ksn) number)) number ∙ sym two.frame_is

  not_reversed_too : (refusal reply : List ℕ) (entry : Entry) → IsReversalRefused basis frame refusal → IsReversed basis frame reply entry → ⊥
  not_reversed_too refusal reply entry refused reversed =
      let same : refused.reversal ≡ reversed.reversal = laws.readings.one_reversal frame refused.reversal reversed.reversal refused.is_reversal reversed.is_reversal in
      no_reason basis reversed.reversal refused.why reversed.acceptable (subst (λ reversal. ReversalFails basis reversal refused.why) same refused.refuses.fails)

  reversed_once : (entry further : Entry) → IsReversed basis frame answer entry → IsReversed basis frame other further → (answer ≡ other) × (entry ≡ further)
  reversed_once entry further one two =
      let same : one.reversal ≡ two.reversal = laws.readings.one_reversal frame one.reversal two.reversal one.is_reversal two.is_reversal in
      let finds = subst (λ (reversal : Reversal). FindsState basis.entries reversal.numbers.reversed one.state) same one.finds in
      let state : one.state ≡ two.state = one_state basis.entries two.reversal.numbers.reversed one.state two.state finds two.finds in
      let reply = subst (λ (reversal : Reversal). IsReversalReplyWith basis.keys reversal.numbers one.state answer) same one.reply in (
        same_reversal_reply basis.keys two.reversal.numbers two.state answer other (subst (λ state. IsReversalReplyWith basis.keys two.reversal.numbers state answer) state reply) two.reply,
        one.entry_is ∙ ap (λ reversal. reversal_entry reversal one.state) same ∙ ap (λ state. reversal_entry two.reversal state) state ∙ sym two.entry_is,
      )

  reversal_again_alone : (one another : List ℕ) (further : Entries) → IsReversalAnsweredAgain basis frame one → IsJudged basis frame another further → (one ≡ another) × (further ≡ [])
  reversal_again_alone one another further again judged =
      let rest = reversed_again laws.readings basis frame another further again.reversal again.state new judged again.is_reversal again.authentic again.kept in
      (same_reversal_reply basis.keys again.reversal.numbers again.state one another again.reply rest.0, rest.1)

  one_reversal : (added further : Entries) → IsReversalJudged basis frame answer added → IsReversalJudged basis frame other further → IsJudged basis frame answer added → IsJudged basis frame other further
      → (answer ≡ other) × (added ≡ further)
  one_reversal added further (inl (inr again, none)) two first second = let alone = reversal_again_alone answer other further again second in (alone.0, none ∙ sym alone.1)
  one_reversal added further (inl (inl one, none)) (inl (inr again, nothing)) first second = let alone = reversal_again_alone other answer added again first in (sym alone.0, alone.1 ∙ sym nothing)
  one_reversal added further (inr one) (inl (inr again, nothing)) first second = let alone = reversal_again_alone other answer added again first in (sym alone.0, alone.1 ∙ sym nothing)
  one_reversal added further (inl (inl one, none)) (inl (inl two, nothing)) first second = (refused_once one two, none ∙ sym nothing)
  one_reversal added further (inl (inl one, none)) (inr (entry, reversed, is)) first second = absurd (not_reversed_too answer other entry one reversed)
  one_reversal added further (inr (entry, reversed, is)) (inl (inl two, none)) first second = absurd (not_reversed_too other answer entry two reversed)
  one_reversal added further (inr (entry, reversed, is)) (inr (more, also, are_more)) first second =
      let both = reversed_once entry more reversed also in (both.0, is ∙ ap (λ (entry : Entry). entry ∷ []) both.1 ∙ sym are_more)

-- ---- frames

no_request_too : (laws : FrameLaws) (basis : LineBasis) (frame answer : List ℕ) (added : Entries) (reversal : Reversal) → IsRequestJudged basis frame answer added → ¬ IsReversal frame reversal
no_request_too laws basis frame answer added reversal (inl (inl refused, none)) is = refused.no_reversal reversal is
no_request_too laws basis frame answer added reversal (inl (inr again, none)) is = laws.readings.apart frame again.request reversal again.is_request is
no_request_too laws basis frame answer added reversal (inr (entry, paid, one)) is = laws.readings.apart frame paid.request reversal paid.accepted.is_request is

-- a frame has one answer, and adds one list of entries
pub one_frame : (laws : FrameLaws) (basis : LineBasis) (frame answer other : List ℕ) (added further : Entries) → UseNewNumbers basis.entries → IsJudged basis frame answer added → IsJudged basis frame other further
    → (answer ≡ other) × (added ≡ further)
one_frame laws basis frame answer other added further new one two = elim (kind_of basis frame answer added one) [
  | inl request ↦ elim (kind_of basis frame other further two) [
    | inl also ↦ one_request laws basis new frame answer other added further request also one two
    | inr reversal ↦ let it = reversal_in basis frame other further reversal in absurd (no_request_too laws basis frame answer added it.0 request it.1)
  ]
  | inr reversal ↦ elim (kind_of basis frame other further two) [
    | inl request ↦ let it = reversal_in basis frame answer added reversal in absurd (no_request_too laws basis frame other further it.0 request it.1)
    | inr also ↦ one_reversal laws basis new frame answer other added further reversal also one two
  ]
]

-- frames in turn have one list of answers, and add one list of entries
pub one_judgement : (laws : FrameLaws) (basis : LineBasis) (frames answers others : List (List ℕ)) (added further : Entries) → UseNewNumbers basis.entries → AreJudged basis frames answers added → AreJudged basis frames others further
    → (answers ≡ others) × (added ≡ further)
one_judgement laws basis [] [] [] added further new one two = (refl, one ∙ sym two)
one_judgement laws basis [] [] (other ∷ others) added further new one two = absurd two
one_judgement laws basis [] (answer ∷ answers) others added further new one two = absurd one
one_judgement laws basis (frame ∷ frames) [] others added further new one two = absurd one
one_judgement laws basis (frame ∷ frames) (answer ∷ answers) [] added further new one two = absurd two
one_judgement laws basis (frame ∷ frames) (answer ∷ answers) (other ∷ others) added further new one two =
    let first = one_frame laws basis frame answer other one.0 two.0 new one.2 two.2 in
    let still = new_after_one basis frame answer one.0 one.2 new in
    let later = subst (λ added. AreJudged (with_entries basis added) frames others two.1) (sym first.1) two.3 in
    let rest = one_judgement laws (with_entries basis one.0) frames answers others one.1 two.1 still one.3 later in (
      ap (λ answer. answer ∷ answers) first.0 ∙ ap (λ answers. other ∷ answers) rest.0,
      one.4 ∙ ap (λ added. added ++ one.1) first.1 ∙ ap (λ later. two.0 ++ later) rest.1 ∙ sym two.4,
    )
