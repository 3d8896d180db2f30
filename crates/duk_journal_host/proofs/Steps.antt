-- A frame that is authenticated, settled and answered is judged by what is kept.
use Rattle.std.proofs.Common.{◌≡◌, ◌∙◌, ℕ, List, inl, inr, refl, sym, ap, subst}
use Rattle.duk_frame.specs.Request.{IsRequest}
use Rattle.duk_frame.specs.declared.code.Code.{Code}
use Rattle.duk_frame.specs.declared.request.Request.{Request}
use Rattle.duk_host.specs.Judgement.{Decision, IsAuthentic, IsCodeOf, IsReasonAgainst, IsRefusalFor, refusal_frame}
use Rattle.duk_host.specs.declared.reason.Reason.{Reason}
use Rattle.duk_host.specs.declared.reason.Reason.TheVariants as reason
use Rattle.duk_hsm.specs.Commands.{HasTransactionKey}
use Rattle.duk_hsm.specs.Keys.{HsmKeys}
use Rattle.duk_journal.specs.Groups.{Entries}
use Rattle.duk_reversal.specs.Reversal.{IsReversal}
use Rattle.duk_reversal.specs.declared.reversal.Reversal.{Reversal}
use Rattle.duk_reversal.specs.declared.state.ReversalState.{ReversalState}
use Rattle.duk_tree.specs.Serial.{Serial, serial_bytes}
use Rattle.duk_journal_host.specs.Candidate.{IsCandidate, IsItsOwnCode, IsOfCandidate}
use Rattle.duk_journal_host.specs.Judgement.{IsJudged, IsPaymentKept, IsReasonAgainst as IsReasonAgainstReversal, IsSettled, LineBasis, MayBeTaken, line_basis, refusal_of, reversal_entry, without_repeats}
use Rattle.duk_journal.specs.Standing.{payment_entry}
use Rattle.duk_journal_host.specs.Steps.{IsAdmissible, IsAnswerOf, IsAsked, IsCodeFor, IsPurchase, IsPurchaseKnown, IsReversalAsked, IsReversalKnown, IsSettledBy, added_by, number_in, purchase_of}
use Rattle.duk_journal_host.specs.declared.authentic.Authentic.{Authentic}
use Rattle.duk_journal_host.specs.declared.authentic.Authentic.TheVariants as authentic
use Rattle.duk_journal_host.specs.declared.authentic.Purchase.{Purchase}
use Rattle.duk_journal_host.specs.declared.candidate.Candidate.{Candidate}
use Rattle.duk_journal_host.specs.declared.candidate.Candidate.TheVariants as candidate
use Rattle.duk_journal_host.specs.declared.settlement.Settled.{Settled}
use Rattle.duk_journal_host.specs.declared.settlement.Settled.TheVariants as settled
use Rattle.duk_journal_host.specs.declared.settlement.Settlement.{Settlement}
use Rattle.duk_journal_host.specs.declared.settlement.Settlement.TheVariants.{Full, Kept, KnownAgain, Used}
use Rattle.duk_journal_host.specs.inner.Judged.{IsNumberOf}
use Rattle.duk_journal_host.specs.inner.Steps.{IsAuthenticated, IsItsCode, IsOf, number_of, room_for}
use Rattle.duk_journal_host.proofs.ReasonsAgainst.{is_full_for_request, is_full_for_reversal, is_used_request, is_used_reversal}

module _ (keys : HsmKeys) (entries : Entries) (capacity room : ℕ) (decides : Decision) (bytes frame : List ℕ) (one_request : (bytes : List ℕ) (request other : Request) → IsRequest bytes request → IsRequest bytes other → request ≡ other) where
  abbrev basis : LineBasis
  basis = line_basis keys entries capacity room decides

  -- ---- a payment

  module _ (request : Request) (no_reversal : (reversal : Reversal) → ¬ IsReversal bytes reversal) (is_request : IsRequest bytes request) (authentic : IsAuthentic keys request) where
    known_of : (code : Code) → IsPaymentKept basis request code → IsPurchaseKnown entries (purchase_of request) code
    known_of code kept = record { amount = kept.amount; kept = kept.kept; not_undone = kept.not_undone }

    refused : ((code : Code) → ¬ IsPurchaseKnown entries (purchase_of request) code) → IsRefusalFor (without_repeats basis) bytes frame → IsSettled basis bytes frame
    refused unknown refusal = inl (inl (record {
      no_reversal = no_reversal;
      no_repeat = λ other code is_other authentic kept.
          unknown code (known_of code (subst (λ request. IsPaymentKept basis request code) (one_request bytes other request is_other is_request) kept));
      refusal = refusal;
    }))

    refusal_for : (against : Reason) → IsReasonAgainst (without_repeats basis) request against → frame ≡ refusal_frame (serial_bytes request.ksn) against → IsRefusalFor (without_repeats basis) bytes frame
    refusal_for against refuses frame_is = inr (record { request = request; reason = against; is_request = is_request; refuses = refuses; frame_is = frame_is })

    payment_judged : (settlement : Settlement Code) → IsSettledBy entries capacity room (IsCodeFor keys decides bytes) (settled.Payment (purchase_of request) settlement)
        → IsAnswerOf keys (settled.Payment (purchase_of request) settlement) frame → IsJudged basis bytes frame (added_by (settled.Payment (purchase_of request) settlement))
    payment_judged (KnownAgain code) known reply = inl (
      inl (inr (record {
        request = request;
        code = code;
        is_request = is_request;
        authentic = authentic;
        kept = record { amount = known.amount; kept = known.kept; not_undone = known.not_undone };
        reply = reply;
      })),
      refl,
    )
    payment_judged Used settles frame_is =
        inl (refused settles.0 (refusal_for reason.Used (is_used_request (without_repeats basis) request refl authentic settles.1) frame_is), refl)
    payment_judged Full settles frame_is =
        inl (refused settles.0 (refusal_for reason.LogFull (is_full_for_request (without_repeats basis) request refl authentic settles.1 settles.2) frame_is), refl)
    payment_judged (Kept code) settles reply = inr (
      payment_entry request.ksn request.amount code request.mac,
      inl (record {
        request = request;
        accepted = record {
          is_request = is_request;
          acceptable = record { authentic = authentic; no_repeat = refl; fresh = settles.0.new; room = settles.0.room_left };
          reply = record { code = code; code_is = settles.1 request is_request; reply = reply };
        };
        entry_is = refl;
      }),
      refl,
    )

  -- ---- a reversal

  module _ (reversal : Reversal) (is : IsReversalAsked keys bytes reversal) where
    refuses : (why : Reason) → IsReasonAgainstReversal basis reversal why → ((state : ReversalState) → ¬ IsReversalKnown entries reversal state) → frame ≡ refusal_of reversal.numbers.ksn why → IsSettled basis bytes frame
    refuses why against unknown frame_is = inr (inl (record {
      reversal = reversal;
      why = why;
      is_reversal = is.is_reversal;
      no_repeat = λ authentic. unknown;
      refuses = against;
      frame_is = frame_is;
    }))

    reversal_judged : (settlement : Settlement ReversalState) → IsSettledBy entries capacity room (IsCodeFor keys decides bytes) (settled.Reversal reversal settlement)
        → IsAnswerOf keys (settled.Reversal reversal settlement) frame → IsJudged basis bytes frame (added_by (settled.Reversal reversal settlement))
    reversal_judged (KnownAgain state) known reply = inl (
      inr (inr (record {
        reversal = reversal;
        state = state;
        is_reversal = is.is_reversal;
        authentic = is.authentic;
        kept = known;
        reply = reply;
      })),
      refl,
    )
    reversal_judged Used settles frame_is = inl (refuses reason.Used (is_used_reversal basis reversal is.authentic settles.1) settles.0 frame_is, refl)
    reversal_judged Full settles frame_is = inl (refuses reason.LogFull (is_full_for_reversal basis reversal is.authentic settles.1 settles.2) settles.0 frame_is, refl)
    reversal_judged (Kept state) settles reply = inr (
      reversal_entry reversal state,
      inr (record {
        reversal = reversal;
        state = state;
        is_reversal = is.is_reversal;
        acceptable = record { authentic = is.authentic; new = settles.0.new; room = settles.0.room_left };
        finds = settles.1;
        reply = reply;
        entry_is = refl;
      }),
      refl,
    )

  -- ---- either

  pub judged_by_steps : (settled : Settled) → IsAsked keys bytes settled → IsSettledBy entries capacity room (IsCodeFor keys decides bytes) settled → IsAnswerOf keys settled frame
      → IsJudged basis bytes frame (added_by settled)
  judged_by_steps (settled.Payment purchase settlement) is settles answers =
      subst (λ purchase. IsSettledBy entries capacity room (IsCodeFor keys decides bytes) (settled.Payment purchase settlement) → IsAnswerOf keys (settled.Payment purchase settlement) frame
      → IsJudged basis bytes frame (added_by (settled.Payment purchase settlement))) (sym is.purchase_is) (payment_judged is.request is.no_reversal is.is_request is.authentic settlement) settles answers
  judged_by_steps (settled.Reversal reversal settlement) is settles answers = reversal_judged reversal is settlement settles answers

  -- what is authentic and admissible may be taken
  pub may_be_taken : (authentic : Authentic) → IsAuthenticated keys bytes authentic → IsAdmissible entries (number_of authentic) (room_for authentic capacity room) → MayBeTaken basis bytes
  may_be_taken (authentic.Payment payment) is admissible = inl (
    payment.request,
    is.0,
    record {
      authentic = subst (λ request. IsAuthentic keys request) (one_request bytes is.1.request payment.request is.1.is_request is.0) is.1.authentic;
      no_repeat = refl;
      fresh = admissible.new;
      room = admissible.room_left;
    },
  )
  may_be_taken (authentic.Reversal reversal) is admissible =
      inr (reversal, is.is_reversal, record { authentic = is.authentic; new = admissible.new; room = admissible.room_left })

  -- the code that the issuer gives is that of the request that the bytes are
  pub its_code : (authentic : Authentic) (settled : Settled) → IsAuthenticated keys bytes authentic → IsOf authentic settled → IsSettledBy entries capacity room (IsItsCode keys decides authentic) settled
      → IsSettledBy entries capacity room (IsCodeFor keys decides bytes) settled
  its_code (authentic.Payment payment) (settled.Payment purchase (Kept code)) is of settles =
      (settles.0, λ request is_request. subst (λ request. IsCodeOf keys decides request code) (one_request bytes payment.request request is.0 is_request) settles.1)
  its_code (authentic.Payment payment) (settled.Payment purchase (KnownAgain code)) is of settles = settles
  its_code (authentic.Payment payment) (settled.Payment purchase Used) is of settles = settles
  its_code (authentic.Payment payment) (settled.Payment purchase Full) is of settles = settles
  its_code (authentic.Payment payment) (settled.Reversal reversal settlement) is of settles = absurd of
  its_code (authentic.Reversal one) (settled.Payment purchase settlement) is of settles = absurd of
  its_code (authentic.Reversal one) (settled.Reversal reversal settlement) is of settles = settles

-- ---- what an authentic frame has, whatever is kept

pub asked_is : (keys : HsmKeys) (bytes : List ℕ) (authentic : Authentic) (settled : Settled) → IsAuthenticated keys bytes authentic → IsOf authentic settled → IsAsked keys bytes settled
asked_is keys bytes (authentic.Payment payment) (settled.Payment purchase settlement) is of = subst (λ purchase. IsPurchase keys bytes purchase) (sym of) is.1
asked_is keys bytes (authentic.Payment payment) (settled.Reversal reversal settlement) is of = absurd of
asked_is keys bytes (authentic.Reversal one) (settled.Payment purchase settlement) is of = absurd of
asked_is keys bytes (authentic.Reversal one) (settled.Reversal reversal settlement) is of = subst (λ reversal. IsReversalAsked keys bytes reversal) (sym of) is

pub has_key : (keys : HsmKeys) (bytes : List ℕ) (settled : Settled) → IsAsked keys bytes settled → HasTransactionKey keys (number_in settled)
has_key keys bytes (settled.Payment purchase settlement) is =
    subst (λ (purchase : Purchase). HasTransactionKey keys purchase.number) (sym is.purchase_is) (is.authentic.key, is.authentic.key_is)
has_key keys bytes (settled.Reversal reversal settlement) is = (is.authentic.key, is.authentic.key_is)

-- its number is that of the frame
pub number_is : (keys : HsmKeys) (bytes : List ℕ) (ksn : Serial) (settled : Settled) → IsAsked keys bytes settled → IsNumberOf bytes ksn → ksn ≡ number_in settled
number_is keys bytes ksn (settled.Payment purchase settlement) is number =
    number.request is.no_reversal is.request is.is_request ∙ sym (ap (λ (purchase : Purchase). purchase.number) is.purchase_is)
number_is keys bytes ksn (settled.Reversal reversal settlement) is number = number.reversal reversal is.is_reversal

-- ---- what a candidate has

pub of_candidate :
    (keys : HsmKeys) (entries : Entries) (capacity room : ℕ) (decides : Decision) (bytes : List ℕ) (one : Candidate) (settled : Settled)
    → IsCandidate keys decides bytes one → IsOfCandidate one settled → IsSettledBy entries capacity room (IsItsOwnCode one) settled
    → IsAsked keys bytes settled × IsSettledBy entries capacity room (IsCodeFor keys decides bytes) settled
of_candidate keys entries capacity room decides bytes (candidate.Payment purchase code) (settled.Payment same (Kept other)) is of settles =
    (subst (λ purchase. IsPurchase keys bytes purchase) (sym of) is.0, (settles.0, subst (λ code. IsCodeFor keys decides bytes code) (sym settles.1) is.1))
of_candidate keys entries capacity room decides bytes (candidate.Payment purchase code) (settled.Payment same (KnownAgain other)) is of settles =
    (subst (λ purchase. IsPurchase keys bytes purchase) (sym of) is.0, settles)
of_candidate keys entries capacity room decides bytes (candidate.Payment purchase code) (settled.Payment same Used) is of settles =
    (subst (λ purchase. IsPurchase keys bytes purchase) (sym of) is.0, settles)
of_candidate keys entries capacity room decides bytes (candidate.Payment purchase code) (settled.Payment same Full) is of settles =
    (subst (λ purchase. IsPurchase keys bytes purchase) (sym of) is.0, settles)
of_candidate keys entries capacity room decides bytes (candidate.Payment purchase code) (settled.Reversal reversal settlement) is of settles = absurd of
of_candidate keys entries capacity room decides bytes (candidate.Reversal one) (settled.Payment purchase settlement) is of settles = absurd of
of_candidate keys entries capacity room decides bytes (candidate.Reversal one) (settled.Reversal reversal settlement) is of settles =
    (subst (λ reversal. IsReversalAsked keys bytes reversal) (sym of) is, settles)
