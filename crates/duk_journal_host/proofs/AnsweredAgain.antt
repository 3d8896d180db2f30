-- A request or a reversal that comes again, and what is refused since its number is used.
use Rattle.std.proofs.Common.{◌≡◌, ◌≢◌, ℕ, List, [], Contains, inl, inr, refl, sym, ap, subst, ◌∙◌, arith}
use Rattle.duk_frame.specs.Answer.{IsRefusal, refusal_text}
use Rattle.duk_frame.specs.Frame.{framed}
use Rattle.duk_frame.specs.Request.{IsRequest}
use Rattle.duk_frame.specs.declared.code.Code.{Code}
use Rattle.duk_frame.specs.declared.request.Request.{Request}
use Rattle.duk_host.specs.Judgement.{IsAuthentic, IsRefusalFor, IsReplyWith, JudgementBasis, reason_number}
use Rattle.duk_host.specs.Used.{IsUsed}
use Rattle.duk_host.specs.declared.reason.Reason.{Reason}
use Rattle.duk_host.specs.declared.reason.Reason.TheVariants as reason
use Rattle.duk_journal.specs.Groups.{Entries}
use Rattle.duk_journal.specs.Standing.{UseNewNumbers, payment_entry, reversed_numbers, used_by}
use Rattle.duk_journal.specs.declared.entry.Entry.{Entry}
use Rattle.duk_reversal.specs.Reversal.{IsReversal}
use Rattle.duk_reversal.specs.declared.reversal.Reversal.{Reversal}
use Rattle.duk_reversal.specs.declared.state.ReversalState.{ReversalState}
use Rattle.duk_tree.specs.Serial.{serial_bytes}
use Rattle.duk_journal_host.specs.Judgement.{IsAuthenticReversal, IsJudged, IsPaymentKept, IsReasonAgainst, IsReversalKept, IsReversalReplyWith, LineBasis, reversal_entry, without_repeats}
use Rattle.duk_journal_host.specs.Latest.{latest_entries}
use Rattle.duk_journal_host.proofs.Members.{own_used, reversed_used}
use Rattle.duk_journal_host.proofs.NewNumbers.{one_entry}
use Rattle.duk_journal_host.proofs.OneNumber.{latest_kept, same_code, same_state}

-- what is known of frames: each is read as one request or one reversal, and what an authentic request
-- of a used number is refused with
pub record ReadingLaws : Type 0 where
  pub one_request : (bytes : List ℕ) (request other : Request) → IsRequest bytes request → IsRequest bytes other → request ≡ other
  pub one_reversal : (bytes : List ℕ) (reversal other : Reversal) → IsReversal bytes reversal → IsReversal bytes other → reversal ≡ other
  pub apart : (bytes : List ℕ) (request : Request) (reversal : Reversal) → IsRequest bytes request → ¬ IsReversal bytes reversal
  pub used_again : (basis : JudgementBasis) (bytes frame : List ℕ) (request : Request)
      → IsRequest bytes request → IsAuthentic basis.keys request → IsUsed basis.used request.ksn → IsRefusalFor basis bytes frame → IsRefusal frame request.ksn 5

module _ (laws : ReadingLaws) (basis : LineBasis) (frame answer : List ℕ) (added : Entries) where
  -- ---- requests

  -- a request whose payment is one of the latest, and not undone, is given its reply, and adds nothing
  pub answered_again : (request : Request) (code : Code) → UseNewNumbers basis.entries → IsJudged basis frame answer added → IsRequest frame request → IsAuthentic basis.keys request
      → IsPaymentKept basis request code → IsReplyWith basis.keys request.ksn code answer × (added ≡ [])
  answered_again request code new (inl (inl (inl refused), none)) is_request authentic kept = absurd (refused.no_repeat request code is_request authentic kept)
  answered_again request code new (inl (inl (inr again), none)) is_request authentic kept =
      let same : again.request ≡ request = laws.one_request frame again.request request again.is_request is_request in
      let ours = subst (λ request. IsPaymentKept basis request again.code) same again.kept in
      let first = payment_entry request.ksn ours.amount again.code request.mac in
      let second = payment_entry request.ksn kept.amount code request.mac in
      let code_is : again.code ≡ code = same_code request.ksn request.ksn ours.amount kept.amount again.code code request.mac request.mac
      (one_entry basis.entries first second new.new (latest_kept basis.entries first ours.kept) (latest_kept basis.entries second kept.kept) refl) in
      (subst (λ code. IsReplyWith basis.keys request.ksn code answer) code_is (subst (λ (request : Request). IsReplyWith basis.keys request.ksn again.code answer) same again.reply), none)
  answered_again request code new (inl (inr (inl refused), none)) is_request authentic kept = absurd (laws.apart frame request refused.reversal is_request refused.is_reversal)
  answered_again request code new (inl (inr (inr again), none)) is_request authentic kept = absurd (laws.apart frame request again.reversal is_request again.is_reversal)
  answered_again request code new (inr (entry, inl paid, one)) is_request authentic kept =
      let same : request ≡ paid.request = laws.one_request frame request paid.request is_request paid.accepted.is_request in
      let own = payment_entry request.ksn kept.amount code request.mac in
      let used = own_used basis.entries own (latest_kept basis.entries own kept.kept) in
      absurd (paid.accepted.acceptable.fresh (subst (λ (request : Request). Contains (used_by basis.entries) request.ksn) same used))
  answered_again request code new (inr (entry, inr reversed, one)) is_request authentic kept = absurd (laws.apart frame request reversed.reversal is_request reversed.is_reversal)

  -- a request of a used number that is not answered again is refused for that
  refused_as_used : (request : Request) → IsJudged basis frame answer added → IsRequest frame request → IsAuthentic basis.keys request → Contains (used_by basis.entries) request.ksn
      → ((code : Code) → ¬ IsPaymentKept basis request code) → IsRefusal answer request.ksn 5 × (added ≡ [])
  refused_as_used request (inl (inl (inl refused), none)) is_request authentic used not_kept =
      (laws.used_again (without_repeats basis) frame answer request is_request authentic used refused.refusal, none)
  refused_as_used request (inl (inl (inr again), none)) is_request authentic used not_kept =
      let same : again.request ≡ request = laws.one_request frame again.request request again.is_request is_request in
      absurd (not_kept again.code (subst (λ request. IsPaymentKept basis request again.code) same again.kept))
  refused_as_used request (inl (inr (inl refused), none)) is_request authentic used not_kept = absurd (laws.apart frame request refused.reversal is_request refused.is_reversal)
  refused_as_used request (inl (inr (inr again), none)) is_request authentic used not_kept = absurd (laws.apart frame request again.reversal is_request again.is_reversal)
  refused_as_used request (inr (entry, inl paid, one)) is_request authentic used not_kept =
      let same : request ≡ paid.request = laws.one_request frame request paid.request is_request paid.accepted.is_request in
      absurd (paid.accepted.acceptable.fresh (subst (λ (request : Request). Contains (used_by basis.entries) request.ksn) same used))
  refused_as_used request (inr (entry, inr reversed, one)) is_request authentic used not_kept = absurd (laws.apart frame request reversed.reversal is_request reversed.is_reversal)

  -- the entry of the number has another MAC
  pub other_mac : (request : Request) (entry : Entry) → UseNewNumbers basis.entries → IsJudged basis frame answer added → IsRequest frame request → IsAuthentic basis.keys request
      → Contains basis.entries entry → entry.number ≡ request.ksn → entry.mac ≢ request.mac → IsRefusal answer request.ksn 5 × (added ≡ [])
  other_mac request entry new judged is_request authentic kept number other =
      refused_as_used request judged is_request authentic (subst (λ number. Contains (used_by basis.entries) number) number (own_used basis.entries entry kept)) (λ code again.
      let own = payment_entry request.ksn again.amount code request.mac in
      other (ap (λ (entry : Entry). entry.mac) (one_entry basis.entries entry own new.new kept (latest_kept basis.entries own again.kept) number)))

  -- the entry of the number is not one of the latest
  pub older : (request : Request) (entry : Entry) → UseNewNumbers basis.entries → IsJudged basis frame answer added → IsRequest frame request → IsAuthentic basis.keys request
      → Contains basis.entries entry → entry.number ≡ request.ksn → ¬ Contains (latest_entries basis.entries) entry → IsRefusal answer request.ksn 5 × (added ≡ [])
  older request entry new judged is_request authentic kept number no_more =
      refused_as_used request judged is_request authentic (subst (λ number. Contains (used_by basis.entries) number) number (own_used basis.entries entry kept)) (λ code again.
      let own = payment_entry request.ksn again.amount code request.mac in
      let same : own ≡ entry = one_entry basis.entries own entry new.new (latest_kept basis.entries own again.kept) kept (sym number) in
      no_more (subst (λ entry. Contains (latest_entries basis.entries) entry) same again.kept))

  -- the number is reversed
  pub undone : (request : Request) → IsJudged basis frame answer added → IsRequest frame request → IsAuthentic basis.keys request
      → Contains (reversed_numbers basis.entries) request.ksn → IsRefusal answer request.ksn 5 × (added ≡ [])
  undone request judged is_request authentic reversed =
      refused_as_used request judged is_request authentic (reversed_used basis.entries request.ksn reversed) (λ code again. again.not_undone reversed)

  -- ---- reversals

  -- a reversal that is one of the latest entries is given its reply, and adds nothing
  pub reversed_again : (reversal : Reversal) (state : ReversalState) → UseNewNumbers basis.entries → IsJudged basis frame answer added → IsReversal frame reversal → IsAuthenticReversal basis.keys reversal
      → IsReversalKept basis reversal state → IsReversalReplyWith basis.keys reversal.numbers state answer × (added ≡ [])
  reversed_again reversal state new (inl (inl (inl refused), none)) is_reversal authentic kept = absurd (refused.no_reversal reversal is_reversal)
  reversed_again reversal state new (inl (inl (inr again), none)) is_reversal authentic kept = absurd (laws.apart frame again.request reversal again.is_request is_reversal)
  reversed_again reversal state new (inl (inr (inl refused), none)) is_reversal authentic kept =
      let same : reversal ≡ refused.reversal = laws.one_reversal frame reversal refused.reversal is_reversal refused.is_reversal in
      absurd (refused.no_repeat (subst (λ reversal. IsAuthenticReversal basis.keys reversal) same authentic) state (subst (λ reversal. IsReversalKept basis reversal state) same kept))
  reversed_again reversal state new (inl (inr (inr again), none)) is_reversal authentic kept =
      let same : again.reversal ≡ reversal = laws.one_reversal frame again.reversal reversal again.is_reversal is_reversal in
      let ours = subst (λ reversal. IsReversalKept basis reversal again.state) same again.kept in
      let first = reversal_entry reversal again.state in
      let second = reversal_entry reversal state in
      let state_is : again.state ≡ state = same_state reversal.numbers reversal.numbers reversal.mac reversal.mac again.state state
      (one_entry basis.entries first second new.new (latest_kept basis.entries first ours) (latest_kept basis.entries second kept) refl) in (
        subst (λ state. IsReversalReplyWith basis.keys reversal.numbers state answer) state_is
            (subst (λ (reversal : Reversal). IsReversalReplyWith basis.keys reversal.numbers again.state answer) same again.reply),
        none,
      )
  reversed_again reversal state new (inr (entry, inl paid, one)) is_reversal authentic kept = absurd (laws.apart frame paid.request reversal paid.accepted.is_request is_reversal)
  reversed_again reversal state new (inr (entry, inr reversed, one)) is_reversal authentic kept =
      let same : reversal ≡ reversed.reversal = laws.one_reversal frame reversal reversed.reversal is_reversal reversed.is_reversal in
      let own = reversal_entry reversal state in
      let used = own_used basis.entries own (latest_kept basis.entries own kept) in
      absurd (reversed.acceptable.new (subst (λ (reversal : Reversal). Contains (used_by basis.entries) reversal.numbers.ksn) same used))

  -- an authentic reversal passes for all reasons before that of its number
  five : (reversal : Reversal) (why : Reason) → IsAuthenticReversal basis.keys reversal → Contains (used_by basis.entries) reversal.numbers.ksn → IsReasonAgainst basis reversal why → reason_number why ≡ 5
  five reversal reason.Malformed authentic used is = absurd is.fails
  five reversal reason.UnknownKeySet authentic used is = absurd (cc (authentic.key_is.held, is.fails))
  five reversal reason.BadCounter authentic used is = absurd (is.fails authentic.key_is.usable)
  five reversal reason.BadMac authentic used is = absurd (is.fails authentic)
  five reversal reason.Used authentic used is = refl
  five reversal reason.LogFull authentic used is = absurd (is.earlier_met reason.Used (omega arith) used)

  -- any other of a used number is refused for that
  pub reversal_of_used : (reversal : Reversal) → IsJudged basis frame answer added → IsReversal frame reversal → IsAuthenticReversal basis.keys reversal
      → Contains (used_by basis.entries) reversal.numbers.ksn → ((state : ReversalState) → ¬ IsReversalKept basis reversal state) → IsRefusal answer reversal.numbers.ksn 5 × (added ≡ [])
  reversal_of_used reversal (inl (inl (inl refused), none)) is_reversal authentic used not_kept = absurd (refused.no_reversal reversal is_reversal)
  reversal_of_used reversal (inl (inl (inr again), none)) is_reversal authentic used not_kept = absurd (laws.apart frame again.request reversal again.is_request is_reversal)
  reversal_of_used reversal (inl (inr (inl refused), none)) is_reversal authentic used not_kept =
      let same : refused.reversal ≡ reversal = laws.one_reversal frame refused.reversal reversal refused.is_reversal is_reversal in
      let against = subst (λ (reversal : Reversal). IsReasonAgainst basis reversal refused.why) same refused.refuses in
      let number : reason_number refused.why ≡ 5 = five reversal refused.why authentic used against in
      let refusal : IsRefusal answer refused.reversal.numbers.ksn 5 = record {
        fields = (refused.is_reversal.fields.numbers_are.ksn_is, record { least = omega arith; most = omega arith });
        laid_out = refused.frame_is ∙ ap (λ (number : ℕ). framed (refusal_text (serial_bytes refused.reversal.numbers.ksn) number)) number;
      } in
      (subst (λ (reversal : Reversal). IsRefusal answer reversal.numbers.ksn 5) same refusal, none)
  reversal_of_used reversal (inl (inr (inr again), none)) is_reversal authentic used not_kept =
      let same : again.reversal ≡ reversal = laws.one_reversal frame again.reversal reversal again.is_reversal is_reversal in
      absurd (not_kept again.state (subst (λ reversal. IsReversalKept basis reversal again.state) same again.kept))
  reversal_of_used reversal (inr (entry, inl paid, one)) is_reversal authentic used not_kept = absurd (laws.apart frame paid.request reversal paid.accepted.is_request is_reversal)
  reversal_of_used reversal (inr (entry, inr reversed, one)) is_reversal authentic used not_kept =
      let same : reversal ≡ reversed.reversal = laws.one_reversal frame reversal reversed.reversal is_reversal reversed.is_reversal in
      absurd (reversed.acceptable.new (subst (λ (reversal : Reversal). Contains (used_by basis.entries) reversal.numbers.ksn) same used))
