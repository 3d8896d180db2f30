-- Judged by keys with a zone key, any bytes have an answer.
use Rattle.std.proofs.Common.{◌≡◌, ◌≢◌, ◌⊎◌, ℕ, List, [], ◌∷◌, Option, Some, None, IsSome, inl, inr, refl, sym, ap, ap₂, subst, arith, ◌∙◌}
use Rattle.std.proofs.lemmas.Bool.{false≢true}
use Rattle.duk_frame.specs.Request.{IsRequest, request_bytes}
use Rattle.duk_frame.specs.Stream.{Splits}
use Rattle.duk_frame.specs.Payment.{payment_reply}
use Rattle.duk_frame.specs.declared.code.Code.{Code}
use Rattle.duk_frame.specs.declared.code.Code.TheVariants.{Unreadable}
use Rattle.duk_frame.specs.declared.request.Request.{Request}
use Rattle.duk_hsm.specs.Commands.{IsOtherMac, IsTransactionKey}
use Rattle.duk_hsm.specs.Keys.{HsmKeys, key_set_of}
use Rattle.duk_pin.specs.PinBlock.{pin_block}
use Rattle.duk_tdes.specs.Tdes.{tdes_decrypted, tdes_encrypted}
use Rattle.duk_tree.specs.Derivation.{derived_key_of, pin_key_of}
use Rattle.duk_tree.specs.Path.{IsUsable}
use Rattle.duk_tree.specs.Serial.{Serial, prefix_of, serial_bytes}
use Rattle.duk_host.specs.Judgement.{IsAcceptable, IsAnswerTo, IsAuthentic, IsCodeOf, JudgementBasis, authenticated_text, refusal_frame}
use Rattle.duk_host.specs.Recent.{exchange, reply_given}
use Rattle.duk_host.specs.Served.{AreJudged, IsJudgedOn, IsServedStream, with_accepted}
use Rattle.duk_host.specs.declared.reason.Reason.{Reason}
use Rattle.duk_host.specs.declared.reason.Reason.TheVariants as reason
use Rattle.duk_host.proofs.Decided.{Decided, both, equal, is_among, less, like, same_list}
use Rattle.duk_host.proofs.DecidedRequests.{PathLaws, is_usable, some_pin, some_request}
use Rattle.duk_host.proofs.Reasons.{Case, reason_of}

abbrev serial_with : ℕ → ℕ → Serial
serial_with iksn counter = record { iksn = iksn; counter = counter }

same_serial : (one other : Serial) → Decided (one ≡ other)
same_serial one other =
    like (λ all. ap₂ serial_with all.0 all.1) (λ same. (ap (λ (serial : Serial). serial.iksn) same, ap (λ (serial : Serial). serial.counter) same)) (both (equal one.iksn other.iksn) (equal one.counter other.counter))

-- an option holds something, or nothing
either : {A : Type 0} (found : Option A) → (found ≡ None) ⊎ ((value : A) × (found ≡ Some value))
either None = inl refl
either (Some value) = inr (value, refl)

held : {A : Type 0} (found : Option A) → IsSome found → (value : A) × (found ≡ Some value)
held None some = absurd (false≢true some)
held (Some value) some = (value, refl)

is_held : {A : Type 0} (found : Option A) (value : A) → found ≡ Some value → IsSome found
is_held found value is = subst (λ found. IsSome found) (sym is) refl

-- lists are equal, or are not
by_list : {A B : Type 0} (one other : List ℕ) → (one ≡ other → A) → (one ≢ other → B) → A ⊎ B
by_list one other equal apart = elim (same_list one other) [
  | inl is ↦ inl (equal is)
  | inr not ↦ inr (apart not)
]

-- an answer to bytes, and what it leaves
abbrev pub HasAnswer : JudgementBasis → List ℕ → Type 0
HasAnswer basis bytes = (frame : List ℕ) × (after : JudgementBasis) × IsJudgedOn basis bytes frame after × (after.keys ≡ basis.keys)

module _ (paths : PathLaws) (basis : JudgementBasis) (zone : List ℕ) (zone_is : basis.keys.zone ≡ Some zone) (bytes : List ℕ) where
  no_request : ((request : Request) → ¬ IsRequest bytes request) → HasAnswer basis bytes
  no_request none = (_, basis, inl (record { refused = inl (record { no_request = none; frame_is = refl }); same = refl }), refl)

  module _ (request : Request) (is : IsRequest bytes request) where
    refused : (why : Reason) → Case basis request why → HasAnswer basis bytes
    refused why against = (
      refusal_frame (serial_bytes request.ksn) why,
      basis,
      inl (record { refused = inr (record { request = request; reason = why; is_request = is; refuses = reason_of basis request why against; frame_is = refl }); same = refl }),
      refl,
    )

    -- the code of a request
    code_of : IsAuthentic basis.keys request → (code : Code) × IsCodeOf basis.keys basis.decides request code
    code_of authentic = elim (some_pin request.pan (tdes_decrypted (pin_key_of authentic.key) request.block)) [
      | inl some ↦
          let block = tdes_encrypted zone (pin_block some.0 request.pan) in (
            basis.decides request.pan request.amount block,
            inl (record {
              block = block;
              translated = record { key = authentic.key; zone = zone; pin = some.0; key_is = authentic.key_is; zone_is = zone_is; pin_is = some.1; translated_is = refl };
              code_is = refl;
            }),
          )
      | inr none ↦ (
        Unreadable,
        inr (record {
          no_pin = record { key = authentic.key; key_is = authentic.key_is; zone_held = is_held basis.keys.zone zone zone_is; no_pin = λ pin is_pin. none (pin, is_pin) };
          code_is = refl;
        }),
      )
    ]

    accepted : IsAcceptable basis request → HasAnswer basis bytes
    accepted acceptable =
        let authentic = acceptable.authentic in
        let code = code_of authentic in
        let frame = payment_reply authentic.key request.ksn code.0 in (
          frame,
          with_accepted basis request.ksn (exchange bytes frame),
          inr (inl (record {
            request = request;
            accepted = record {
              is_request = is;
              acceptable = acceptable;
              reply = record { code = code.0; code_is = code.1; reply = record { key = authentic.key; key_is = authentic.key_is; frame_is = refl } };
            };
            used = refl;
          })),
          refl,
        )

    new_request : IsAuthentic basis.keys request → reply_given basis.recent (request_bytes request) ≡ None → HasAnswer basis bytes
    new_request authentic none = elim (is_among same_serial basis.used request.ksn) [
      | inl used ↦ refused reason.Used (record { authentic = authentic; no_repeat = none; used = used })
      | inr fresh ↦ elim (less 0 basis.room) [
        | inl room ↦ accepted (record { authentic = authentic; no_repeat = none; fresh = fresh; room = room })
        | inr full ↦ elim (equal basis.room 0) [
          | inl zero ↦ refused reason.LogFull (record { authentic = authentic; no_repeat = none; fresh = fresh; full = zero })
          | inr apart ↦ absurd (full (omega (arith, apart)))
        ]
      ]
    ]

    authentic_request : IsAuthentic basis.keys request → HasAnswer basis bytes
    authentic_request authentic = elim (either (reply_given basis.recent (request_bytes request))) [
      | inl none ↦ new_request authentic none
      | inr given ↦ (given.0, basis, inr (inr (record { repeated = record { request = request; is_request = is; authentic = authentic; given = given.1 }; same = refl })), refl)
    ]

    with_key : (bdk : List ℕ) → key_set_of basis.keys (prefix_of request.ksn) ≡ Some bdk → IsUsable request.ksn.counter → HasAnswer basis bytes
    with_key bdk set usable =
        let key = derived_key_of bdk request.ksn in
        let key_is : IsTransactionKey basis.keys request.ksn key = record { bdk = bdk; held = set; usable = usable; key_is = refl } in
        let tried : IsAuthentic basis.keys request ⊎ IsOtherMac basis.keys request.ksn (authenticated_text request) request.mac =
        by_list request.mac _ (λ same. record { key = key; key_is = key_is; mac_is = same }) (λ other. record { key = key; key_is = key_is; mac_is_other = other }) in
        elim tried [
          | inl authentic ↦ authentic_request authentic
          | inr other ↦ refused reason.BadMac other
        ]

    some_refusal_or_reply : HasAnswer basis bytes
    some_refusal_or_reply = elim (either (key_set_of basis.keys (prefix_of request.ksn))) [
      | inl none ↦ refused reason.UnknownKeySet none
      | inr set ↦ elim (is_usable paths request.ksn.counter) [
        | inl usable ↦ with_key set.0 set.1 usable
        | inr unusable ↦ refused reason.BadCounter (record { held = is_held _ set.0 set.1; unusable = unusable })
      ]
    ]

  some_judgement : HasAnswer basis bytes
  some_judgement = elim (some_request bytes) [
    | inl some ↦ some_refusal_or_reply some.0 some.1
    | inr none ↦ no_request (λ request is. none (request, is))
  ]

answer_of : (basis after : JudgementBasis) (bytes frame : List ℕ) → IsJudgedOn basis bytes frame after → IsAnswerTo basis bytes frame
answer_of basis after bytes frame (inl refused) = inl refused.refused
answer_of basis after bytes frame (inr (inl accepted)) = inr (inl (accepted.request, accepted.accepted))
answer_of basis after bytes frame (inr (inr repeated)) = inr (inr repeated.repeated)

-- any bytes have an answer
pub some_answer : PathLaws → (basis : JudgementBasis) (bytes : List ℕ) → IsSome basis.keys.zone → (frame : List ℕ) × IsAnswerTo basis bytes frame
some_answer paths basis bytes zone =
    let loaded = held basis.keys.zone zone in
    let found = some_judgement paths basis loaded.0 loaded.1 bytes in
    (found.0, answer_of basis found.1 bytes found.0 found.2)

-- frames in turn have answers
some_answers : PathLaws → (basis : JudgementBasis) (frames : List (List ℕ)) (zone : List ℕ) → basis.keys.zone ≡ Some zone → (answers : List (List ℕ)) × (after : JudgementBasis) × AreJudged basis frames answers after
some_answers paths basis [] zone loaded = ([], basis, refl)
some_answers paths basis (frame ∷ frames) zone loaded =
    let found = some_judgement paths basis zone loaded frame in
    let later = some_answers paths found.1 frames zone (ap (λ (keys : HsmKeys). keys.zone) found.3 ∙ loaded) in
    (found.0 ∷ later.0, later.1, (found.1, found.2, later.2))

-- any bytes are split
abbrev pub SomeSplitting : Type 0
SomeSplitting = (bytes : List ℕ) → (frames : List (List ℕ)) × (rest : List ℕ) × Splits bytes frames rest

-- the frames of any stream have answers
pub some_service :
    PathLaws → SomeSplitting → (basis : JudgementBasis) (bytes : List ℕ) → IsSome basis.keys.zone
    → (answers : List (List ℕ)) × (after : JudgementBasis) × IsServedStream basis bytes answers after
some_service paths splitting basis bytes zone =
    let loaded = held basis.keys.zone zone in
    let split = splitting bytes in
    let found = some_answers paths basis split.0 loaded.0 loaded.1 in
    (found.0, found.1, record { frames = split.0; rest = split.1; splits = split.2; judged = found.2 })
