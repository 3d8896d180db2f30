-- Judged by one set of keys, used numbers, latest exchanges, room and issuer, bytes have one
-- answer.
use Rattle.std.proofs.Common.{◌≡◌, ℕ, List, Option, Some, None, IsSome, inl, inr, refl, sym, ap, subst, ◌∙◌, arith}
use Rattle.duk_frame.specs.Payment.{payment_reply}
use Rattle.duk_frame.specs.Request.{IsRequest, request_bytes}
use Rattle.duk_frame.specs.declared.code.Code.{Code}
use Rattle.duk_frame.specs.declared.request.Request.{Request}
use Rattle.duk_hsm.specs.Commands.{HasNoPin, IsPinOf, IsTransactionKey, IsTranslated}
use Rattle.duk_hsm.specs.Keys.{HsmKeys, key_set_of}
use Rattle.duk_pin.specs.PinBlock.{IsPinBlock, pin_block}
use Rattle.duk_tdes.specs.Tdes.{tdes_encrypted}
use Rattle.duk_tree.specs.Serial.{Serial, prefix_of, serial_bytes}
use Rattle.duk_host.specs.Judgement.{Decision, IsAcceptable, IsAccepted, IsAnswerTo, IsAuthentic, IsCodeOf, IsNoRepeat, IsReasonAgainst, IsRefusalFor, IsRefusedRequest, IsRepeated, IsReplyTo, JudgementBasis, WasGiven, refusal_frame}
use Rattle.duk_host.specs.Recent.{reply_given}
use Rattle.duk_host.specs.declared.reason.Reason.{Reason}
use Rattle.duk_host.specs.declared.reason.Reason.TheVariants as reason
use Rattle.duk_host.proofs.Reasons.{Case, case_of, no_other_mac, one_key}

one_value : {A : Type 0} (found : Option A) (one other : A) → found ≡ Some one → found ≡ Some other → one ≡ other
one_value found one other is same = cc

not_held : {A : Type 0} (found : Option A) → found ≡ None → IsSome found → ⊥
not_held None is some = cc
not_held (Some value) is some = cc

none_and_some : {A : Type 0} (found : Option A) (value : A) → found ≡ None → found ≡ Some value → ⊥
none_and_some found value none some = cc

no_key : (keys : HsmKeys) (ksn : Serial) (key : List ℕ) → key_set_of keys (prefix_of ksn) ≡ None → IsTransactionKey keys ksn key → ⊥
no_key keys ksn key none is = let held = is.held in cc

-- what is said of a request: the least reason against it, or that there is none
abbrev Says : JudgementBasis → Request → Option Reason → Type 0
Says basis request None = IsAcceptable basis request
Says basis request (Some why) = Case basis request why

-- no two things are said of a request
one_verdict : (basis : JudgementBasis) (request : Request) (verdict other : Option Reason)
    → Says basis request verdict → Says basis request other → verdict ≡ other
one_verdict basis request (Some reason.Malformed) other one two = absurd one
one_verdict basis request (Some reason.UnknownKeySet) (Some reason.Malformed) one two = absurd two
one_verdict basis request (Some reason.UnknownKeySet) (Some reason.UnknownKeySet) one two = refl
one_verdict basis request (Some reason.UnknownKeySet) (Some reason.BadCounter) one two = absurd (not_held _ one two.held)
one_verdict basis request (Some reason.UnknownKeySet) (Some reason.BadMac) one two = absurd (no_key basis.keys request.ksn _ one two.key_is)
one_verdict basis request (Some reason.UnknownKeySet) (Some reason.Used) one two = absurd (no_key basis.keys request.ksn _ one two.authentic.key_is)
one_verdict basis request (Some reason.UnknownKeySet) (Some reason.LogFull) one two = absurd (no_key basis.keys request.ksn _ one two.authentic.key_is)
one_verdict basis request (Some reason.UnknownKeySet) None one two = absurd (no_key basis.keys request.ksn _ one two.authentic.key_is)
one_verdict basis request (Some reason.BadCounter) (Some reason.Malformed) one two = absurd two
one_verdict basis request (Some reason.BadCounter) (Some reason.UnknownKeySet) one two = absurd (not_held _ two one.held)
one_verdict basis request (Some reason.BadCounter) (Some reason.BadCounter) one two = refl
one_verdict basis request (Some reason.BadCounter) (Some reason.BadMac) one two = absurd (one.unusable two.key_is.usable)
one_verdict basis request (Some reason.BadCounter) (Some reason.Used) one two = absurd (one.unusable two.authentic.key_is.usable)
one_verdict basis request (Some reason.BadCounter) (Some reason.LogFull) one two = absurd (one.unusable two.authentic.key_is.usable)
one_verdict basis request (Some reason.BadCounter) None one two = absurd (one.unusable two.authentic.key_is.usable)
one_verdict basis request (Some reason.BadMac) (Some reason.Malformed) one two = absurd two
one_verdict basis request (Some reason.BadMac) (Some reason.UnknownKeySet) one two = absurd (no_key basis.keys request.ksn _ two one.key_is)
one_verdict basis request (Some reason.BadMac) (Some reason.BadCounter) one two = absurd (two.unusable one.key_is.usable)
one_verdict basis request (Some reason.BadMac) (Some reason.BadMac) one two = refl
one_verdict basis request (Some reason.BadMac) (Some reason.Used) one two = absurd (no_other_mac basis.keys request.ksn _ _ one two.authentic)
one_verdict basis request (Some reason.BadMac) (Some reason.LogFull) one two = absurd (no_other_mac basis.keys request.ksn _ _ one two.authentic)
one_verdict basis request (Some reason.BadMac) None one two = absurd (no_other_mac basis.keys request.ksn _ _ one two.authentic)
one_verdict basis request (Some reason.Used) (Some reason.Malformed) one two = absurd two
one_verdict basis request (Some reason.Used) (Some reason.UnknownKeySet) one two = absurd (no_key basis.keys request.ksn _ two one.authentic.key_is)
one_verdict basis request (Some reason.Used) (Some reason.BadCounter) one two = absurd (two.unusable one.authentic.key_is.usable)
one_verdict basis request (Some reason.Used) (Some reason.BadMac) one two = absurd (no_other_mac basis.keys request.ksn _ _ two one.authentic)
one_verdict basis request (Some reason.Used) (Some reason.Used) one two = refl
one_verdict basis request (Some reason.Used) (Some reason.LogFull) one two = absurd (two.fresh one.used)
one_verdict basis request (Some reason.Used) None one two = absurd (two.fresh one.used)
one_verdict basis request (Some reason.LogFull) (Some reason.Malformed) one two = absurd two
one_verdict basis request (Some reason.LogFull) (Some reason.UnknownKeySet) one two = absurd (no_key basis.keys request.ksn _ two one.authentic.key_is)
one_verdict basis request (Some reason.LogFull) (Some reason.BadCounter) one two = absurd (two.unusable one.authentic.key_is.usable)
one_verdict basis request (Some reason.LogFull) (Some reason.BadMac) one two = absurd (no_other_mac basis.keys request.ksn _ _ two one.authentic)
one_verdict basis request (Some reason.LogFull) (Some reason.Used) one two = absurd (one.fresh two.used)
one_verdict basis request (Some reason.LogFull) (Some reason.LogFull) one two = refl
one_verdict basis request (Some reason.LogFull) None one two = absurd (omega (arith, one.full, two.room))
one_verdict basis request None (Some reason.Malformed) one two = absurd two
one_verdict basis request None (Some reason.UnknownKeySet) one two = absurd (no_key basis.keys request.ksn _ two one.authentic.key_is)
one_verdict basis request None (Some reason.BadCounter) one two = absurd (two.unusable one.authentic.key_is.usable)
one_verdict basis request None (Some reason.BadMac) one two = absurd (no_other_mac basis.keys request.ksn _ _ two one.authentic)
one_verdict basis request None (Some reason.Used) one two = absurd (one.fresh two.used)
one_verdict basis request None (Some reason.LogFull) one two = absurd (omega (arith, two.full, one.room))
one_verdict basis request None None one two = refl

-- under one PAN a block is that of at most one PIN
abbrev pub OnePin : Type 0
OnePin = (pin other pan block : List ℕ) → IsPinBlock pin pan block → IsPinBlock other pan block → pin ≡ other

-- a PIN block is translated into at most one
one_translation : (keys : HsmKeys) (ksn : Serial) (block pan translated other : List ℕ) → OnePin
    → IsTranslated keys ksn block pan translated → IsTranslated keys ksn block pan other → translated ≡ other
one_translation keys ksn block pan translated other one_pin one two =
    let key : one.key ≡ two.key = one_key keys ksn one.key two.key one.key_is two.key_is in
    let zone : one.zone ≡ two.zone = one_value keys.zone one.zone two.zone one.zone_is two.zone_is in
    let pin : one.pin ≡ two.pin = one_pin one.pin two.pin pan _ (subst (λ key. IsPinOf key block pan one.pin) key one.pin_is) two.pin_is in
    one.translated_is ∙ ap (λ zone. tdes_encrypted zone (pin_block one.pin pan)) zone ∙ ap (λ pin. tdes_encrypted two.zone (pin_block pin pan)) pin ∙ sym two.translated_is

-- where a block is that of no PIN, it is not translated
not_translated : (keys : HsmKeys) (ksn : Serial) (block pan translated : List ℕ) → HasNoPin keys ksn block pan → IsTranslated keys ksn block pan translated → ⊥
not_translated keys ksn block pan translated none is =
    none.no_pin is.pin (subst (λ key. IsPinOf key block pan is.pin) (one_key keys ksn is.key none.key is.key_is none.key_is) is.pin_is)

-- a request has at most one code
one_code : (keys : HsmKeys) (decides : Decision) (request : Request) (code other : Code) → OnePin → IsCodeOf keys decides request code → IsCodeOf keys decides request other → code ≡ other
one_code keys decides request code other one_pin (inl one) (inl two) =
    one.code_is ∙ ap (λ block. decides request.pan request.amount block) (one_translation keys request.ksn request.block request.pan one.block two.block one_pin one.translated two.translated) ∙ sym two.code_is
one_code keys decides request code other one_pin (inl one) (inr two) = absurd (not_translated keys request.ksn request.block request.pan one.block two.no_pin one.translated)
one_code keys decides request code other one_pin (inr one) (inl two) = absurd (not_translated keys request.ksn request.block request.pan two.block one.no_pin two.translated)
one_code keys decides request code other one_pin (inr one) (inr two) = one.code_is ∙ sym two.code_is

-- a request has at most one accepted reply
one_reply : (keys : HsmKeys) (decides : Decision) (request : Request) (frame other : List ℕ) → OnePin → IsReplyTo keys decides request frame → IsReplyTo keys decides request other → frame ≡ other
one_reply keys decides request frame other one_pin one two =
    let ksn = request.ksn in
    let key = one_key keys ksn one.reply.key two.reply.key one.reply.key_is two.reply.key_is in
    let code = one_code keys decides request one.code two.code one_pin one.code_is two.code_is in
    one.reply.frame_is ∙ ap (λ key. payment_reply key ksn one.code) key ∙ ap (λ code. payment_reply two.reply.key ksn code) code ∙ sym two.reply.frame_is

-- bytes are at most one request
abbrev pub OneRequest : Type 0
OneRequest = (bytes : List ℕ) (request other : Request) → IsRequest bytes request → IsRequest bytes other → request ≡ other

some_reason : (why other : Reason) → Some why ≡ Some other → why ≡ other
some_reason why other is = cc

-- the frame of a refused request, and that of an accepted one
module _ (basis : JudgementBasis) (one_request : OneRequest) (one_pin : OnePin) where
  one_refusal : (bytes frame other : List ℕ) → IsRefusedRequest basis bytes frame → IsRefusedRequest basis bytes other → frame ≡ other
  one_refusal bytes frame other one two =
      let same : one.request ≡ two.request = one_request bytes one.request two.request one.is_request two.is_request in
      let refuses : IsReasonAgainst basis two.request one.reason = subst (λ request. IsReasonAgainst basis request one.reason) same one.refuses in
      let why = some_reason one.reason two.reason (one_verdict basis two.request (Some one.reason) (Some two.reason) (case_of basis two.request one.reason refuses) (case_of basis two.request two.reason two.refuses)) in
      one.frame_is ∙ ap (λ request. refusal_frame (serial_bytes request.ksn) one.reason) same ∙ ap (λ why. refusal_frame (serial_bytes two.request.ksn) why) why ∙ sym two.frame_is

  not_both : (bytes frame other : List ℕ) (request : Request) → IsRefusedRequest basis bytes frame → IsAccepted basis bytes request other → ⊥
  not_both bytes frame other request refused accepted =
      let same : refused.request ≡ request = one_request bytes refused.request request refused.is_request accepted.is_request in
      let refuses : IsReasonAgainst basis request refused.reason = subst (λ request. IsReasonAgainst basis request refused.reason) same refused.refuses in
      let verdict = one_verdict basis request (Some refused.reason) None (case_of basis request refused.reason refuses) accepted.acceptable in cc

  accepted_once : (bytes frame other : List ℕ) (request again : Request) → IsAccepted basis bytes request frame → IsAccepted basis bytes again other → frame ≡ other
  accepted_once bytes frame other request again one two =
      let same : request ≡ again = one_request bytes request again one.is_request two.is_request in
      one_reply basis.keys basis.decides again frame other one_pin (subst (λ request. IsReplyTo basis.keys basis.decides request frame) same one.reply) two.reply

  -- a request that was given a reply has no reason against it
  no_reason_too : (request : Request) (why : Reason) (frame : List ℕ) → Case basis request why → IsAuthentic basis.keys request → WasGiven basis request frame → ⊥
  no_reason_too request reason.Malformed frame against authentic given = absurd against
  no_reason_too request reason.UnknownKeySet frame against authentic given = no_key basis.keys request.ksn _ against authentic.key_is
  no_reason_too request reason.BadCounter frame against authentic given = against.unusable authentic.key_is.usable
  no_reason_too request reason.BadMac frame against authentic given = no_other_mac basis.keys request.ksn _ _ against authentic
  no_reason_too request reason.Used frame against authentic given = none_and_some _ frame against.no_repeat given
  no_reason_too request reason.LogFull frame against authentic given = none_and_some _ frame against.no_repeat given

  -- bytes that are refused are not given an earlier reply too
  pub not_repeated_too : (bytes frame other : List ℕ) → IsRefusalFor basis bytes frame → IsRepeated basis bytes other → ⊥
  not_repeated_too bytes frame other (inl malformed) repeated = malformed.no_request repeated.request repeated.is_request
  not_repeated_too bytes frame other (inr refused) repeated =
      let same : refused.request ≡ repeated.request = one_request bytes refused.request repeated.request refused.is_request repeated.is_request in
      let refuses : IsReasonAgainst basis repeated.request refused.reason = subst (λ request. IsReasonAgainst basis request refused.reason) same refused.refuses in
      no_reason_too repeated.request refused.reason other (case_of basis repeated.request refused.reason refuses) repeated.authentic repeated.given

  -- nor are bytes that are accepted
  pub not_new_too : (bytes frame other : List ℕ) (request : Request) → IsAccepted basis bytes request frame → IsRepeated basis bytes other → ⊥
  not_new_too bytes frame other request accepted repeated =
      let same : request ≡ repeated.request = one_request bytes request repeated.request accepted.is_request repeated.is_request in
      let no_repeat : IsNoRepeat basis repeated.request = subst (λ request. IsNoRepeat basis request) same accepted.acceptable.no_repeat in
      none_and_some _ other no_repeat repeated.given

  one_repeat : (bytes frame other : List ℕ) → IsRepeated basis bytes frame → IsRepeated basis bytes other → frame ≡ other
  one_repeat bytes frame other one two =
      let same : one.request ≡ two.request = one_request bytes one.request two.request one.is_request two.is_request in
      one_value (reply_given basis.recent (request_bytes two.request)) frame other (subst (λ request. WasGiven basis request frame) same one.given) two.given

  -- bytes have at most one answer
  pub one_answer : (bytes frame other : List ℕ) → IsAnswerTo basis bytes frame → IsAnswerTo basis bytes other → frame ≡ other
  one_answer bytes frame other (inl (inl one)) (inl (inl two)) = one.frame_is ∙ sym two.frame_is
  one_answer bytes frame other (inl (inl one)) (inl (inr two)) = absurd (one.no_request two.request two.is_request)
  one_answer bytes frame other (inl (inl one)) (inr (inl (request, two))) = absurd (one.no_request request two.is_request)
  one_answer bytes frame other (inl (inr one)) (inl (inl two)) = absurd (two.no_request one.request one.is_request)
  one_answer bytes frame other (inl (inr one)) (inl (inr two)) = one_refusal bytes frame other one two
  one_answer bytes frame other (inl (inr one)) (inr (inl (request, two))) = absurd (not_both bytes frame other request one two)
  one_answer bytes frame other (inr (inl (request, one))) (inl (inl two)) = absurd (two.no_request request one.is_request)
  one_answer bytes frame other (inr (inl (request, one))) (inl (inr two)) = absurd (not_both bytes other frame request two one)
  one_answer bytes frame other (inr (inl (request, one))) (inr (inl (again, two))) = accepted_once bytes frame other request again one two
  one_answer bytes frame other (inl one) (inr (inr two)) = absurd (not_repeated_too bytes frame other one two)
  one_answer bytes frame other (inr (inl (request, one))) (inr (inr two)) = absurd (not_new_too bytes frame other request one two)
  one_answer bytes frame other (inr (inr one)) (inl two) = absurd (not_repeated_too bytes other frame two one)
  one_answer bytes frame other (inr (inr one)) (inr (inl (request, two))) = absurd (not_new_too bytes other frame request two one)
  one_answer bytes frame other (inr (inr one)) (inr (inr two)) = one_repeat bytes frame other one two

  -- bytes that are refused are not accepted too
  pub not_accepted_too : (bytes frame other : List ℕ) (request : Request) → IsRefusalFor basis bytes frame → IsAccepted basis bytes request other → ⊥
  not_accepted_too bytes frame other request (inl malformed) accepted = malformed.no_request request accepted.is_request
  not_accepted_too bytes frame other request (inr refused) accepted = not_both bytes frame other request refused accepted
