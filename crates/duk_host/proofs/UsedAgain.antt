-- Why a request of a used number is refused.
use Rattle.std.proofs.Common.{◌≡◌, ℕ, List, inl, inr, refl, subst, arith}
use Rattle.duk_frame.specs.Answer.{IsRefusal}
use Rattle.duk_frame.specs.Request.{IsRequest}
use Rattle.duk_frame.specs.declared.request.Request.{Request}
use Rattle.duk_host.specs.Judgement.{IsAuthentic, IsReasonAgainst, IsRefusalFor, IsRefusedRequest, JudgementBasis, reason_number}
use Rattle.duk_host.specs.Used.{IsUsed}
use Rattle.duk_host.specs.declared.reason.Reason.{Reason}
use Rattle.duk_host.specs.declared.reason.Reason.TheVariants as reason

abbrev pub OneRequest : Type 0
OneRequest = (bytes : List ℕ) (request other : Request) → IsRequest bytes request → IsRequest bytes other → request ≡ other

-- how a refusal is read
abbrev pub RefusalIsRead : Type 0
RefusalIsRead = (basis : JudgementBasis) (bytes frame : List ℕ) → (refused : IsRefusedRequest basis bytes frame) → IsRefusal frame refused.request.ksn (reason_number refused.reason)

-- an authentic request passes for all reasons before the number's
reason_for : (basis : JudgementBasis) (request : Request) (why : Reason) → IsAuthentic basis.keys request → IsUsed basis.used request.ksn → IsReasonAgainst basis request why → reason_number why ≡ 5
reason_for basis request reason.Malformed authentic used is = absurd is.fails
reason_for basis request reason.UnknownKeySet authentic used is = absurd (cc (authentic.key_is.held, is.fails))
reason_for basis request reason.BadCounter authentic used is = absurd (is.fails authentic.key_is.usable)
reason_for basis request reason.BadMac authentic used is = absurd (is.fails authentic)
reason_for basis request reason.Used authentic used is = refl
reason_for basis request reason.LogFull authentic used is = absurd (is.earlier_met reason.Used (omega arith) used)

pub used_again :
    OneRequest → RefusalIsRead → (basis : JudgementBasis) (bytes frame : List ℕ) (request : Request)
    → IsRequest bytes request → IsAuthentic basis.keys request → IsUsed basis.used request.ksn → IsRefusalFor basis bytes frame → IsRefusal frame request.ksn 5
used_again one_request read basis bytes frame request is_request authentic used (inl malformed) = absurd (malformed.no_request request is_request)
used_again one_request read basis bytes frame request is_request authentic used (inr refused) =
    let same : refused.request ≡ request = one_request bytes refused.request request refused.is_request is_request in
    let against = subst (λ (request : Request). IsReasonAgainst basis request refused.reason) same refused.refuses in
    let five = reason_for basis request refused.reason authentic used against in
    subst (λ number. IsRefusal frame request.ksn number) five (subst (λ (request : Request). IsRefusal frame request.ksn (reason_number refused.reason)) same (read basis bytes frame refused))
