-- A request that is refused for its MAC or for its number.
use Rattle.std.proofs.Common.{◌≡◌, ◌↔◌, ℕ, List, [], Contains, inr, refl}
use Rattle.duk_frame.specs.Request.{IsRequest}
use Rattle.duk_frame.specs.declared.request.Request.{Request}
use Rattle.duk_hsm.specs.Keys.{HsmKeys}
use Rattle.duk_store.specs.Log.{Numbers}
use Rattle.duk_tree.specs.Serial.{Serial, serial_bytes}
use Rattle.duk_host.specs.inner.Handle.{IsRefusalVerdict}
use Rattle.duk_host.specs.inner.Judged.{IsReasonAgainstMac, IsReasonAgainstNumber, IsSettled}
use Rattle.duk_host.specs.Judgement.{Decision, IsAuthentic, IsNoRepeat, IsRefusalFor, JudgementBasis, basis_with, refusal_frame}
use Rattle.duk_host.specs.Used.{IsUsed}
use Rattle.duk_host.specs.declared.answered.Verdict.{Verdict}
use Rattle.duk_host.specs.declared.answered.Verdict.TheVariants.{Accepted, Refused, Repeated}
use Rattle.duk_host.specs.declared.reason.Reason.{Reason}
use Rattle.duk_host.specs.declared.reason.Reason.TheVariants as reason
use Rattle.duk_host.proofs.Reasons.{Case, mac_case, reason_of}

-- a reason against the number of a request that is no repeat is the least against the request
against : (basis : JudgementBasis) (request : Request) (why : Reason) → IsAuthentic basis.keys request → IsNoRepeat basis request → IsReasonAgainstNumber basis.used basis.room request.ksn why → Case basis request why
against basis request reason.Malformed authentic no_repeat number = absurd number
against basis request reason.UnknownKeySet authentic no_repeat number = absurd number
against basis request reason.BadCounter authentic no_repeat number = absurd number
against basis request reason.BadMac authentic no_repeat number = absurd number
against basis request reason.Used authentic no_repeat number = record { authentic = authentic; no_repeat = no_repeat; used = number }
against basis request reason.LogFull authentic no_repeat number = record { authentic = authentic; no_repeat = no_repeat; fresh = number.fresh; full = number.full }

-- so it is refused for it
pub number_refuses :
    (basis : JudgementBasis) (bytes frame : List ℕ) (request : Request) (why : Reason) (says : Verdict)
    → IsRequest bytes request → IsAuthentic basis.keys request → IsNoRepeat basis request → IsReasonAgainstNumber basis.used basis.room request.ksn why
    → frame ≡ refusal_frame (serial_bytes request.ksn) why → IsRefusalVerdict frame says → IsSettled basis bytes frame says
number_refuses basis bytes frame request why (Accepted ksn code) is_request authentic no_repeat number frame_is reported = absurd reported
number_refuses basis bytes frame request why (Repeated ksn code) is_request authentic no_repeat number frame_is reported = absurd reported
number_refuses basis bytes frame request why (Refused ksn reason) is_request authentic no_repeat number frame_is reported =
    inr (record { request = request; reason = why; is_request = is_request; refuses = reason_of basis request why (against basis request why authentic no_repeat number); frame_is = frame_is })

-- so is one whose MAC is not verified
pub mac_refuses :
    (basis : JudgementBasis) (bytes frame : List ℕ) (request : Request) (why : Reason) (says : Verdict)
    → IsRequest bytes request → IsReasonAgainstMac basis.keys request why
    → frame ≡ refusal_frame (serial_bytes request.ksn) why → IsRefusalVerdict frame says → IsSettled basis bytes frame says
mac_refuses basis bytes frame request why (Accepted ksn code) is_request against frame_is reported = absurd reported
mac_refuses basis bytes frame request why (Repeated ksn code) is_request against frame_is reported = absurd reported
mac_refuses basis bytes frame request why (Refused ksn reason) is_request against frame_is reported =
    inr (record { request = request; reason = why; is_request = is_request; refuses = reason_of basis request why (mac_case basis request why against); frame_is = frame_is })

-- a list has the used numbers, and no other
abbrev pub HasUsed : Numbers → Numbers → Type 0
HasUsed numbers used = (ksn : Serial) → Contains numbers ksn ↔ IsUsed used ksn

-- a reason against a number by the used ones is one by a list that has these
listed : (numbers used : Numbers) (room : ℕ) (ksn : Serial) (why : Reason) → HasUsed numbers used → IsReasonAgainstNumber used room ksn why → IsReasonAgainstNumber numbers room ksn why
listed numbers used room ksn reason.Malformed has against = absurd against
listed numbers used room ksn reason.UnknownKeySet has against = absurd against
listed numbers used room ksn reason.BadCounter has against = absurd against
listed numbers used room ksn reason.BadMac has against = absurd against
listed numbers used room ksn reason.Used has against = (has ksn).1 against
listed numbers used room ksn reason.LogFull has against = record { fresh = λ is_used. against.fresh ((has ksn).0 is_used); full = against.full }

-- so an authentic request is refused for it by that list, where no exchange is kept
pub number_refusal :
    (keys : HsmKeys) (numbers used : Numbers) (room : ℕ) (decides : Decision) (bytes frame : List ℕ) (request : Request) (why : Reason)
    → IsRequest bytes request → IsAuthentic keys request → HasUsed numbers used → IsReasonAgainstNumber used room request.ksn why
    → frame ≡ refusal_frame (serial_bytes request.ksn) why → IsRefusalFor (basis_with keys numbers [] room decides) bytes frame
number_refusal keys numbers used room decides bytes frame request why is_request authentic has number frame_is =
    let basis = basis_with keys numbers [] room decides in
    let by_list = listed numbers used room request.ksn why has number in
    inr (record { request = request; reason = why; is_request = is_request; refuses = reason_of basis request why (against basis request why authentic refl by_list); frame_is = frame_is })
