-- What bytes are judged to be, and the reasons against a MAC and a number, as private functions
-- answer them: this project's own.
use Rattle.std.specs.Prelude.{◌≡◌, ℕ, List, None}
use Rattle.duk_frame.specs.declared.request.Request.{Request}
use Rattle.duk_hsm.specs.Commands.{HasBadCounter, IsOtherMac}
use Rattle.duk_hsm.specs.Keys.{HsmKeys, key_set_of}
use Rattle.duk_store.specs.Log.{Numbers}
use Rattle.duk_tree.specs.Serial.{Serial, prefix_of}
use Rattle.duk_host.specs.Judgement.{IsRefusalFor, IsRepeated, JudgementBasis, authenticated_text}
use Rattle.duk_host.specs.Used.{IsUsed}
use Rattle.duk_host.specs.declared.answered.Answered.{Answered}
use Rattle.duk_host.specs.declared.answered.Verdict.{Verdict}
use Rattle.duk_host.specs.declared.answered.Verdict.TheVariants.{Accepted, Refused, Repeated}
use Rattle.duk_host.specs.declared.judge.Judgement.{Judgement}
use Rattle.duk_host.specs.declared.judge.Judgement.TheVariants.{Fresh, Settled}
use Rattle.duk_host.specs.declared.payment.Payment.{Payment}
use Rattle.duk_host.specs.declared.reason.Reason.{Reason}
use Rattle.duk_host.specs.declared.reason.Reason.TheVariants as reason

-- why the MAC of a request is not verified. Each reason says that those before it do not hold
abbrev pub IsReasonAgainstMac : HsmKeys → Request → Reason → Type 0
IsReasonAgainstMac keys request reason.UnknownKeySet =
    key_set_of keys (prefix_of request.ksn) ≡ None
IsReasonAgainstMac keys request reason.BadCounter = HasBadCounter keys request.ksn
IsReasonAgainstMac keys request reason.BadMac =
    IsOtherMac keys request.ksn (authenticated_text request) request.mac
IsReasonAgainstMac keys request _ = ⊥

-- the number is not used, and there is no room for it
pub record IsFreshWithoutRoom (used : Numbers) (room : ℕ) (ksn : Serial) : Type 0 where
  pub fresh : ¬ IsUsed used ksn
  pub full : room ≡ 0

-- why a number cannot be used by the next request: it is used, or else there is no room for it
abbrev pub IsReasonAgainstNumber : Numbers → ℕ → Serial → Reason → Type 0
IsReasonAgainstNumber used room ksn reason.Used = IsUsed used ksn
IsReasonAgainstNumber used room ksn reason.LogFull = IsFreshWithoutRoom used room ksn
IsReasonAgainstNumber used room ksn _ = ⊥

-- where a judgement is a fresh payment, this holds of the payment
abbrev pub IfFresh : Judgement → (Payment → Type 0) → Type 0
IfFresh (Fresh payment) Holds = Holds payment
IfFresh (Settled answered) Holds = Unit {0}

-- where a judgement is settled, this holds of the answer
abbrev pub IfSettled : Judgement → (Answered → Type 0) → Type 0
IfSettled (Fresh payment) Holds = Unit {0}
IfSettled (Settled answered) Holds = Holds answered

-- an answer that changes nothing, by what is said of it: a refusal, or a reply that was given before
abbrev pub IsSettled : JudgementBasis → List ℕ → List ℕ → Verdict → Type 0
IsSettled basis bytes frame (Refused ksn reason) = IsRefusalFor basis bytes frame
IsSettled basis bytes frame (Repeated ksn code) = IsRepeated basis bytes frame
IsSettled basis bytes frame (Accepted ksn code) = ⊥
