-- How a host judges a request: the reason for which it is refused, or the reply to it. This
-- project's own, over the transaction keys of ANSI X9.24-1:2009 annex A.
use Rattle.std.specs.Prelude.{◌≡◌, ◌⊎◌, ◌<◌, ℕ, List, Result, Some, None, IfErr, IfOk, IsSome, replicate}
use Rattle.duk_frame.specs.Answer.{refusal_text}
use Rattle.duk_frame.specs.Frame.{framed}
use Rattle.duk_frame.specs.Payment.{payment_reply}
use Rattle.duk_frame.specs.Request.{IsRequest, request_bytes, request_text}
use Rattle.duk_frame.specs.declared.code.Code.{Code}
use Rattle.duk_frame.specs.declared.code.Code.TheVariants.{Unreadable}
use Rattle.duk_frame.specs.declared.request.Request.{Request}
use Rattle.duk_hsm.specs.Commands.{HasNoPin, IsRequestMac, IsTransactionKey, IsTranslated, NoTransactionKey}
use Rattle.duk_hsm.specs.Keys.{HsmKeys, key_set_of}
use Rattle.duk_hsm.specs.TransactionKeys.{AreTransactionKeys, TransactionKeys}
use Rattle.duk_hsm.specs.declared.fault.HsmFault.{HsmFault}
use Rattle.duk_io.specs.FirstFault.{IsFirst}
use Rattle.duk_store.specs.Log.{Numbers}
use Rattle.duk_tree.specs.Path.{IsUsable}
use Rattle.duk_tree.specs.Serial.{Serial, serial_bytes, prefix_of}
use Rattle.duk_host.specs.Recent.{Exchange, reply_given}
use Rattle.duk_host.specs.Used.{IsUsed}
use Rattle.duk_host.specs.declared.reason.Reason.{Reason}
use Rattle.duk_host.specs.declared.reason.Reason.TheVariants as reason

-- what an issuer says of a PAN, an amount and a PIN block under the zone key
abbrev pub Decision : Type 0
Decision = List ℕ → ℕ → List ℕ → Code

-- what requests are judged by: the keys that are held, the used numbers, the latest requests that
-- were accepted with their replies, the oldest first, for how many more numbers there is room, and
-- the issuer's decision
pub record JudgementBasis : Type 0 where
  pub keys : HsmKeys
  pub used : Numbers
  pub recent : List Exchange
  pub room : ℕ
  pub decides : Decision

-- those things together
abbrev pub basis_with : HsmKeys → Numbers → List Exchange → ℕ → Decision → JudgementBasis
basis_with keys used recent room decides =
    record { keys = keys; used = used; recent = recent; room = room; decides = decides }

-- the contents of a request before its MAC
abbrev pub authenticated_text : Request → List ℕ
authenticated_text request = request_text request.ksn request.pan request.amount request.block

-- the number of a reason in a refusal, which is its place in the order of the reasons
abbrev pub reason_number : Reason → ℕ
reason_number reason.Malformed = 1
reason_number reason.UnknownKeySet = 2
reason_number reason.BadCounter = 3
reason_number reason.BadMac = 4
reason_number reason.Used = 5
reason_number reason.LogFull = 6

-- the MAC of the request is that of its text under the transaction key's variant for requests. So
-- its key set is held, and its counter numbers a transaction
abbrev pub IsAuthentic : HsmKeys → Request → Type 0
IsAuthentic keys request = IsRequestMac keys request.ksn (authenticated_text request) request.mac

-- what opening a key serial number gives under the held keys: its transaction keys, or why it has none
pub record IsOpenedTo (keys : HsmKeys) (ksn : Serial) (opened : Result TransactionKeys HsmFault)
    : Type 0 where
  pub given : IfOk opened (AreTransactionKeys keys ksn)
  pub refused : IfErr opened (NoTransactionKey keys ksn)

-- where the bytes are a request, this is what opening its number gives
abbrev pub OpensRequest : HsmKeys → List ℕ → Result TransactionKeys HsmFault → Type 0
OpensRequest keys bytes opened =
    (request : Request) → IsRequest bytes request → IsOpenedTo keys request.ksn opened

-- the frame of the request is one of the latest that were accepted, and this reply was given to it
abbrev pub WasGiven : JudgementBasis → Request → List ℕ → Type 0
WasGiven basis request frame = reply_given basis.recent (request_bytes request) ≡ Some frame

-- the frame of the request is none of the latest that were accepted
abbrev pub IsNoRepeat : JudgementBasis → Request → Type 0
IsNoRepeat basis request = reply_given basis.recent (request_bytes request) ≡ None

-- what has to hold of a request, by the reason for which it is refused where that does not hold.
-- Bytes that are no request are refused as malformed before
abbrev pub Passes : JudgementBasis → Request → Reason → Type 0
Passes basis request reason.Malformed = Unit {0}
Passes basis request reason.UnknownKeySet = IsSome (key_set_of basis.keys (prefix_of request.ksn))
Passes basis request reason.BadCounter = IsUsable request.ksn.counter
Passes basis request reason.BadMac = IsAuthentic basis.keys request
Passes basis request reason.Used = ¬ IsUsed basis.used request.ksn
Passes basis request reason.LogFull = 0 < basis.room

-- it does not hold. One of the latest requests that were accepted fails neither for its number nor
-- for the room, since it is given its reply again
abbrev pub Fails : JudgementBasis → Request → Reason → Type 0
Fails basis request reason.Malformed = ⊥
Fails basis request reason.UnknownKeySet = key_set_of basis.keys (prefix_of request.ksn) ≡ None
Fails basis request reason.BadCounter = ¬ IsUsable request.ksn.counter
Fails basis request reason.BadMac = ¬ IsAuthentic basis.keys request
Fails basis request reason.Used = IsNoRepeat basis request × IsUsed basis.used request.ksn
Fails basis request reason.LogFull = IsNoRepeat basis request × (basis.room ≡ 0)

-- the least reason against a request: it fails for this one, and passes for each before it
abbrev pub IsReasonAgainst : JudgementBasis → Request → Reason → Type 0
IsReasonAgainst basis request =
    IsFirst reason_number (Passes basis request) (Fails basis request)

-- the frame of a refusal
abbrev pub refusal_frame : List ℕ → Reason → List ℕ
refusal_frame ksn reason = framed (refusal_text ksn (reason_number reason))

-- the key serial number of ten zero bytes
abbrev pub no_serial : Serial
no_serial = record { iksn = 0; counter = 0 }

-- the bytes are no request, and the refusal has ten zero bytes as its key serial number
pub record IsMalformed (bytes frame : List ℕ) : Type 0 where
  pub no_request : (request : Request) → ¬ IsRequest bytes request
  pub frame_is : frame ≡ refusal_frame (replicate 10 0) reason.Malformed

-- the bytes are a request that is refused
pub record IsRefusedRequest (basis : JudgementBasis) (bytes frame : List ℕ) : Type 0 where
  pub request : Request
  pub reason : Reason
  pub is_request : IsRequest bytes request
  pub refuses : IsReasonAgainst basis request reason
  pub frame_is : frame ≡ refusal_frame (serial_bytes request.ksn) reason

-- the frame is the refusal of the bytes
abbrev pub IsRefusalFor : JudgementBasis → List ℕ → List ℕ → Type 0
IsRefusalFor basis bytes frame = IsMalformed bytes frame ⊎ IsRefusedRequest basis bytes frame

-- the bytes are one of the latest requests that were accepted, and the frame is the reply that it
-- was given
pub record IsRepeated (basis : JudgementBasis) (bytes frame : List ℕ) : Type 0 where
  pub request : Request
  pub is_request : IsRequest bytes request
  pub authentic : IsAuthentic basis.keys request
  pub given : WasGiven basis request frame

-- there is no reason against a request, and it is none of the latest that were accepted
pub record IsAcceptable (basis : JudgementBasis) (request : Request) : Type 0 where
  pub authentic : IsAuthentic basis.keys request
  pub no_repeat : IsNoRepeat basis request
  pub fresh : ¬ IsUsed basis.used request.ksn
  pub room : 0 < basis.room

-- the issuer says this of the PIN block, under the zone key
pub record IsDecided
    (keys : HsmKeys) (decides : Decision) (request : Request) (code : Code) : Type 0 where
  pub block : List ℕ
  pub translated : IsTranslated keys request.ksn request.block request.pan block
  pub code_is : code ≡ decides request.pan request.amount block

-- the deciphered PIN block is that of no PIN under the PAN, and the issuer is not asked
pub record IsUnreadable (keys : HsmKeys) (request : Request) (code : Code) : Type 0 where
  pub no_pin : HasNoPin keys request.ksn request.block request.pan
  pub code_is : code ≡ Unreadable

-- the code for a request
abbrev pub IsCodeOf : HsmKeys → Decision → Request → Code → Type 0
IsCodeOf keys decides request code =
    IsDecided keys decides request code ⊎ IsUnreadable keys request code

-- the accepted reply with this code, under the transaction key of the number
pub record IsReplyWith (keys : HsmKeys) (ksn : Serial) (code : Code) (frame : List ℕ) : Type 0 where
  pub key : List ℕ
  pub key_is : IsTransactionKey keys ksn key
  pub frame_is : frame ≡ payment_reply key ksn code

-- the accepted reply to a request
pub record IsReplyTo
    (keys : HsmKeys) (decides : Decision) (request : Request) (frame : List ℕ) : Type 0 where
  pub code : Code
  pub code_is : IsCodeOf keys decides request code
  pub reply : IsReplyWith keys request.ksn code frame

-- the bytes are a request that is accepted with this reply
pub record IsAccepted
    (basis : JudgementBasis) (bytes : List ℕ) (request : Request) (frame : List ℕ) : Type 0 where
  pub is_request : IsRequest bytes request
  pub acceptable : IsAcceptable basis request
  pub reply : IsReplyTo basis.keys basis.decides request frame

-- the frame is the answer to the bytes: their refusal, the reply to the request that they are, or
-- the reply that this request was given before
abbrev pub IsAnswerTo : JudgementBasis → List ℕ → List ℕ → Type 0
IsAnswerTo basis bytes frame =
    IsRefusalFor basis bytes frame
    ⊎ ((request : Request) × IsAccepted basis bytes request frame)
    ⊎ IsRepeated basis bytes frame
