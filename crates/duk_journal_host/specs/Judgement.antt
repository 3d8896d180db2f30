-- How a host over a journal judges a frame, given the entries kept so far: this project's own. A
-- payment is judged as `duk_host` does, by the numbers that these entries use, with the latest of
-- them in place of the exchanges; a reversal is judged by the same reasons in the same order.
use Rattle.std.specs.Prelude.{◌≡◌, ◌⊎◌, ◌<◌, ◌-◌, ◌*◌, ◌++◌, ℕ, List, [], ◌∷◌, None, IsSome, Contains, if◌then◌else◌, length, nat_le}
use Rattle.duk_frame.specs.Request.{IsRequest}
use Rattle.duk_frame.specs.declared.code.Code.{Code}
use Rattle.duk_frame.specs.declared.request.Request.{Request}
use Rattle.duk_host.specs.Judgement.{Decision, IsAcceptable, IsAccepted, IsAuthentic, IsRefusalFor, IsReplyWith, JudgementBasis, basis_with, reason_number, refusal_frame}
use Rattle.duk_host.specs.declared.reason.Reason.{Reason}
use Rattle.duk_host.specs.declared.reason.Reason.TheVariants as reason
use Rattle.duk_hsm.specs.Commands.{IsRequestMac, IsTransactionKey}
use Rattle.duk_hsm.specs.Keys.{HsmKeys, key_set_of}
use Rattle.duk_io.specs.FirstFault.{IsFirst}
use Rattle.duk_journal.specs.Groups.{Entries}
use Rattle.duk_journal.specs.Standing.{HasApproved, payment_entry, reversed_numbers, used_by}
use Rattle.duk_journal.specs.declared.entry.Decided.TheVariants.{Reversal}
use Rattle.duk_journal.specs.declared.entry.Entry.{Entry}
use Rattle.duk_reversal.specs.Authentic.{reversal_reply_under}
use Rattle.duk_reversal.specs.Numbers.{Numbers}
use Rattle.duk_reversal.specs.Reversal.{IsReversal, reversal_text}
use Rattle.duk_reversal.specs.declared.reversal.Reversal as reversal_frame
use Rattle.duk_reversal.specs.declared.state.ReversalState.{ReversalState}
use Rattle.duk_reversal.specs.declared.state.ReversalState.TheVariants.{NoneStands, Undone}
use Rattle.duk_tree.specs.Derivation.{response_key_of}
use Rattle.duk_tree.specs.Path.{IsUsable}
use Rattle.duk_tree.specs.Serial.{Serial, prefix_of, serial_bytes}
use Rattle.duk_journal_host.specs.Latest.{latest_entries}

-- what frames are judged by: the keys that are held, the entries kept so far, how many a journal may
-- keep and for how many more there is room, and the issuer's decision
pub record LineBasis : Type 0 where
  pub keys : HsmKeys
  pub entries : Entries
  pub capacity : ℕ
  pub room : ℕ
  pub decides : Decision

-- those things together
abbrev pub line_basis : HsmKeys → Entries → ℕ → ℕ → Decision → LineBasis
line_basis keys entries capacity room decides = record {
  keys = keys;
  entries = entries;
  capacity = capacity;
  room = room;
  decides = decides;
}

-- for how many more payments there is room: none once less than a sixteenth of the journal is left,
-- which is kept for reversals
abbrev pub room_for_payments : ℕ → ℕ → ℕ
room_for_payments capacity room = if nat_le capacity (16 * room) then room else 0

-- the same for a host that answers nothing again: all numbers that the entries use are used
abbrev pub without_repeats : LineBasis → JudgementBasis
without_repeats basis =
    basis_with basis.keys (used_by basis.entries) []
    (room_for_payments basis.capacity basis.room) basis.decides

-- what is kept of a request that is accepted with a code
abbrev pub entry_of : Request → Code → Entry
entry_of request code = payment_entry request.ksn request.amount code request.mac

-- the payment of a request is one of the latest entries, with this code, and is not undone
pub record IsPaymentKept (basis : LineBasis) (request : Request) (code : Code) : Type 0 where
  pub amount : ℕ
  pub kept : Contains (latest_entries basis.entries) (payment_entry request.ksn amount code request.mac)
  pub not_undone : ¬ Contains (reversed_numbers basis.entries) request.ksn

-- the bytes are a request whose payment is one of the latest entries, and the frame is the reply
-- with its code, made anew
pub record IsAnsweredAgain (basis : LineBasis) (bytes frame : List ℕ) : Type 0 where
  pub request : Request
  pub code : Code
  pub is_request : IsRequest bytes request
  pub authentic : IsAuthentic basis.keys request
  pub kept : IsPaymentKept basis request code
  pub reply : IsReplyWith basis.keys request.ksn code frame

-- the bytes are no such request
abbrev pub IsNoRepeat : LineBasis → List ℕ → Type 0
IsNoRepeat basis bytes =
    (request : Request) (code : Code) → IsRequest bytes request
    → IsAuthentic basis.keys request → ¬ IsPaymentKept basis request code

-- the bytes are no reversal, and are refused with this frame
pub record IsRefused (basis : LineBasis) (bytes frame : List ℕ) : Type 0 where
  pub no_reversal : (reversal : reversal_frame.Reversal) → ¬ IsReversal bytes reversal
  pub no_repeat : IsNoRepeat basis bytes
  pub refusal : IsRefusalFor (without_repeats basis) bytes frame

-- the bytes are a request that is accepted with this frame, and this entry is kept of it
pub record IsPaid (basis : LineBasis) (bytes frame : List ℕ) (entry : Entry) : Type 0 where
  pub request : Request
  pub accepted : IsAccepted (without_repeats basis) bytes request frame
  pub entry_is : entry ≡ entry_of request accepted.reply.code

-- the MAC of the reversal is that of its text under the transaction key's variant for requests. So
-- its key set is held, and its counter numbers a transaction
abbrev pub IsAuthenticReversal : HsmKeys → reversal_frame.Reversal → Type 0
IsAuthenticReversal keys reversal =
    IsRequestMac keys reversal.numbers.ksn (reversal_text reversal.numbers) reversal.mac

-- what is kept of a reversal that found this
abbrev pub reversal_entry : reversal_frame.Reversal → ReversalState → Entry
reversal_entry reversal state = record {
  number = reversal.numbers.ksn;
  decided = Reversal reversal.numbers.reversed.counter state;
  mac = reversal.mac;
}

-- what a reversal of a number finds: an approved payment, which it undoes, or which one before it
-- undid; or none
abbrev pub FindsState : Entries → Serial → ReversalState → Type 0
FindsState entries number Undone = HasApproved entries number
FindsState entries number NoneStands = ¬ HasApproved entries number

-- the reply to a reversal with this state, under the transaction key of the number that it uses
pub record IsReversalReplyWith
    (keys : HsmKeys) (numbers : Numbers) (state : ReversalState) (frame : List ℕ) : Type 0 where
  pub key : List ℕ
  pub key_is : IsTransactionKey keys numbers.ksn key
  pub frame_is : frame ≡ reversal_reply_under (response_key_of key) numbers state

-- what has to hold of a reversal, by the reason for which it is refused where that does not hold. The
-- reasons are those against a request. Bytes that are no reversal are not judged as one, so that none
-- is malformed
abbrev pub ReversalPasses : LineBasis → reversal_frame.Reversal → Reason → Type 0
ReversalPasses basis reversal reason.Malformed = Unit {0}
ReversalPasses basis reversal reason.UnknownKeySet =
    IsSome (key_set_of basis.keys (prefix_of reversal.numbers.ksn))
ReversalPasses basis reversal reason.BadCounter = IsUsable reversal.numbers.ksn.counter
ReversalPasses basis reversal reason.BadMac = IsAuthenticReversal basis.keys reversal
ReversalPasses basis reversal reason.Used =
    ¬ Contains (used_by basis.entries) reversal.numbers.ksn
ReversalPasses basis reversal reason.LogFull = 0 < basis.room

-- it does not hold
abbrev pub ReversalFails : LineBasis → reversal_frame.Reversal → Reason → Type 0
ReversalFails basis reversal reason.Malformed = ⊥
ReversalFails basis reversal reason.UnknownKeySet =
    key_set_of basis.keys (prefix_of reversal.numbers.ksn) ≡ None
ReversalFails basis reversal reason.BadCounter = ¬ IsUsable reversal.numbers.ksn.counter
ReversalFails basis reversal reason.BadMac = ¬ IsAuthenticReversal basis.keys reversal
ReversalFails basis reversal reason.Used = Contains (used_by basis.entries) reversal.numbers.ksn
ReversalFails basis reversal reason.LogFull = basis.room ≡ 0

-- the least reason against a reversal: it fails for this one, and passes for each before it
abbrev pub IsReasonAgainst : LineBasis → reversal_frame.Reversal → Reason → Type 0
IsReasonAgainst basis reversal =
    IsFirst reason_number (ReversalPasses basis reversal) (ReversalFails basis reversal)

-- the frame of the refusal of what uses this number, a reversal or a request
abbrev pub refusal_of : Serial → Reason → List ℕ
refusal_of ksn why = refusal_frame (serial_bytes ksn) why

-- the reversal is one of the latest entries, and found this then
abbrev pub IsReversalKept : LineBasis → reversal_frame.Reversal → ReversalState → Type 0
IsReversalKept basis reversal state =
    Contains (latest_entries basis.entries) (reversal_entry reversal state)

-- the bytes are a reversal that is refused with this frame, for the least reason against it
pub record IsReversalRefused (basis : LineBasis) (bytes frame : List ℕ) : Type 0 where
  pub reversal : reversal_frame.Reversal
  pub why : Reason
  pub is_reversal : IsReversal bytes reversal
  pub no_repeat : IsAuthenticReversal basis.keys reversal
      → (state : ReversalState) → ¬ IsReversalKept basis reversal state
  pub refuses : IsReasonAgainst basis reversal why
  pub frame_is : frame ≡ refusal_of reversal.numbers.ksn why

-- the bytes are a reversal that is one of the latest entries, and the frame is its reply, made anew
pub record IsReversalAnsweredAgain (basis : LineBasis) (bytes frame : List ℕ) : Type 0 where
  pub reversal : reversal_frame.Reversal
  pub state : ReversalState
  pub is_reversal : IsReversal bytes reversal
  pub authentic : IsAuthenticReversal basis.keys reversal
  pub kept : IsReversalKept basis reversal state
  pub reply : IsReversalReplyWith basis.keys reversal.numbers state frame

-- there is no reason against a reversal
pub record IsReversalAcceptable (basis : LineBasis) (reversal : reversal_frame.Reversal) : Type 0 where
  pub authentic : IsAuthenticReversal basis.keys reversal
  pub new : ¬ Contains (used_by basis.entries) reversal.numbers.ksn
  pub room : 0 < basis.room

-- the bytes are a reversal that is accepted with this frame, and this entry is kept of it
pub record IsReversed (basis : LineBasis) (bytes frame : List ℕ) (entry : Entry) : Type 0 where
  pub reversal : reversal_frame.Reversal
  pub state : ReversalState
  pub is_reversal : IsReversal bytes reversal
  pub acceptable : IsReversalAcceptable basis reversal
  pub finds : FindsState basis.entries reversal.numbers.reversed state
  pub reply : IsReversalReplyWith basis.keys reversal.numbers state frame
  pub entry_is : entry ≡ reversal_entry reversal state

-- the frame that bytes are answered with where nothing is kept of them
abbrev pub IsSettled : LineBasis → List ℕ → List ℕ → Type 0
IsSettled basis bytes frame =
    (IsRefused basis bytes frame ⊎ IsAnsweredAgain basis bytes frame)
    ⊎ (IsReversalRefused basis bytes frame ⊎ IsReversalAnsweredAgain basis bytes frame)

-- the bytes are accepted with this frame, and this entry is kept of them
abbrev pub IsTaken : LineBasis → List ℕ → List ℕ → Entry → Type 0
IsTaken basis bytes frame entry =
    IsPaid basis bytes frame entry ⊎ IsReversed basis bytes frame entry

-- the bytes are a request, or a reversal, against which there is no reason
abbrev pub MayBeTaken : LineBasis → List ℕ → Type 0
MayBeTaken basis bytes =
    ((request : Request) × IsRequest bytes request × IsAcceptable (without_repeats basis) request)
    ⊎ ((reversal : reversal_frame.Reversal) × IsReversal bytes reversal
    × IsReversalAcceptable basis reversal)

-- bytes are answered with this frame, and these entries are added: one where they are accepted, and
-- else none
abbrev pub IsJudged : LineBasis → List ℕ → List ℕ → Entries → Type 0
IsJudged basis bytes frame added =
    (IsSettled basis bytes frame × (added ≡ []))
    ⊎ ((entry : Entry) × IsTaken basis bytes frame entry × (added ≡ entry ∷ []))

-- what later frames are judged by, once entries are added
abbrev pub with_entries : LineBasis → Entries → LineBasis
with_entries basis added =
    line_basis basis.keys (basis.entries ++ added) basis.capacity (basis.room - length added)
    basis.decides
