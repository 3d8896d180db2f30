-- How a host over a journal decides in steps, none of which reads or writes: this project's own. A
-- frame is authenticated, or refused whatever is kept; it is settled by what is kept; and with its
-- settlement it has an answer.
use Rattle.std.specs.Prelude.{◌≡◌, ◌<◌, ℕ, List, [], ◌∷◌, Contains}
use Rattle.duk_frame.specs.Request.{IsRequest}
use Rattle.duk_frame.specs.declared.code.Code.{Code}
use Rattle.duk_frame.specs.declared.request.Request.{Request}
use Rattle.duk_host.specs.Judgement.{Decision, IsAuthentic, IsCodeOf, IsReplyWith}
use Rattle.duk_host.specs.declared.reason.Reason.TheVariants as reason
use Rattle.duk_hsm.specs.Keys.{HsmKeys}
use Rattle.duk_journal.specs.Groups.{Entries}
use Rattle.duk_journal.specs.Standing.{payment_entry, reversed_numbers, used_by}
use Rattle.duk_journal.specs.declared.entry.Entry.{Entry}
use Rattle.duk_reversal.specs.Reversal.{IsReversal}
use Rattle.duk_reversal.specs.declared.reversal.Reversal.{Reversal}
use Rattle.duk_reversal.specs.declared.state.ReversalState.{ReversalState}
use Rattle.duk_tree.specs.Serial.{Serial}
use Rattle.duk_journal_host.specs.Judgement.{FindsState, IsAuthenticReversal, IsReversalReplyWith, IsSettled, line_basis, refusal_of, reversal_entry, room_for_payments}
use Rattle.duk_journal_host.specs.Latest.{latest_entries}
use Rattle.duk_journal_host.specs.declared.authentic.Purchase.{Purchase}
use Rattle.duk_journal_host.specs.declared.settlement.Settled.{Settled}
use Rattle.duk_journal_host.specs.declared.settlement.Settled.TheVariants as settled
use Rattle.duk_journal_host.specs.declared.settlement.Settlement.{Settlement}
use Rattle.duk_journal_host.specs.declared.settlement.Settlement.TheVariants.{Full, Kept, KnownAgain, Used}

-- ---- a frame is authenticated

-- what a request asks for: all that is kept of it but its code
abbrev pub purchase_of : Request → Purchase
purchase_of request =
    record { number = request.ksn; amount = request.amount; mac = request.mac }

-- the bytes are an authentic request of this purchase, and no reversal
pub record IsPurchase (keys : HsmKeys) (bytes : List ℕ) (purchase : Purchase) : Type 0 where
  pub request : Request
  pub no_reversal : (reversal : Reversal) → ¬ IsReversal bytes reversal
  pub is_request : IsRequest bytes request
  pub authentic : IsAuthentic keys request
  pub purchase_is : purchase ≡ purchase_of request

-- the bytes are an authentic reversal, this one
pub record IsReversalAsked (keys : HsmKeys) (bytes : List ℕ) (reversal : Reversal) : Type 0 where
  pub is_reversal : IsReversal bytes reversal
  pub authentic : IsAuthenticReversal keys reversal

-- the bytes are refused with this frame, whatever is kept
abbrev pub IsDismissed : HsmKeys → List ℕ → List ℕ → Type 0
IsDismissed keys bytes frame = (entries : Entries) (capacity room : ℕ) (decides : Decision)
    → IsSettled (line_basis keys entries capacity room decides) bytes frame

-- the code of the request that the bytes are
abbrev pub IsCodeFor : HsmKeys → Decision → List ℕ → Code → Type 0
IsCodeFor keys decides bytes code =
    (request : Request) → IsRequest bytes request → IsCodeOf keys decides request code

-- ---- it is settled

-- the bytes are what was settled
abbrev pub IsAsked : HsmKeys → List ℕ → Settled → Type 0
IsAsked keys bytes (settled.Payment purchase settlement) = IsPurchase keys bytes purchase
IsAsked keys bytes (settled.Reversal reversal settlement) = IsReversalAsked keys bytes reversal

-- the number that it uses
abbrev pub number_in : Settled → Serial
number_in (settled.Payment purchase settlement) = purchase.number
number_in (settled.Reversal reversal settlement) = reversal.numbers.ksn

-- a number is new, and there is room for it
pub record IsAdmissible (entries : Entries) (number : Serial) (room : ℕ) : Type 0 where
  pub new : ¬ Contains (used_by entries) number
  pub room_left : 0 < room

-- nothing that may be known is
abbrev pub IsUnknown : {T : Type 0} → (T → Type 0) → Type 0
IsUnknown {T} known = (outcome : T) → ¬ known outcome

-- what uses this number is settled so, by these entries, with room for so many more. What may be
-- known of it, and what comes of it, depends on its kind
abbrev pub IsSettlement : {T : Type 0} → Entries → Serial → ℕ → (T → Type 0) → (T → Type 0)
    → Settlement T → Type 0
IsSettlement entries number room known comes (KnownAgain outcome) = known outcome
IsSettlement entries number room known comes Used =
    IsUnknown known × Contains (used_by entries) number
IsSettlement entries number room known comes Full =
    IsUnknown known × (¬ Contains (used_by entries) number) × (room ≡ 0)
IsSettlement entries number room known comes (Kept outcome) =
    IsAdmissible entries number room × comes outcome

-- a purchase is one of the latest entries, with this code, and is not undone
pub record IsPurchaseKnown (entries : Entries) (purchase : Purchase) (code : Code) : Type 0 where
  pub amount : ℕ
  pub kept : Contains (latest_entries entries)
      (payment_entry purchase.number amount code purchase.mac)
  pub not_undone : ¬ Contains (reversed_numbers entries) purchase.number

-- a reversal is one of the latest entries, and found this
abbrev pub IsReversalKnown : Entries → Reversal → ReversalState → Type 0
IsReversalKnown entries reversal state =
    Contains (latest_entries entries) (reversal_entry reversal state)

-- it is settled so, by these entries of a journal that may keep so many and has room for so many
-- more, where this says which code a request has
abbrev pub IsSettledBy : Entries → ℕ → ℕ → (Code → Type 0) → Settled → Type 0
IsSettledBy entries capacity room is_code (settled.Payment purchase settlement) =
    IsSettlement entries purchase.number (room_for_payments capacity room)
    (IsPurchaseKnown entries purchase) is_code settlement
IsSettledBy entries capacity room is_code (settled.Reversal reversal settlement) =
    IsSettlement entries reversal.numbers.ksn room (IsReversalKnown entries reversal)
    (FindsState entries reversal.numbers.reversed) settlement

-- the entry that is kept from now on
abbrev pub entry_by : {T : Type 0} → (T → Entry) → Settlement T → Entries
entry_by entry_of (Kept outcome) = entry_of outcome ∷ []
entry_by entry_of _ = []

abbrev pub added_by : Settled → Entries
added_by (settled.Payment purchase settlement) =
    entry_by (λ code. payment_entry purchase.number purchase.amount code purchase.mac) settlement
added_by (settled.Reversal reversal settlement) = entry_by (reversal_entry reversal) settlement

-- ---- it is answered

-- the frame answers what uses this number and was settled so: with its reply, or with a refusal
abbrev pub IsAnswerBy : {T : Type 0} → Serial → (T → List ℕ → Type 0) → Settlement T → List ℕ → Type 0
IsAnswerBy number replies (Kept outcome) frame = replies outcome frame
IsAnswerBy number replies (KnownAgain outcome) frame = replies outcome frame
IsAnswerBy number replies Used frame = frame ≡ refusal_of number reason.Used
IsAnswerBy number replies Full frame = frame ≡ refusal_of number reason.LogFull

abbrev pub IsAnswerOf : HsmKeys → Settled → List ℕ → Type 0
IsAnswerOf keys (settled.Payment purchase settlement) frame =
    IsAnswerBy purchase.number (IsReplyWith keys purchase.number) settlement frame
IsAnswerOf keys (settled.Reversal reversal settlement) frame =
    IsAnswerBy reversal.numbers.ksn (IsReversalReplyWith keys reversal.numbers) settlement frame
