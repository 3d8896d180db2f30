-- What single functions make of an authentic frame and of the index of some entries: this project's
-- own.
use Rattle.std.specs.Prelude.{◌≡◌, ◌<◌, ◌++◌, ℕ, List}
use Rattle.duk_frame.specs.Request.{IsRequest}
use Rattle.duk_frame.specs.declared.code.Code.{Code}
use Rattle.duk_host.specs.Judgement.{Decision, IsCodeOf}
use Rattle.duk_hsm.specs.Commands.{HasTransactionKey}
use Rattle.duk_hsm.specs.Keys.{HsmKeys}
use Rattle.duk_hsm.specs.TransactionKeys.{AreTransactionKeys}
use Rattle.duk_journal.specs.Groups.{Entries}
use Rattle.duk_reversal.specs.declared.reversal.Reversal.{Reversal}
use Rattle.duk_reversal.specs.declared.state.ReversalState.{ReversalState}
use Rattle.duk_tree.specs.Serial.{Serial}
use Rattle.duk_journal_host.specs.Host.{IndexOf, IsIndexOf}
use Rattle.duk_journal_host.specs.Judgement.{FindsState, reversal_entry, room_for_payments}
use Rattle.duk_journal.specs.Standing.{payment_entry}
use Rattle.duk_journal_host.specs.Steps.{IsPurchase, IsPurchaseKnown, IsReversalAsked, IsReversalKnown, IsSettledBy, IsSettlement, added_by, entry_by, purchase_of}
use Rattle.duk_journal_host.specs.declared.authentic.Authentic.{Authentic}
use Rattle.duk_journal_host.specs.declared.authentic.Authentic.TheVariants as authentic
use Rattle.duk_journal_host.specs.declared.authentic.Purchase.{Purchase}
use Rattle.duk_journal_host.specs.declared.settlement.Settled.{Settled}
use Rattle.duk_journal_host.specs.declared.settlement.Settled.TheVariants as settled
use Rattle.duk_journal_host.specs.declared.settlement.Settlement.{Settlement}
use Rattle.duk_journal_host.specs.declared.settlement.Settlement.TheVariants.{Kept}

-- what was authenticated was opened under these keys
abbrev pub IsOpenedUnder : HsmKeys → Authentic → Type 0
IsOpenedUnder keys (authentic.Payment payment) =
    AreTransactionKeys keys payment.request.ksn payment.transaction
IsOpenedUnder keys (authentic.Reversal reversal) = HasTransactionKey keys reversal.numbers.ksn

-- the bytes are this, and it is authentic under these keys
abbrev pub IsAuthenticated : HsmKeys → List ℕ → Authentic → Type 0
IsAuthenticated keys bytes (authentic.Payment payment) =
    IsRequest bytes payment.request × IsPurchase keys bytes (purchase_of payment.request)
IsAuthenticated keys bytes (authentic.Reversal reversal) = IsReversalAsked keys bytes reversal

-- the number that it uses
abbrev pub number_of : Authentic → Serial
number_of (authentic.Payment payment) = payment.request.ksn
number_of (authentic.Reversal reversal) = reversal.numbers.ksn

-- what was settled is this
abbrev pub IsOf : Authentic → Settled → Type 0
IsOf (authentic.Payment payment) (settled.Payment purchase settlement) =
    purchase ≡ purchase_of payment.request
IsOf (authentic.Reversal one) (settled.Reversal reversal settlement) = reversal ≡ one
IsOf _ _ = ⊥

-- the code of a request by the issuer
abbrev pub IsItsCode : HsmKeys → Decision → Authentic → Code → Type 0
IsItsCode keys decides (authentic.Payment payment) code =
    IsCodeOf keys decides payment.request code
IsItsCode keys decides (authentic.Reversal reversal) code = Unit {0}

-- for how many more of its kind there is room
abbrev pub room_for : Authentic → ℕ → ℕ → ℕ
room_for (authentic.Payment payment) capacity room = room_for_payments capacity room
room_for (authentic.Reversal reversal) capacity room = room

-- by any entries of which the index is, this is so, and the new index is of these and what is added
abbrev pub ByEntries : (Entries → Type 0) → IndexOf → Entries → IndexOf → Type 0
ByEntries holds old added new = (entries : Entries)
    → IsIndexOf entries old → holds entries × IsIndexOf (entries ++ added) new

-- it is settled so, and its entry is taken into the index
abbrev pub SettlesTo : ℕ → ℕ → (Code → Type 0) → IndexOf → IndexOf → Settled → Type 0
SettlesTo capacity room is_code old new settled =
    ByEntries (λ entries. IsSettledBy entries capacity room is_code settled) old
    (added_by settled) new

-- a purchase is settled so, where there is room for so many
abbrev pub SettlesPurchase : ℕ → Purchase → (Code → Type 0) → IndexOf → IndexOf → Settlement Code
    → Type 0
SettlesPurchase room purchase is_code old new settlement = ByEntries
    (λ entries. IsSettlement entries purchase.number room (IsPurchaseKnown entries purchase)
    is_code settlement) old
    (entry_by (λ code. payment_entry purchase.number purchase.amount code purchase.mac) settlement)
    new

-- a reversal is settled so, where there is room for so many entries
abbrev pub SettlesReversal : ℕ → Reversal → IndexOf → IndexOf → Settlement ReversalState → Type 0
SettlesReversal room reversal old new settlement = ByEntries
    (λ entries. IsSettlement entries reversal.numbers.ksn room (IsReversalKnown entries reversal)
    (FindsState entries reversal.numbers.reversed) settlement) old
    (entry_by (reversal_entry reversal) settlement) new

-- what is kept from now on has room
abbrev pub HasRoomFor : {T : Type 0} → Settlement T → ℕ → Type 0
HasRoomFor (Kept outcome) room = 0 < room
HasRoomFor _ room = Unit {0}
