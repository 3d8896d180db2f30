-- What the host accepts: this project's own.
use Rattle.std.specs.Prelude.{◌≡◌, ℕ, List, AllPairs, Any, Contains}
use Rattle.duk_frame.specs.Answer.{IsReply}
use Rattle.duk_frame.specs.declared.code.Code.{Code}
use Rattle.duk_host.specs.Lifetime.{AcceptsNumber}
use Rattle.duk_journal.specs.Groups.{Entries}
use Rattle.duk_journal.specs.Standing.{UseNewNumbers, payment_entry}
use Rattle.duk_journal_host.specs.Judged.{TellsNumber, TellsReversal}
use Rattle.duk_journal_host.specs.Judgement.{reversal_entry}
use Rattle.duk_reversal.specs.Numbers.{Numbers}
use Rattle.duk_reversal.specs.declared.state.ReversalState.{ReversalState}
use Rattle.duk_tree.specs.Serial.{Serial}
use Rattle.duk_books.specs.Agree.{AreEntriesOf}
use Rattle.duk_books.specs.Books.{BooksOf, Frame, Meanings}
use Rattle.duk_books.specs.declared.outcome.Outcome.{Outcome}
use Rattle.duk_books.specs.declared.outcome.Outcome.TheVariants as outcome

-- a reply with this code to the payment of a number stands among the answers
pub record HasReply (answers : List Frame) (ksn : Serial) (code : Code) : Type 0 where
  pub frame : Frame
  pub mac : List ℕ
  pub sent : Contains answers frame
  pub reply : IsReply frame.items ksn code mac

-- a reply to a reversal with these numbers, which tells this state, stands among them
pub record HasReversalReply (answers : List Frame) (numbers : Numbers) (state : ReversalState)
    : Type 0 where
  pub frame : Frame
  pub sent : Contains answers frame
  pub reply : TellsReversal numbers state frame.items

-- a number was accepted: some reply to its payment stands among the answers
abbrev pub IsAcceptedNumber : List Frame → Serial → Type 0
IsAcceptedNumber answers ksn = (code : Code) × HasReply answers ksn code

-- the outcome is that the host accepts the payment of this number
abbrev pub Accepts : Serial → Outcome → Type 0
Accepts ksn (outcome.Accepted k accepted code) = accepted ≡ ksn
Accepts ksn _ = ⊥

-- two outcomes do not accept one number
abbrev pub AcceptDifferentNumbers : Outcome → Outcome → Type 0
AcceptDifferentNumbers one other = (ksn : Serial) → Accepts ksn one → ¬ Accepts ksn other

-- no number is accepted twice, and none that was accepted before
pub record AcceptedOnce (answers : List Frame) (outcomes : List Outcome) : Type 0 where
  pub once : AllPairs AcceptDifferentNumbers outcomes
  pub afresh : (ksn : Serial) → Any (Accepts ksn) outcomes → ¬ IsAcceptedNumber answers ksn

-- all replies to one number are one frame, byte for byte: those to its payment, or those to the
-- reversal that uses it. No number has both
pub record HaveOneReply (answers : List Frame) : Type 0 where
  pub payment : (ksn : Serial) (one other : Frame) → Contains answers one → Contains answers other
      → AcceptsNumber ksn one.items → AcceptsNumber ksn other.items → one ≡ other
  pub reversal : (ksn : Serial) (one other : Frame) → Contains answers one
      → Contains answers other → TellsNumber ksn one.items → TellsNumber ksn other.items
      → one ≡ other
  pub one_kind : (ksn : Serial) (one other : Frame) → Contains answers one
      → Contains answers other → AcceptsNumber ksn one.items → ¬ TellsNumber ksn other.items

-- a payment of this number is kept, with this code
pub record HasPayment (entries : Entries) (ksn : Serial) (code : Code) : Type 0 where
  pub amount : ℕ
  pub mac : List ℕ
  pub kept : Contains entries (payment_entry ksn amount code mac)

-- a reversal with these numbers is kept, with what it found
pub record HasReversal (entries : Entries) (numbers : Numbers) (state : ReversalState)
    : Type 0 where
  pub mac : List ℕ
  pub kept : Contains entries (reversal_entry (record { numbers = numbers; mac = mac }) state)

-- what was replied to is kept: each payment with the code of its reply, and each reversal with what
-- its reply tells
pub record KeepWhatWasReplied (answers : List Frame) (entries : Entries) : Type 0 where
  pub payments : (ksn : Serial) (code : Code) → HasReply answers ksn code
      → HasPayment entries ksn code
  pub reversals : (numbers : Numbers) (state : ReversalState)
      → HasReversalReply answers numbers state → HasReversal entries numbers state

-- in each list of entries by which the host judges, or which a restart of its journal may find, each
-- entry used a new number, and what was replied to is kept
pub record KeepsAccepted {C B J I : Type 0} (m : Meanings C B J I) (books : BooksOf C B J I)
    : Type 0 where
  pub new_numbers : (entries : Entries) → AreEntriesOf m books entries → UseNewNumbers entries
  pub kept : (entries : Entries) → AreEntriesOf m books entries
      → KeepWhatWasReplied books.answers entries
