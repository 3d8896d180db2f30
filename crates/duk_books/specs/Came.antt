-- That what the host keeps was asked for by tills: this project's own.
use Rattle.std.specs.Prelude.{◌≡◌, ℕ, List, Contains}
use Rattle.duk_frame.specs.Request.{IsRequest}
use Rattle.duk_frame.specs.declared.request.Request.{Request}
use Rattle.duk_journal.specs.Entry.{reversed_by}
use Rattle.duk_journal.specs.Groups.{Entries}
use Rattle.duk_journal.specs.declared.entry.Decided.{Decided}
use Rattle.duk_journal.specs.declared.entry.Decided.TheVariants.{Payment, Reversal}
use Rattle.duk_journal.specs.declared.entry.Entry.{Entry}
use Rattle.duk_reversal.specs.Reversal.{IsReversal}
use Rattle.duk_reversal.specs.declared.reversal.Reversal as reversal_frame
use Rattle.duk_tree.specs.Serial.{Serial}
use Rattle.duk_books.specs.Agree.{AreEntriesOf}
use Rattle.duk_books.specs.Books.{BooksOf, Frame, Meanings}

-- a request was sent, under this number and for this amount
pub record IsAsked (requests : List Frame) (ksn : Serial) (amount : ℕ) : Type 0 where
  pub frame : Frame
  pub request : Request
  pub sent : Contains requests frame
  pub is_request : IsRequest frame.items request
  pub ksn_is : request.ksn ≡ ksn
  pub amount_is : request.amount ≡ amount

-- a reversal was sent, under this number and of that one
pub record IsReversedBy (requests : List Frame) (ksn reversed : Serial) : Type 0 where
  pub frame : Frame
  pub reversal : reversal_frame.Reversal
  pub sent : Contains requests frame
  pub is_reversal : IsReversal frame.items reversal
  pub ksn_is : reversal.numbers.ksn ≡ ksn
  pub reversed_is : reversal.numbers.reversed ≡ reversed

-- what was decided of a number was asked for, by a request or a reversal that was sent
abbrev pub IsAskedFor : List Frame → Serial → Decided → Type 0
IsAskedFor requests number (Payment amount code) = IsAsked requests number amount
IsAskedFor requests number (Reversal counter state) =
    IsReversedBy requests number (reversed_by number counter)

-- so it is of each of these entries
abbrev pub AreAskedFor : List Frame → Entries → Type 0
AreAskedFor requests entries =
    (entry : Entry) → Contains entries entry → IsAskedFor requests entry.number entry.decided

-- so it is of each entry of the host
abbrev pub KeepsWhatWasSent : {C B J I : Type 0} → Meanings C B J I → BooksOf C B J I → Type 0
KeepsWhatWasSent m books =
    (entries : Entries) → AreEntriesOf m books entries → AreAskedFor books.requests entries
