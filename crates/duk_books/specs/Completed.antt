-- How purchases end: this project's own.
use Rattle.std.specs.Prelude.{◌≡◌, ◌⊎◌, ◌++◌, ◌∷◌, ℕ, List, Some, AllPairs, Any, Contains}
use Rattle.duk_frame.specs.declared.code.Code.{Code}
use Rattle.duk_frame.specs.declared.code.Code.TheVariants as code
use Rattle.duk_reversal.specs.Numbers.{Numbers}
use Rattle.duk_reversal.specs.Reversal.{IsReversal}
use Rattle.duk_reversal.specs.declared.reversal.Reversal as reversal_frame
use Rattle.duk_reversal.specs.declared.state.ReversalState.{ReversalState}
use Rattle.duk_store.specs.Cell.{CellMeaning}
use Rattle.duk_term.specs.Reply.{IsPending}
use Rattle.duk_term.specs.declared.state.Pending.{Pending}
use Rattle.duk_till.specs.Image.{IsLastBody}
use Rattle.duk_till.specs.Till.{IsOpen, TillOf}
use Rattle.duk_till.specs.declared.last.Last.{Last}
use Rattle.duk_till.specs.declared.last.Last.TheVariants.{Open, Approved, Declined, Undone}
use Rattle.duk_till.specs.declared.state.TillState.TheVariants.{Running}
use Rattle.duk_tree.specs.Serial.{Serial}
use Rattle.duk_books.specs.AcceptedOnce.{HasReply, HasReversalReply}
use Rattle.duk_books.specs.Books.{BooksOf, Frame, Meanings}
use Rattle.duk_stations.specs.Places.{IsAt}
use Rattle.duk_books.specs.Numbers.{HasRequestNumber}
use Rattle.duk_books.specs.Run.{Run}
use Rattle.duk_books.specs.Step.{Step}
use Rattle.duk_books.specs.declared.event.Event.{Event}
use Rattle.duk_books.specs.declared.outcome.Outcome.{Outcome}
use Rattle.duk_books.specs.declared.outcome.Outcome.TheVariants as outcome

-- ---- the host's reply came first

-- the till of this number has the purchase of a key serial number open, and its terminal waits for
-- the reply to this one: to the request where they are equal, and else to a reversal
pub record IsWaitingAt
    {C B : Type 0} (tills : List (TillOf C B)) (t : ℕ) (ksn number : Serial) : Type 0 where
  pub till : TillOf C B
  pub amount : ℕ
  pub pending : Pending
  pub at : IsAt tills t till
  pub is_open : IsOpen till.state ksn amount
  pub waits : IsPending till.terminal.state pending
  pub number_is : pending.ksn ≡ number

-- it waits for the reply to its open purchase, and one with this code stands among the answers
pub record HasItsReply
    {C B J I : Type 0} (books : BooksOf C B J I) (t : ℕ) (ksn : Serial) (code : Code)
    : Type 0 where
  pub waits : IsWaitingAt books.tills t ksn ksn
  pub replied : HasReply books.answers ksn code

-- the numbers of a reversal that uses the first of these, and reverses the second
abbrev pub reversal_of : Serial → Serial → Numbers
reversal_of number ksn = record { ksn = number; reversed = ksn }

-- it waits for the reply to a reversal of its open purchase, and one that tells this state stands
-- among the answers
pub record HasItsReversalReply
    {C B J I : Type 0} (books : BooksOf C B J I) (t : ℕ) (ksn : Serial) (state : ReversalState)
    : Type 0 where
  pub number : Serial
  pub waits : IsWaitingAt books.tills t ksn number
  pub replied : HasReversalReply books.answers (reversal_of number ksn) state

-- the outcome is that the host accepts this number with this code
abbrev pub AcceptsWith : Serial → Code → Outcome → Type 0
AcceptsWith ksn code (outcome.Accepted k accepted with) = (accepted ≡ ksn) × (with ≡ code)
AcceptsWith ksn code _ = ⊥

-- the outcome is that the host replies to a reversal with these numbers, and tells this state
abbrev pub RepliesWith : Numbers → ReversalState → Outcome → Type 0
RepliesWith numbers state (outcome.Reversed k ksn reversed told) =
    (record { ksn = ksn; reversed = reversed } ≡ numbers) × (told ≡ state)
RepliesWith numbers state _ = ⊥

-- the host's acceptance put a reply with this code among the answers: that reply stood there before
-- these outcomes, or the acceptance is one of them
abbrev pub WasRepliedOrAccepted : List Frame → List Outcome → Serial → Code → Type 0
WasRepliedOrAccepted answers outcomes ksn code =
    HasReply answers ksn code ⊎ Any (AcceptsWith ksn code) outcomes

-- the host put a reply to a reversal with these numbers among the answers, before these outcomes or
-- in them
abbrev pub WasRepliedOrReversed : List Frame → List Outcome → Numbers → ReversalState → Type 0
WasRepliedOrReversed answers outcomes numbers state =
    HasReversalReply answers numbers state ⊎ Any (RepliesWith numbers state) outcomes

-- a till is done with a code: just before, its open purchase had this number, its terminal waited
-- for the reply to it, and the reply with this code stood among the answers; and the host's
-- acceptance had put it there
pub record IsDoneByHost
    {C B J I : Type 0} (m : Meanings C B J I) (old : BooksOf C B J I) (earlier : List Outcome)
    (t : ℕ) (ksn : Serial) (code : Code) : Type 0 where
  pub just_before : (events : List Event) (event : Event) (before after : BooksOf C B J I)
      → Run m old events earlier before → Step m before event (outcome.Done t ksn code) after
      → HasItsReply before t ksn code
  pub accepted : WasRepliedOrAccepted old.answers earlier ksn code

-- a purchase is undone: just before, it was open, its till's terminal waited for the reply to a
-- reversal of it, and the reply to that one, which tells this, stood among the answers; and the host
-- had put it there
pub record IsUndoneByHost
    {C B J I : Type 0} (m : Meanings C B J I) (old : BooksOf C B J I) (earlier : List Outcome)
    (t : ℕ) (ksn : Serial) (state : ReversalState) : Type 0 where
  pub just_before : (events : List Event) (event : Event) (before after : BooksOf C B J I)
      → Run m old events earlier before → Step m before event (outcome.Undone t ksn state) after
      → (has : HasItsReversalReply before t ksn state)
      × WasRepliedOrReversed old.answers earlier (reversal_of has.number ksn) state

-- so it is of each purchase that is complete in a call
abbrev pub AreDoneByHost : {C B J I : Type 0} → Meanings C B J I → BooksOf C B J I → List Outcome
    → Type 0
AreDoneByHost m old outcomes =
    (earlier later : List Outcome) (t : ℕ) (ksn : Serial) (code : Code)
    → outcomes ≡ earlier ++ outcome.Done t ksn code ∷ later
    → IsDoneByHost m old earlier t ksn code

-- and of each that is undone in it
abbrev pub AreUndoneByHost : {C B J I : Type 0} → Meanings C B J I → BooksOf C B J I
    → List Outcome → Type 0
AreUndoneByHost m old outcomes =
    (earlier later : List Outcome) (t : ℕ) (ksn : Serial) (state : ReversalState)
    → outcomes ≡ earlier ++ outcome.Undone t ksn state ∷ later
    → IsUndoneByHost m old earlier t ksn state

-- ---- each purchase ends once

-- the outcome is that the purchase of this number is complete or undone
abbrev pub Ends : Serial → Outcome → Type 0
Ends ksn (outcome.Done t done code) = done ≡ ksn
Ends ksn (outcome.Undone t undone state) = undone ≡ ksn
Ends ksn _ = ⊥

-- two outcomes do not end one purchase
abbrev pub EndDifferentPurchases : Outcome → Outcome → Type 0
EndDifferentPurchases one other = (ksn : Serial) → Ends ksn one → ¬ Ends ksn other

-- a restart of a book may find the purchase of this number open
pub record MayFindOpen {B : Type 0} (book : CellMeaning B) (at : B) (ksn : Serial) : Type 0 where
  pub amount : ℕ
  pub body : List ℕ
  pub is_body : IsLastBody body (Open ksn amount)
  pub found : (book.state_of at).found (Some body)

-- the purchase of this number is open at a till, or may be once that is restarted
abbrev pub MayBeOpen : {C B J I : Type 0} → Meanings C B J I → TillOf C B → Serial → Type 0
MayBeOpen m till ksn =
    ((amount : ℕ) × IsOpen till.state ksn amount) ⊎ MayFindOpen m.book till.book ksn

-- so it is at none of these
abbrev pub IsOpenNowhere : {C B J I : Type 0} → Meanings C B J I → List (TillOf C B) → Serial
    → Type 0
IsOpenNowhere {C} {B} m tills ksn =
    (t : ℕ) (till : TillOf C B) → IsAt tills t till → ¬ MayBeOpen m till ksn

-- a request of this number was sent
pub record IsRequested (requests : List Frame) (ksn : Serial) : Type 0 where
  pub frame : Frame
  pub sent : Contains requests frame
  pub number : HasRequestNumber frame ksn

-- a reversal of this number was sent
pub record IsReversed (requests : List Frame) (ksn : Serial) : Type 0 where
  pub frame : Frame
  pub reversal : reversal_frame.Reversal
  pub sent : Contains requests frame
  pub is_reversal : IsReversal frame.items reversal
  pub reversed_is : reversal.numbers.reversed ≡ ksn

-- a purchase is over: its request was sent, or a reversal of it, and it is open nowhere
pub record IsOver {C B J I : Type 0} (m : Meanings C B J I) (books : BooksOf C B J I) (ksn : Serial)
    : Type 0 where
  pub sent : IsRequested books.requests ksn ⊎ IsReversed books.requests ksn
  pub nowhere : IsOpenNowhere m books.tills ksn

-- how the purchases of a call end: by the host's reply, and each once. Those that ended are over at
-- the end of the call; what is over stays so, and does not end again
pub record CompletedByHost
    {C B J I : Type 0} (m : Meanings C B J I) (old new : BooksOf C B J I)
    (outcomes : List Outcome) : Type 0 where
  pub done : AreDoneByHost m old outcomes
  pub undone : AreUndoneByHost m old outcomes
  pub once : AllPairs EndDifferentPurchases outcomes
  pub over : (ksn : Serial) → Any (Ends ksn) outcomes → IsOver m new ksn
  pub stays_over : (ksn : Serial) → IsOver m old ksn → IsOver m new ksn
  pub not_again : (ksn : Serial) → IsOver m old ksn → ¬ Any (Ends ksn) outcomes

-- ---- what a till knows of its last purchase

-- what is known of a last purchase is the host's reply, which stands among the answers: that to the
-- purchase, with this code, or one to a reversal of it. Of an open one nothing is known
abbrev pub IsFromHost : List Frame → Last → Type 0
IsFromHost answers (Open ksn amount) = Unit {0}
IsFromHost answers (Approved ksn amount) = HasReply answers ksn code.Approved
IsFromHost answers (Declined ksn why) = HasReply answers ksn why
IsFromHost answers (Undone ksn) =
    (number : Serial) × (state : ReversalState)
    × HasReversalReply answers (reversal_of number ksn) state

-- so it is of what each till tells of its last purchase, and of what it may tell after a restart
pub record KnowFromHost {C B J I : Type 0} (m : Meanings C B J I) (books : BooksOf C B J I)
    : Type 0 where
  pub runs : (t : ℕ) (till : TillOf C B) (last : Last) → IsAt books.tills t till
      → till.state ≡ Running (Some last) → IsFromHost books.answers last
  pub found : (t : ℕ) (till : TillOf C B) (last : Last) (body : List ℕ) → IsAt books.tills t till
      → (m.book.state_of till.book).found (Some body) → IsLastBody body last
      → IsFromHost books.answers last
