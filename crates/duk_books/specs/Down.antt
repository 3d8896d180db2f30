-- An answer reaches a till: this project's own.
use Rattle.std.specs.Prelude.{◌≡◌, ◌⊎◌, ℕ, List, Ok, Err}
use Rattle.duk_frame.specs.Answer.{IsRefusal, IsReply}
use Rattle.duk_reversal.specs.Reply.{IsReversalReply}
use Rattle.duk_reversal.specs.declared.reply.ReversalReply.{ReversalReply}
use Rattle.duk_term.specs.declared.answer.Answer.TheVariants as answer
use Rattle.duk_term.specs.declared.answer.ReversalAnswer.TheVariants as reversal
use Rattle.duk_term.specs.declared.fault.TermFault.TheVariants.{NotPending}
use Rattle.duk_store.specs.Cell.{CellMeaning}
use Rattle.duk_till.specs.Lifetime.{IsCalled, Reply, ReversalReply as ReversalReplyCall}
use Rattle.duk_till.specs.Reply.{TillReplyRefused}
use Rattle.duk_till.specs.Till.{TillOf, approved_in}
use Rattle.duk_till.specs.declared.fault.TillFault.TheVariants as fault
use Rattle.duk_books.specs.Books.{BooksOf, FindsNoTill, Frame, Meanings}
use Rattle.duk_stations.specs.Places.{ChangesOnly, HasNone, HasOne, IsAt}
use Rattle.duk_books.specs.Frames.{IsRefusalFrame, IsReversalReplyFrame}
use Rattle.duk_books.specs.Sales.{TakesSale}
use Rattle.duk_books.specs.declared.outcome.Outcome.{Outcome}
use Rattle.duk_books.specs.declared.outcome.Outcome.TheVariants as came

-- what a till makes of a frame as one that comes back to the request of its open purchase
abbrev pub TakesReply : {C B : Type 0} → CellMeaning C → CellMeaning B → ℕ → Frame → Outcome → TillOf C B
    → TillOf C B → Type 0
TakesReply cell book t frame (came.Done u ksn code) before after =
    (u ≡ t) × ((mac : List ℕ) × IsReply frame.items ksn code mac)
    × IsCalled cell book (Reply frame.items (Ok (answer.Done code))) before after
TakesReply cell book t frame (came.GotRefusal u ksn reason) before after =
    (u ≡ t) × IsRefusal frame.items ksn reason
    × IsCalled cell book (Reply frame.items (Ok (answer.Refused reason))) before after
TakesReply cell book t frame (came.TillFaulted u why) before after =
    (u ≡ t) × IsCalled cell book (Reply frame.items (Err why)) before after
TakesReply cell book t frame _ before after = ⊥

-- what it makes of a frame as one that comes back to the reversal of its open purchase
abbrev pub TakesReversalReply : {C B : Type 0} → CellMeaning C → CellMeaning B → ℕ → Frame → Outcome
    → TillOf C B → TillOf C B → Type 0
TakesReversalReply cell book t frame (came.Undone u ksn state) before after =
    (u ≡ t)
    × ((reply : ReversalReply) × IsReversalReply frame.items reply × (reply.numbers.reversed ≡ ksn))
    × IsCalled cell book (ReversalReplyCall frame.items (Ok (reversal.Done state))) before after
TakesReversalReply cell book t frame (came.GotRefusal u ksn reason) before after =
    (u ≡ t) × IsRefusal frame.items ksn reason
    × IsCalled cell book (ReversalReplyCall frame.items (Ok (reversal.Refused reason))) before after
TakesReversalReply cell book t frame (came.TillFaulted u why) before after =
    (u ≡ t) × IsCalled cell book (ReversalReplyCall frame.items (Err why)) before after
TakesReversalReply cell book t frame _ before after = ⊥

-- the frame is no reply to a reversal, and comes back to the request; unless it is a refusal, and
-- the till waits for nothing that comes back to that
pub record ComesToRequest
    {C B : Type 0} (cell : CellMeaning C) (book : CellMeaning B) (t : ℕ) (frame : Frame)
    (outcome : Outcome) (before after : TillOf C B) : Type 0 where
  pub no_reversal : ¬ IsReversalReplyFrame frame
  pub takes : TakesReply cell book t frame outcome before after
  pub waits : outcome ≡ came.TillFaulted t (fault.Terminal NotPending) → ¬ IsRefusalFrame frame

-- the frame is a refusal, and the till waits for nothing that comes back to the request
pub record IsOfReversal
    {C B : Type 0} (book : CellMeaning B) (frame : Frame) (before : TillOf C B) : Type 0 where
  pub refusal : IsRefusalFrame frame
  pub not_pending : TillReplyRefused
      book frame.items before before (fault.Terminal NotPending)

-- what a till makes of a frame: a reply to a reversal comes back to the reversal of its open
-- purchase, and so does a refusal where it waits for nothing that comes back to the request
abbrev pub TakesAnswer : {C B : Type 0} → CellMeaning C → CellMeaning B → ℕ → Frame → Outcome → TillOf C B
    → TillOf C B → Type 0
TakesAnswer cell book t frame outcome before after =
    ComesToRequest cell book t frame outcome before after
    ⊎ ((IsReversalReplyFrame frame ⊎ IsOfReversal book frame before)
    × TakesReversalReply cell book t frame outcome before after)

-- the answer of this number reaches the till, and what this then has as approved is entered into
-- the merchants' book
pub record IsDelivered
    {C B J I : Type 0} (m : Meanings C B J I) (old : BooksOf C B J I) (k t : ℕ)
    (outcome : Outcome) (new : BooksOf C B J I) : Type 0 where
  pub frame : Frame
  pub sent : IsAt old.answers k frame
  pub till : ChangesOnly t (TakesAnswer m.cell m.book t frame outcome) old.tills new.tills
  pub sales : TakesSale old.sales t (approved_in till.after.state) new.sales
  pub rest : new ≡ record old { tills = new.tills; sales = new.sales }

-- no answer of this number was sent
pub record FindsNoAnswer
    {C B J I : Type 0} (old : BooksOf C B J I) (k t : ℕ) (outcome : Outcome)
    (new : BooksOf C B J I) : Type 0 where
  pub there : HasOne old.tills t
  pub none : HasNone old.answers k
  pub outcome_is : outcome ≡ came.NoSuchFrame
  pub same : new ≡ old

-- what comes of an answer that is to reach a till
abbrev pub ReachesTill : {C B J I : Type 0} → Meanings C B J I → BooksOf C B J I → ℕ → ℕ → Outcome
    → BooksOf C B J I → Type 0
ReachesTill m old k t outcome new =
    FindsNoTill old t outcome new
    ⊎ (FindsNoAnswer old k t outcome new ⊎ IsDelivered m old k t outcome new)
