-- How a till that was brought up reverses its open purchase, and takes the host's reply.
use Rattle.std.proofs.Common.{◌≡◌, ℕ, true, List, Option, Some, inl, inr, sym, ap, subst, ◌∙◌}
use Rattle.duk_frame.specs.Answer.{IsAnswer}
use Rattle.duk_frame.specs.declared.answer.AnswerFrame.{AnswerFrame}
use Rattle.duk_frame.specs.declared.answer.AnswerFrame.TheVariants.{Refusal}
use Rattle.duk_reversal.specs.Answer.{IsReversalAnswer}
use Rattle.duk_reversal.specs.Authentic.{reversal_reply_of, reversal_reply_under}
use Rattle.duk_reversal.specs.Numbers.{AreNumbers, Numbers}
use Rattle.duk_reversal.specs.Reply.{IsReversalReply}
use Rattle.duk_reversal.specs.declared.answer.ReversalAnswerFrame.{ReversalAnswerFrame}
use Rattle.duk_reversal.specs.declared.answer.ReversalAnswerFrame.TheVariants as answer_frame
use Rattle.duk_reversal.specs.declared.reply.ReversalReply.{ReversalReply}
use Rattle.duk_reversal.specs.declared.state.ReversalState.{ReversalState}
use Rattle.duk_regs.specs.Registers.{RegisterSet}
use Rattle.duk_store.specs.declared.fault.StoreFault.{StoreFault}
use Rattle.duk_store.specs.declared.fault.StoreFault.TheVariants as store_fault
use Rattle.duk_term.specs.Body.{body_bytes}
use Rattle.duk_term.specs.Reversal.{IsOfOther, ReversalRefused, ReversalReplyRefused, numbers_in, reversal_reply_to}
use Rattle.duk_term.specs.Terminal.{TerminalOf}
use Rattle.duk_term.specs.declared.fault.TermFault.{TermFault}
use Rattle.duk_term.specs.declared.fault.TermFault.TheVariants as term_fault
use Rattle.duk_term.specs.declared.state.Pending.{Pending}
use Rattle.duk_term.specs.declared.state.State.{State}
use Rattle.duk_term.specs.declared.state.State.TheVariants.{Loaded, Stopped}
use Rattle.duk_till.specs.Image.{last_bytes}
use Rattle.duk_till.specs.Reversal.{TillReversalReplyRefused, TillReverseRefused}
use Rattle.duk_till.specs.Till.{IsOpen, TillOf}
use Rattle.duk_till.specs.declared.fault.TillFault.{TillFault}
use Rattle.duk_till.specs.declared.fault.TillFault.TheVariants as fault
use Rattle.duk_till.specs.declared.last.Last.TheVariants.{Open, Undone}
use Rattle.duk_till.specs.declared.state.TillState.TheVariants.{Running}
use Rattle.duk_tree.specs.Serial.{Serial}
use Rattle.duk_books.specs.Books.{BooksOf, Frame, Meanings}
use Rattle.duk_stations.specs.Places.{IsAt}
use Rattle.duk_books.specs.Calm.{IsBookFault, IsTerminalFault, ReportsFault}
use Rattle.duk_books.specs.Completed.{MayBeOpen}
use Rattle.duk_books.specs.Down.{ReachesTill, TakesAnswer, TakesReversalReply}
use Rattle.duk_books.specs.Reverse.{IsReversalSent, Reverses}
use Rattle.duk_books.specs.WayOut.{IsUndoneAt}
use Rattle.duk_books.specs.declared.event.End.TheVariants as ends
use Rattle.duk_books.specs.declared.outcome.Outcome.{Outcome}
use Rattle.duk_books.specs.declared.outcome.Outcome.TheVariants as came
use Rattle.duk_books.proofs.agreement.QuietCalls.{not_open_at_rest}
use Rattle.duk_books.proofs.agreement.TellingCalls.{same_open}
use Rattle.duk_stations.proofs.Terminals.{StateHas}
use Rattle.duk_books.proofs.agreement.Tills.{same_last, stopped_is_not_running}
use Rattle.duk_stations.proofs.PlacesInLists.{not_missing}
use Rattle.duk_books.proofs.way_out.OpenIsUsed.{UsedBy, UsesOpen}
use Rattle.duk_books.proofs.way_out.Ups.{HasNumber, now_at, one_at, one_there, put_fails}

-- a till in this state has one purchase open
pub one_open : {C B : Type 0} (till : TillOf C B) (ksn other : Serial) (amount more : ℕ) → IsOpen till.state ksn amount → IsOpen till.state other more → other ≡ ksn
one_open till ksn other amount more is also = (same_open other ksn more amount (same_last till.state (Some (Open other more)) (Some (Open ksn amount)) also is)).0

-- ---- a reversal goes out

-- neither is reported of the terminal's cell: that a device step failed, nor that it is worn
pub record IsSpared (reports : StoreFault → Type 0) : Type 0 where
  pub device : ¬ reports store_fault.Device
  pub worn : ¬ reports store_fault.Worn

-- a till sends a reversal
pub record SendsReversal {C B J I : Type 0} (m : Meanings C B J I) (old : BooksOf C B J I) (t : ℕ) (new : BooksOf C B J I) : Type 0 where
  pub k : ℕ
  pub number_used : Serial
  pub reversed : Serial
  pub sent : IsReversalSent m old t k number_used reversed new

module _ {C B J I : Type 0} (m : Meanings C B J I) (till : TillOf C B) (ksn : Serial) (amount : ℕ) (is_open : IsOpen till.state ksn amount) (uses : UsesOpen m till) (number : HasNumber till.terminal.state)
    (cell_runs : (m.cell.state_of till.terminal.cell).running ≡ true) where
  -- what is open has used its number
  used : StateHas (UsedBy (MayBeOpen m till)) till.terminal.state
  used = uses.state

  terminal_refuses : (after : TerminalOf C) (why : TermFault) → IsSpared (IsTerminalFault (fault.Terminal why)) → ReversalRefused m.cell ksn till.terminal after why → ⊥
  terminal_refuses after term_fault.Stopped spared is = subst HasNumber is.0 number
  terminal_refuses after term_fault.NotLoaded spared is = (subst (StateHas (UsedBy (MayBeOpen m till))) is.0 used) ksn (inl (amount, is_open))
  terminal_refuses after term_fault.Spent spared is = (subst HasNumber is.0.2 number) is.0.3
  terminal_refuses after term_fault.NotMine spared is = is.0.unused ((subst (StateHas (UsedBy (MayBeOpen m till))) is.0.had used) ksn (inl (amount, is_open)))
  terminal_refuses after (term_fault.Store why) spared is = elim (put_fails m.cell till.terminal.cell after.cell (body_bytes is.stopped.left) why cell_runs is.stopped.stops.not_kept) [
    | inl device ↦ spared.device device
    | inr worn ↦ spared.worn worn
  ]
  terminal_refuses after _ spared is = is

  till_refuses : (after : TillOf C B) (why : TillFault) → IsSpared (IsTerminalFault why) → TillReverseRefused m.cell till after why → ⊥
  till_refuses after fault.Stopped spared is = stopped_is_not_running till.state (Some (Open ksn amount)) is.0 is_open
  till_refuses after fault.NothingOpen spared is = not_open_at_rest till.state ksn amount is.0 is_open
  till_refuses after (fault.Terminal why) spared is =
      terminal_refuses after.terminal why spared
      (subst (λ (it : Serial). ReversalRefused m.cell it till.terminal after.terminal why) (one_open till ksn is.0.0 amount is.0.1 is_open is.0.2) is.0.3)
  till_refuses after _ spared is = is

  pub sends : (old new : BooksOf C B J I) (t : ℕ) → IsAt old.tills t till → (outcome : Outcome) → Reverses m old t outcome new → IsSpared (ReportsFault outcome (ends.Terminal t)) → SendsReversal m old t new
  sends old new t at came.NoSuchTill is spared = absurd (not_missing old.tills t (one_there old.tills t till at) is.0)
  sends old new t at (came.Reversing u k number_used reversed) is spared = record { k = k; number_used = number_used; reversed = reversed; sent = is.1 }
  sends old new t at (came.TillFaulted u why) is spared =
      let change = is.1.till in
      let same : change.before ≡ till = one_at old.tills t change.before till (record { place = change.place; number_is = change.number_is; thing_is = change.was }) at in
      absurd (till_refuses change.after why (record { device = λ reports. spared.device (is.0, reports); worn = λ reports. spared.worn (is.0, reports) })
      (subst (λ (it : TillOf C B). TillReverseRefused m.cell it change.after why) same change.changed))
  sends old new t at _ is spared = absurd is

-- ---- the reply is taken

-- how answers to reversals are read
pub record ReplyReading : Type 0 where
  pub one_reply : (bytes : List ℕ) (one other : ReversalReply) → IsReversalReply bytes one → IsReversalReply bytes other → one ≡ other
  pub apart : (bytes : List ℕ) (answer : AnswerFrame) (reply : ReversalReply) → IsAnswer bytes answer → ¬ IsReversalReply bytes reply
  pub told : (response_key : List ℕ) (numbers : Numbers) (state : ReversalState) → AreNumbers numbers → IsReversalReply (reversal_reply_under response_key numbers state) (reversal_reply_of response_key numbers state)

pub stopped_not_loaded : (state : State) (set : RegisterSet) (pending : Option Pending) → state ≡ Loaded set pending → state ≡ Stopped → ⊥
stopped_not_loaded state set pending is stopped = cc

pub same_pending : (state : State) (set other : RegisterSet) (one also : Pending) → state ≡ Loaded set (Some one) → state ≡ Loaded other (Some also) → also ≡ one
same_pending state set other one also is loaded = cc

module _ {C B J I : Type 0} (m : Meanings C B J I) (laws : ReplyReading) (till : TillOf C B) (ksn : Serial) (amount : ℕ) (is_open : IsOpen till.state ksn amount) (set : RegisterSet) (pending : Pending)
    (waits : till.terminal.state ≡ Loaded set (Some pending)) (book_runs : (m.book.state_of till.book).running ≡ true)
    (frame : Frame) (told : ReversalState) (numbers_are : AreNumbers (numbers_in pending ksn)) (frame_is : frame.items ≡ reversal_reply_to pending ksn told) where
  abbrev reply : ReversalReply
  reply = reversal_reply_of pending.response_key (numbers_in pending ksn) told

  is_reply : IsReversalReply frame.items reply
  is_reply = subst (λ bytes. IsReversalReply bytes reply) (sym frame_is) (laws.told pending.response_key (numbers_in pending ksn) told numbers_are)

  other_answer : (answer : ReversalAnswerFrame) → IsReversalAnswer frame.items answer → IsOfOther pending ksn answer → ⊥
  other_answer (answer_frame.Reply it) is other =
      let same = laws.one_reply frame.items it reply is is_reply in
      other (record { ksn_is = ap (λ (at : ReversalReply). at.numbers.ksn) same; reversed_is = ap (λ (at : ReversalReply). at.numbers.reversed) same })
  other_answer (answer_frame.Refusal number why) is other = laws.apart frame.items (Refusal number why) reply is is_reply

  terminal_reply_refuses : (why : TermFault) → ReversalReplyRefused till.terminal.state ksn frame.items why → ⊥
  terminal_reply_refuses term_fault.Stopped is = stopped_not_loaded till.terminal.state set (Some pending) waits is
  terminal_reply_refuses term_fault.Malformed is = is.1 (answer_frame.Reply reply) is_reply
  terminal_reply_refuses term_fault.NotPending is = is.2 pending (set, waits)
  terminal_reply_refuses term_fault.NotMine is =
      other_answer is.0 is.2 (subst (λ (it : Pending). IsOfOther it ksn is.0) (same_pending till.terminal.state set is.3.0 pending is.1 waits is.3.1) is.4)
  terminal_reply_refuses term_fault.BadMac is =
      let bad = is.2 in
      let same : is.0 ≡ pending = same_pending till.terminal.state set is.1.0 pending is.0 waits is.1.1 in
      let read : bad.reply ≡ reply = laws.one_reply frame.items bad.reply reply bad.is_reply is_reply in
      bad.other (frame_is ∙ ap (λ (it : Pending). reversal_reply_to it ksn told) (sym same) ∙ ap (λ (it : ReversalReply). reversal_reply_to is.0 ksn it.state) (sym read))
  terminal_reply_refuses _ is = is

  till_reply_refuses : (after : TillOf C B) (why : TillFault) → IsSpared (IsBookFault why) → TillReversalReplyRefused m.book frame.items till after why → ⊥
  till_reply_refuses after fault.Stopped spared is = stopped_is_not_running till.state (Some (Open ksn amount)) is.0 is_open
  till_reply_refuses after fault.Open spared is = is
  till_reply_refuses after fault.NothingOpen spared is = not_open_at_rest till.state ksn amount is.0 is_open
  till_reply_refuses after (fault.Terminal why) spared is =
      terminal_reply_refuses why (subst (λ (it : Serial). ReversalReplyRefused till.terminal.state it frame.items why) (one_open till ksn is.0.0 amount is.0.1 is_open is.0.2) is.0.3)
  till_reply_refuses after (fault.Store why) spared is = elim (put_fails m.book till.book after.book (last_bytes (Undone is.reversed)) why book_runs is.not_kept.not_kept) [
    | inl device ↦ spared.device device
    | inr worn ↦ spared.worn worn
  ]

  takes : (after : TillOf C B) (t : ℕ) (outcome : Outcome) → IsSpared (ReportsFault outcome (ends.Book t)) → TakesReversalReply m.cell m.book t frame outcome till after → after.state ≡ Running (Some (Undone ksn))
  takes after t (came.Undone u number state) spared is =
      let kept = is.2 in
      kept.state_is ∙ ap (λ (it : Serial). Running (Some (Undone it))) (one_open till ksn kept.reversed amount kept.amount is_open kept.was_open)
  takes after t (came.GotRefusal u number why) spared is = absurd (laws.apart frame.items (Refusal number why) reply is.1 is_reply)
  takes after t (came.TillFaulted u why) spared is =
      absurd (till_reply_refuses after why (record { device = λ reports. spared.device (is.0, reports); worn = λ reports. spared.worn (is.0, reports) }) is.1)
  takes after t _ spared is = absurd is

  takes_answer : (after : TillOf C B) (t : ℕ) (outcome : Outcome) → IsSpared (ReportsFault outcome (ends.Book t)) → TakesAnswer m.cell m.book t frame outcome till after → after.state ≡ Running (Some (Undone ksn))
  takes_answer after t outcome spared (inl request) = absurd (request.no_reversal (reply, is_reply))
  takes_answer after t outcome spared (inr reversal) = takes after t outcome spared reversal.1

  -- its purchase is undone
  pub undoes : (old new : BooksOf C B J I) (n t : ℕ) → IsAt old.tills t till → IsAt old.answers n frame → (outcome : Outcome) → ReachesTill m old n t outcome new → IsSpared (ReportsFault outcome (ends.Book t)) → IsUndoneAt new.tills t ksn
  undoes old new n t at sent outcome step spared = elim step [
    | inl none ↦ absurd (not_missing old.tills t (one_there old.tills t till at) none.none)
    | inr there ↦ elim there [
      | inl missing ↦ absurd (not_missing old.answers n (one_there old.answers n frame sent) missing.none)
      | inr is ↦
          let change = is.till in
          let same_frame : is.frame ≡ frame = one_at old.answers n is.frame frame is.sent sent in
          let same : change.before ≡ till = one_at old.tills t change.before till (record { place = change.place; number_is = change.number_is; thing_is = change.was }) at in
          record {
            till = change.after;
            at = now_at t _ old.tills new.tills change;
            state_is = takes_answer change.after t outcome spared
                (subst (λ (it : TillOf C B). TakesAnswer m.cell m.book t frame outcome it change.after) same
                (subst (λ (it : Frame). TakesAnswer m.cell m.book t it outcome change.before change.after) same_frame change.changed));
          }
    ]
  ]
