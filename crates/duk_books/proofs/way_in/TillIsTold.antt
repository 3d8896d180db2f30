-- How a till takes the host's reply to its open purchase.
use Rattle.std.proofs.Common.{◌≡◌, ◌≢◌, ℕ, suc, zero, true, List, [], ◌∷◌, Some, inl, inr, refl, sym, ap, subst, ◌∙◌, arith}
use Rattle.std.specs.List.{slice_get, slice_set}
use Rattle.duk_frame.specs.Answer.{IsReply}
use Rattle.duk_frame.specs.declared.answer.AnswerFrame.{AnswerFrame}
use Rattle.duk_frame.specs.declared.answer.AnswerFrame.TheVariants.{Refusal, Reply}
use Rattle.duk_frame.specs.declared.code.Code.{Code}
use Rattle.duk_regs.specs.Registers.{RegisterSet}
use Rattle.duk_term.specs.Reply.{ReplyRefused, ksn_in, reply_to}
use Rattle.duk_term.specs.declared.fault.TermFault.{TermFault}
use Rattle.duk_term.specs.declared.fault.TermFault.TheVariants as term_fault
use Rattle.duk_term.specs.declared.state.Pending.{Pending}
use Rattle.duk_term.specs.declared.state.State.TheVariants.{Loaded}
use Rattle.duk_till.specs.Image.{last_bytes}
use Rattle.duk_till.specs.Last.{outcome_of}
use Rattle.duk_till.specs.Reply.{TillReplyRefused}
use Rattle.duk_till.specs.Till.{IsOpen, TillOf, approved_in}
use Rattle.duk_till.specs.declared.fault.TillFault.{TillFault}
use Rattle.duk_till.specs.declared.fault.TillFault.TheVariants as fault
use Rattle.duk_till.specs.declared.last.Last.TheVariants.{Open}
use Rattle.duk_till.specs.declared.state.TillState.TheVariants.{Running}
use Rattle.duk_tree.specs.Serial.{Serial}
use Rattle.duk_books.specs.Books.{BooksOf, Frame, Meanings}
use Rattle.duk_stations.specs.Places.{ChangesOnly, IsAt}
use Rattle.duk_books.specs.Calm.{IsBookFault, ReportsFault}
use Rattle.duk_books.specs.Down.{ReachesTill, TakesAnswer, TakesReply}
use Rattle.duk_books.specs.Sales.{TakesSale}
use Rattle.duk_books.specs.WayIn.{OthersStay}
use Rattle.duk_books.specs.declared.event.End.TheVariants as ends
use Rattle.duk_books.specs.declared.outcome.Outcome.{Outcome}
use Rattle.duk_books.specs.declared.outcome.Outcome.TheVariants as came
use Rattle.duk_books.proofs.accepted.RepliedBefore.{AnswerLaws, no_refusal, same_code, same_ksn}
use Rattle.duk_books.proofs.agreement.QuietCalls.{not_open_at_rest}
use Rattle.duk_books.proofs.agreement.TellingCalls.{same_open}
use Rattle.duk_books.proofs.agreement.Tills.{same_last, stopped_is_not_running}
use Rattle.duk_stations.proofs.PlacesInLists.{not_missing}
use Rattle.duk_books.proofs.way_out.TillReverses.{IsSpared, one_open, same_pending, stopped_not_loaded}
use Rattle.duk_books.proofs.way_out.Ups.{now_at, one_at, one_there, put_fails}

-- ---- other tills

set_other : {A : Type 0} (things : List A) (place other : ℕ) (after thing : A) → other ≢ place → slice_get things other ≡ Some thing → slice_get (slice_set things place after) other ≡ Some thing
set_other [] place other after thing apart is = is
set_other (first ∷ things) zero zero after thing apart is = absurd (apart refl)
set_other (first ∷ things) zero (suc other) after thing apart is = is
set_other (first ∷ things) (suc place) zero after thing apart is = is
set_other (first ∷ things) (suc place) (suc other) after thing apart is = set_other things place other after thing (λ same. apart (ap suc same)) is

-- where one till changes the others stay
pub others_stay : {C B : Type 0} (t : ℕ) (P : TillOf C B → TillOf C B → Type 0) (old new : List (TillOf C B)) → ChangesOnly t P old new → OthersStay old t new
others_stay t P old new change u till apart at = record {
  place = at.place;
  number_is = at.number_is;
  thing_is = subst (λ list. slice_get list at.place ≡ Some till) (sym change.others)
      (set_other old change.place at.place change.after till (λ same. apart (omega (arith, same, at.number_is, change.number_is))) at.thing_is);
}

-- ---- the reply is taken

done_as : (u t : ℕ) (number ksn : Serial) (with code : Code) → u ≡ t → number ≡ ksn → with ≡ code → came.Done u number with ≡ came.Done t ksn code
done_as u t number ksn with code one two three = cc

-- the till is told the code, and has what becomes of its purchase by that
pub record IsDone {C B J I : Type 0} (old : BooksOf C B J I) (t : ℕ) (ksn : Serial) (amount : ℕ) (code : Code) (outcome : Outcome) (new : BooksOf C B J I) : Type 0 where
  pub till : TillOf C B
  pub at : IsAt new.tills t till
  pub state_is : till.state ≡ Running (Some (outcome_of ksn amount code))
  pub outcome_is : outcome ≡ came.Done t ksn code
  pub sales : TakesSale old.sales t (approved_in till.state) new.sales
  pub others : OthersStay old.tills t new.tills
  pub host : new.host ≡ old.host

module _ {C B J I : Type 0} (m : Meanings C B J I) (laws : AnswerLaws) (till : TillOf C B) (ksn : Serial) (amount : ℕ) (is_open : IsOpen till.state ksn amount) (set : RegisterSet) (pending : Pending)
    (waits : till.terminal.state ≡ Loaded set (Some pending)) (number_is : pending.ksn ≡ ksn) (book_runs : (m.book.state_of till.book).running ≡ true)
    (frame : Frame) (code : Code) (mac : List ℕ) (is_reply : IsReply frame.items ksn code mac) (frame_is : frame.items ≡ reply_to pending code) where
  abbrev reply : AnswerFrame
  reply = Reply ksn code mac

  terminal_reply_refuses : (why : TermFault) → ReplyRefused till.terminal.state frame.items why → ⊥
  terminal_reply_refuses term_fault.Stopped is = stopped_not_loaded till.terminal.state set (Some pending) waits is
  terminal_reply_refuses term_fault.Malformed is = is.1 reply is_reply
  terminal_reply_refuses term_fault.NotPending is = is.2 pending (set, waits)
  terminal_reply_refuses term_fault.NotMine is =
      let same : is.1 ≡ pending = same_pending till.terminal.state set is.3.0 pending is.1 waits is.3.1 in
      is.4 (ap ksn_in (laws.one_answer frame.items is.0 reply is.2 is_reply) ∙ sym number_is ∙ ap (λ (it : Pending). it.ksn) (sym same))
  terminal_reply_refuses term_fault.BadMac is =
      let bad = is.2 in
      let same : is.0 ≡ pending = same_pending till.terminal.state set is.1.0 pending is.0 waits is.1.1 in
      let read : bad.code ≡ code = same_code is.0.ksn ksn bad.code code bad.mac mac (laws.one_answer frame.items (Reply is.0.ksn bad.code bad.mac) reply bad.reply is_reply) in
      bad.other (frame_is ∙ ap (λ (it : Pending). reply_to it code) (sym same) ∙ ap (λ (it : Code). reply_to is.0 it) (sym read))
  terminal_reply_refuses _ is = is

  till_reply_refuses : (after : TillOf C B) (why : TillFault) → IsSpared (IsBookFault why) → TillReplyRefused m.book frame.items till after why → ⊥
  till_reply_refuses after fault.Stopped spared is = stopped_is_not_running till.state (Some (Open ksn amount)) is.0 is_open
  till_reply_refuses after fault.Open spared is = is
  till_reply_refuses after fault.NothingOpen spared is = not_open_at_rest till.state ksn amount is.0 is_open
  till_reply_refuses after (fault.Terminal why) spared is = elim is.0.3 [
    | inl reversing ↦
        let other = reversing.1 in
        let same : other.pending ≡ pending = same_pending till.terminal.state set other.waits.0 pending other.pending waits other.waits.1 in
        other.other (ap (λ (it : Pending). it.ksn) same ∙ number_is ∙ sym (one_open till ksn is.0.0 amount is.0.1 is_open is.0.2))
    | inr refused ↦ terminal_reply_refuses why refused.1
  ]
  till_reply_refuses after (fault.Store why) spared is = elim (put_fails m.book till.book after.book (last_bytes (outcome_of is.ksn is.amount is.code)) why book_runs is.not_kept.not_kept) [
    | inl device ↦ spared.device device
    | inr worn ↦ spared.worn worn
  ]

  record IsTold (t : ℕ) (outcome : Outcome) (after : TillOf C B) : Type 0 where
    outcome_is : outcome ≡ came.Done t ksn code
    state_is : after.state ≡ Running (Some (outcome_of ksn amount code))

  takes : (after : TillOf C B) (t : ℕ) (outcome : Outcome) → IsSpared (ReportsFault outcome (ends.Book t)) → TakesReply m.cell m.book t frame outcome till after → IsTold t outcome after
  takes after t (came.Done u number with) spared is =
      let read = laws.one_answer frame.items (Reply number with is.1.0) reply is.1.1 is_reply in
      let kept = is.2 in
      let same = same_open kept.ksn ksn kept.amount amount (same_last till.state (Some (Open kept.ksn kept.amount)) (Some (Open ksn amount)) kept.was_open is_open) in
      let code_is : with ≡ code = same_code number ksn with code is.1.0 mac read in
      record {
        outcome_is = done_as u t number ksn with code is.0 (same_ksn number ksn with code is.1.0 mac read) code_is;
        state_is = kept.state_is
            ∙ ap (λ (it : Serial). Running (Some (outcome_of it kept.amount with))) same.0
            ∙ ap (λ it. Running (Some (outcome_of ksn it with))) same.1
            ∙ ap (λ (it : Code). Running (Some (outcome_of ksn amount it))) code_is;
      }
  takes after t (came.GotRefusal u number why) spared is = absurd (no_refusal number ksn code mac why (laws.one_answer frame.items (Refusal number why) reply is.1 is_reply))
  takes after t (came.TillFaulted u why) spared is =
      absurd (till_reply_refuses after why (record { device = λ reports. spared.device (is.0, reports); worn = λ reports. spared.worn (is.0, reports) }) is.1)
  takes after t _ spared is = absurd is

  takes_answer : (after : TillOf C B) (t : ℕ) (outcome : Outcome) → IsSpared (ReportsFault outcome (ends.Book t)) → TakesAnswer m.cell m.book t frame outcome till after → IsTold t outcome after
  takes_answer after t outcome spared (inl request) = takes after t outcome spared request.takes
  takes_answer after t outcome spared (inr reversal) = elim reversal.0 [
    | inl other ↦ absurd (laws.apart frame.items reply other.0 is_reply other.1)
    | inr of_reversal ↦
        let refusal = of_reversal.refusal in
        absurd (no_refusal refusal.0 ksn code mac refusal.1 (laws.one_answer frame.items (Refusal refusal.0 refusal.1) reply refusal.2 is_reply))
  ]

  -- its purchase is over
  pub is_done : (old new : BooksOf C B J I) (n t : ℕ) → IsAt old.tills t till → IsAt old.answers n frame → (outcome : Outcome) → ReachesTill m old n t outcome new → IsSpared (ReportsFault outcome (ends.Book t))
      → IsDone old t ksn amount code outcome new
  is_done old new n t at sent outcome step spared = elim step [
    | inl none ↦ absurd (not_missing old.tills t (one_there old.tills t till at) none.none)
    | inr there ↦ elim there [
      | inl missing ↦ absurd (not_missing old.answers n (one_there old.answers n frame sent) missing.none)
      | inr is ↦
          let change = is.till in
          let same_frame : is.frame ≡ frame = one_at old.answers n is.frame frame is.sent sent in
          let same : change.before ≡ till = one_at old.tills t change.before till (record { place = change.place; number_is = change.number_is; thing_is = change.was }) at in
          let told = takes_answer change.after t outcome spared
          (subst (λ (it : TillOf C B). TakesAnswer m.cell m.book t frame outcome it change.after) same
          (subst (λ (it : Frame). TakesAnswer m.cell m.book t it outcome change.before change.after) same_frame change.changed)) in
          record {
            till = change.after;
            at = now_at t _ old.tills new.tills change;
            state_is = told.state_is;
            outcome_is = told.outcome_is;
            sales = is.sales;
            others = others_stay t _ old.tills new.tills change;
            host = ap (λ (books : BooksOf C B J I). books.host) is.rest;
          }
    ]
  ]
