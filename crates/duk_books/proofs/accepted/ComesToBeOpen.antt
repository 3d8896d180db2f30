-- How a purchase comes to be open at a till.
use Rattle.std.proofs.Common.{◌≡◌, ◌≢◌, ◌⊎◌, ℕ, List, Option, Some, None, Ok, Err, IfSome, inl, inr, refl, sym, ap, subst, ◌∙◌}
use Rattle.duk_frame.specs.declared.code.Code.{Code}
use Rattle.duk_frame.specs.declared.code.Code.TheVariants as code
use Rattle.duk_reversal.specs.declared.state.ReversalState.{ReversalState}
use Rattle.duk_regs.specs.Registers.{RegisterSet}
use Rattle.duk_store.specs.Cell.{CellMeaning, IsPut, Kept, PutFailed}
use Rattle.duk_store.specs.declared.fault.StoreFault.{StoreFault}
use Rattle.duk_term.specs.Begin.{IsBegunUnder, TakesNumber}
use Rattle.duk_term.specs.Load.{Loading}
use Rattle.duk_term.specs.Terminal.{TerminalOf, serial_of}
use Rattle.duk_term.specs.declared.answer.Answer.TheVariants as answer
use Rattle.duk_term.specs.declared.answer.ReversalAnswer.TheVariants as reversal
use Rattle.duk_term.specs.declared.purchase.Purchase.{Purchase}
use Rattle.duk_term.specs.declared.state.Pending.{Pending}
use Rattle.duk_term.specs.declared.state.State.TheVariants as term_state
use Rattle.duk_till.specs.Begin.{NumberIsLost, TillBeginRefused, opened}
use Rattle.duk_till.specs.Image.{IsLastBody, kept_of, last_bytes}
use Rattle.duk_till.specs.Last.{AreLastFields, outcome_of}
use Rattle.duk_till.specs.Lifetime.{ArmBook, ArmTerminal, Begin, Call, IsCalled, Load, Reply, Restart, Reverse, ReversalReply as ReversalReplyCall, Stop}
use Rattle.duk_till.specs.Load.{TillLoadRefused}
use Rattle.duk_till.specs.Reply.{IsOutcomeKept, TillReplyRefused}
use Rattle.duk_till.specs.Restart.{BookRestartFailed, FoundLast, IsTillRestarted, TillRestartRefused}
use Rattle.duk_till.specs.Reversal.{IsUndoneKept, TillReversalReplyRefused, TillReverseRefused}
use Rattle.duk_till.specs.Till.{IsOpen, SameBook, TillOf}
use Rattle.duk_till.specs.declared.fault.TillFault.{TillFault}
use Rattle.duk_till.specs.declared.fault.TillFault.TheVariants as fault
use Rattle.duk_till.specs.declared.last.Last.{Last}
use Rattle.duk_till.specs.declared.last.Last.TheVariants.{Open, Approved, Declined, Undone}
use Rattle.duk_till.specs.declared.state.TillState.{TillState}
use Rattle.duk_till.specs.declared.state.TillState.TheVariants.{Stopped, Running}
use Rattle.duk_tree.specs.Serial.{Serial}
use Rattle.duk_books.specs.Books.{Meanings}
use Rattle.duk_books.specs.Completed.{MayBeOpen, MayFindOpen}
use Rattle.duk_books.specs.inner.Known.{OneReading}
use Rattle.duk_books.proofs.agreement.QuietCalls.{begun_fields}
use Rattle.duk_stations.specs.Registers.{RegisterLaws}
use Rattle.duk_stations.proofs.Terminals.{found_then}
use Rattle.duk_books.proofs.agreement.Tills.{one_last, same_last, stopped_is_not_running}

-- ---- bodies

-- a last purchase that is not open
abbrev IsNotOpen : Last → Type 0
IsNotOpen last = (ksn : Serial) (amount : ℕ) → last ≢ Open ksn amount

-- its body is none of an open one
closed_bytes : (last : Last) (ksn : Serial) (amount : ℕ) → IsNotOpen last → last_bytes last ≢ last_bytes (Open ksn amount)
closed_bytes (Open number sum) ksn amount closed same = closed number sum refl
closed_bytes (Approved number sum) ksn amount closed same = absurd (cc)
closed_bytes (Declined number why) ksn amount closed same = absurd (cc)
closed_bytes (Undone number) ksn amount closed same = absurd (cc)

outcome_closed : (ksn : Serial) (amount : ℕ) (why : Code) → IsNotOpen (outcome_of ksn amount why)
outcome_closed ksn amount code.Approved other more same = absurd (cc)
outcome_closed ksn amount code.NoCard other more same = absurd (cc)
outcome_closed ksn amount code.WrongPin other more same = absurd (cc)
outcome_closed ksn amount code.OverLimit other more same = absurd (cc)
outcome_closed ksn amount code.Unreadable other more same = absurd (cc)

undone_closed : (ksn : Serial) → IsNotOpen (Undone ksn)
undone_closed ksn other more same = absurd (cc)

some_is : {A : Type 0} (one other : A) → Some one ≡ Some other → one ≡ other
some_is one other same = cc

same_number : (ksn other : Serial) (amount more : ℕ) → Open ksn amount ≡ Open other more → ksn ≡ other
same_number ksn other amount more same = cc

pub none_is_no_body : (body : List ℕ) → ¬ (Some body ≡ None)
none_is_no_body body same = absurd (cc)

-- ---- calls

-- a purchase begins: it takes the terminal's next number
pub record Opens {C : Type 0} (terminal : TerminalOf C) (ksn : Serial) : Type 0 where
  pub set : RegisterSet
  pub pending : Option Pending
  pub key : List ℕ
  pub left : RegisterSet
  pub had : terminal.state ≡ term_state.Loaded set pending
  pub takes : TakesNumber set key left
  pub number_is : ksn ≡ serial_of set

-- the till is called, and not made anew
abbrev pub IsLasting : Call → Type 0
IsLasting Stop = ⊥
IsLasting _ = Unit {0}

-- it begins no purchase
abbrev pub IsNoBegin : Call → Type 0
IsNoBegin (Begin purchase result) = ⊥
IsNoBegin _ = Unit {0}

-- ---- books

module _ {B : Type 0} (book : CellMeaning B) (old new : B) (honest : (book.state_of old).honest) where
  -- what a book may find open it may have found before, where it finds no more
  found_before : ((kept : Kept) → (book.state_of new).found kept → (book.state_of old).found kept) → (ksn : Serial) → MayFindOpen book new ksn → MayFindOpen book old ksn
  found_before fewer ksn is = record { amount = is.amount; body = is.body; is_body = is.is_body; found = fewer (Some is.body) is.found }

  -- the book keeps a last purchase that is not open
  closes : (last : Last) (state : TillState) → IsNotOpen last → IsPut book old new (last_bytes last) → state ≡ Running (Some last) → (ksn : Serial) → ¬ (((amount : ℕ) × IsOpen state ksn amount) ⊎ MayFindOpen book new ksn)
  closes last state closed put runs ksn (inl is) = closed ksn is.0 (some_is last (Open ksn is.0) (same_last state (Some last) (Some (Open ksn is.0)) runs is.1))
  closes last state closed put runs ksn (inr found) =
      closed_bytes last ksn found.amount closed (sym (some_is found.body (last_bytes last) ((put.settles.finds honest (Some found.body)).0 found.found)) ∙ found.is_body.laid_out)

  -- the book may have kept one that is not open
  not_opened : (last : Last) (why : StoreFault) → IsNotOpen last → PutFailed book old new (last_bytes last) why → (ksn : Serial) → MayFindOpen book new ksn → MayFindOpen book old ksn
  not_opened last why closed failed ksn is = elim (found_then book old new (last_bytes last) why honest failed (Some is.body) is.found) [
    | inl before ↦ record { amount = is.amount; body = is.body; is_body = is.is_body; found = before }
    | inr here ↦ absurd (closed_bytes last ksn is.amount closed (sym (some_is is.body (last_bytes last) here) ∙ is.is_body.laid_out))
  ]

  -- a last purchase that a restart found was there
  found_there : (last : Option Last) → IfSome last AreLastFields → (book.state_of old).found (kept_of last) → (ksn : Serial) (amount : ℕ) → last ≡ Some (Open ksn amount) → MayFindOpen book old ksn
  found_there None fields found ksn amount same = absurd (cc)
  found_there (Some last) fields found ksn amount same =
      let is : last ≡ Open ksn amount = some_is last (Open ksn amount) same in
      record {
        amount = amount;
        body = last_bytes last;
        is_body = record { fields = subst AreLastFields is fields; laid_out = ap last_bytes is };
        found = found;
      }

  -- what may be found after a restart was found in it
  found_again : (last : Option Last) → FoundLast book old new last → (ksn : Serial) → MayFindOpen book new ksn → MayFindOpen book old ksn
  found_again last is = found_before (λ kept found. subst (book.state_of old).found (sym ((is.cell.settles.finds honest kept).0 found)) (is.cell.was_found honest))

module _ {C B J I : Type 0} (m : Meanings C B J I) (numbers : RegisterLaws) (reading : OneReading) (old new : TillOf C B) (honest : (m.book.state_of old.book).honest) where
  -- what may be open was before
  abbrev pub StaysOpen : Type 0
  StaysOpen = (ksn : Serial) → MayBeOpen m new ksn → MayBeOpen m old ksn

  -- or begins
  abbrev CameToBeOpen : Type 0
  CameToBeOpen = (ksn : Serial) → MayBeOpen m new ksn → MayBeOpen m old ksn ⊎ Opens old.terminal ksn

  -- a till that goes on, or stops, with a book that may find no more
  goes_on : ((ksn : Serial) → MayFindOpen m.book new.book ksn → MayFindOpen m.book old.book ksn) → (new.state ≡ old.state) ⊎ (new.state ≡ Stopped) → StaysOpen
  goes_on fewer (inl same) ksn (inl is) = inl (is.0, sym same ∙ is.1)
  goes_on fewer (inr stopped) ksn (inl is) = absurd (stopped_is_not_running new.state (Some (Open ksn is.0)) stopped is.1)
  goes_on fewer state ksn (inr found) = inr (fewer ksn found)

  pub same_till : new ≡ old → StaysOpen
  same_till same ksn is = subst (λ (it : TillOf C B). MayBeOpen m it ksn) same is

  same_found : new.book ≡ old.book → (ksn : Serial) → MayFindOpen m.book new.book ksn → MayFindOpen m.book old.book ksn
  same_found same ksn is = subst (λ it. MayFindOpen m.book it ksn) same is

  pub with_same_book : SameBook old new → StaysOpen
  with_same_book same = goes_on (same_found same.book_is) (inl same.state_is)

  -- the purchase that was open is done or undone
  pub done_closes : (bytes : List ℕ) (why : Code) → IsOutcomeKept m.book bytes why old new → (ksn : Serial) → ¬ MayBeOpen m new ksn
  done_closes bytes why is = closes m.book old.book new.book honest (outcome_of is.ksn is.amount why) new.state (outcome_closed is.ksn is.amount why) is.kept is.state_is

  pub undone_closes : (bytes : List ℕ) (found : ReversalState) → IsUndoneKept m.book bytes found old new → (ksn : Serial) → ¬ MayBeOpen m new ksn
  undone_closes bytes found is = closes m.book old.book new.book honest (Undone is.reversed) new.state (undone_closed is.reversed) is.kept is.state_is

  -- the till is stopped, where the book may have kept one that is not open
  loses : (last : Last) (why : StoreFault) → IsNotOpen last → PutFailed m.book old.book new.book (last_bytes last) why → new.state ≡ Stopped → StaysOpen
  loses last why closed failed stopped = goes_on (not_opened m.book old.book new.book honest last why closed failed) (inr stopped)

  -- ---- a purchase begins

  opens : (purchase : Purchase) (ksn : Serial) (frame : List ℕ) → IsBegunUnder m.cell purchase ksn frame old.terminal new.terminal → (other : Serial) → ksn ≡ other → Opens old.terminal other
  opens purchase ksn frame is other same = record {
    set = is.begun.set;
    pending = is.begun.takes.pending;
    key = is.begun.key;
    left = is.begun.left;
    had = is.begun.takes.had;
    takes = is.begun.takes.takes;
    number_is = sym same ∙ is.ksn_is;
  }

  -- an open purchase with the body of one that begins is that one
  same_body : (purchase : Purchase) (ksn : Serial) (frame : List ℕ) → IsBegunUnder m.cell purchase ksn frame old.terminal new.terminal → (other : Serial) (amount : ℕ) (body : List ℕ)
      → IsLastBody body (Open other amount) → Some body ≡ Some (last_bytes (opened ksn purchase)) → ksn ≡ other
  same_body purchase ksn frame is other amount body is_body same =
      same_number ksn other purchase.amount amount
      (one_last reading (opened ksn purchase) (Open other amount) (begun_fields numbers m.cell purchase ksn frame old.terminal new.terminal is) is_body.fields (sym same ∙ ap Some is_body.laid_out))

  begins : (purchase : Purchase) (ksn : Serial) (frame : List ℕ) → IsBegunUnder m.cell purchase ksn frame old.terminal new.terminal → IsPut m.book old.book new.book (last_bytes (opened ksn purchase))
      → new.state ≡ Running (Some (opened ksn purchase)) → CameToBeOpen
  begins purchase ksn frame is put runs other (inl is_open) =
      inr (opens purchase ksn frame is other (same_number ksn other purchase.amount is_open.0 (some_is (opened ksn purchase) (Open other is_open.0) (same_last new.state (Some (opened ksn purchase)) (Some (Open other is_open.0)) runs is_open.1))))
  begins purchase ksn frame is put runs other (inr found) =
      inr (opens purchase ksn frame is other (same_body purchase ksn frame is other found.amount found.body found.is_body ((put.settles.finds honest (Some found.body)).0 found.found)))

  lost : (purchase : Purchase) (why : StoreFault) → NumberIsLost m.cell m.book purchase old new why → CameToBeOpen
  lost purchase why is ksn (inl is_open) = absurd (stopped_is_not_running new.state (Some (Open ksn is_open.0)) is.not_kept.stopped is_open.1)
  lost purchase why is ksn (inr found) = elim (found_then m.book old.book new.book (last_bytes (opened is.ksn purchase)) why honest is.not_kept.not_kept (Some found.body) found.found) [
    | inl before ↦ inl (inr (record { amount = found.amount; body = found.body; is_body = found.is_body; found = before }))
    | inr here ↦ inr (opens purchase is.ksn is.frame is.terminal ksn (same_body purchase is.ksn is.frame is.terminal ksn found.amount found.body found.is_body here))
  ]

  begin_refused : (purchase : Purchase) (why : TillFault) → TillBeginRefused m.cell m.book purchase old new why → CameToBeOpen
  begin_refused purchase fault.Stopped is = λ ksn is_open. inl (same_till is.1 ksn is_open)
  begin_refused purchase fault.Open is = λ ksn is_open. inl (same_till is.1 ksn is_open)
  begin_refused purchase fault.NothingOpen is = absurd is
  begin_refused purchase (fault.Terminal why) is = elim is.1 [
    | inl spent ↦ (λ ksn is_open. inl (same_till spent.2 ksn is_open))
    | inr refused ↦ (λ ksn is_open. inl (with_same_book refused.1 ksn is_open))
  ]
  begin_refused purchase (fault.Store why) is = lost purchase why is

  -- ---- other calls

  reverse_refused : (why : TillFault) → TillReverseRefused m.cell old new why → StaysOpen
  reverse_refused fault.Stopped is = same_till is.1
  reverse_refused fault.NothingOpen is = same_till is.1
  reverse_refused (fault.Terminal why) is = with_same_book is.1
  reverse_refused _ is = absurd is

  reply_refused : (bytes : List ℕ) (why : TillFault) → TillReplyRefused m.book bytes old new why → StaysOpen
  reply_refused bytes fault.Stopped is = same_till is.1
  reply_refused bytes fault.Open is = absurd is
  reply_refused bytes fault.NothingOpen is = same_till is.1
  reply_refused bytes (fault.Terminal why) is = same_till is.1
  reply_refused bytes (fault.Store why) is = loses (outcome_of is.ksn is.amount is.code) why (outcome_closed is.ksn is.amount is.code) is.not_kept.not_kept is.not_kept.stopped

  reversal_reply_refused : (bytes : List ℕ) (why : TillFault) → TillReversalReplyRefused m.book bytes old new why → StaysOpen
  reversal_reply_refused bytes fault.Stopped is = same_till is.1
  reversal_reply_refused bytes fault.Open is = absurd is
  reversal_reply_refused bytes fault.NothingOpen is = same_till is.1
  reversal_reply_refused bytes (fault.Terminal why) is = same_till is.1
  reversal_reply_refused bytes (fault.Store why) is = loses (Undone is.reversed) why (undone_closed is.reversed) is.not_kept.not_kept is.not_kept.stopped

  load_refused : (asked : Loading) (why : TillFault) → TillLoadRefused m.cell asked old new why → StaysOpen
  load_refused asked fault.Stopped is = same_till is.1
  load_refused asked fault.Open is = same_till is.1
  load_refused asked (fault.Terminal why) is = with_same_book is.2
  load_refused asked _ is = absurd is

  -- ---- restarts

  restart_finds : (last : Option Last) → FoundLast m.book old.book new.book last → new.state ≡ Running last → StaysOpen
  restart_finds last is runs ksn (inl is_open) =
      inr (found_there m.book old.book new.book honest last is.fields (is.cell.was_found honest) ksn is_open.0 (same_last new.state last (Some (Open ksn is_open.0)) runs is_open.1))
  restart_finds last is runs ksn (inr found) = inr (found_again m.book old.book new.book honest last is ksn found)

  restart_done : IsTillRestarted m.cell m.book old new → StaysOpen
  restart_done is = restart_finds is.last is.found is.state_is

  book_failed : (why : StoreFault) → BookRestartFailed m.book old.book new.book why → (ksn : Serial) → MayFindOpen m.book new.book ksn → MayFindOpen m.book old.book ksn
  book_failed why (inl failed) ksn found = found_before m.book old.book new.book honest (λ kept finds. failed.cell.stops.within honest kept finds) ksn found
  book_failed why (inr (damaged, none)) ksn found =
      found_before m.book old.book new.book honest (λ kept finds. subst (m.book.state_of old.book).found (sym ((none.cell.settles.finds honest kept).0 finds)) (none.cell.was_found honest)) ksn found

  restart_refused : (why : TillFault) → TillRestartRefused m.cell m.book old new why → StaysOpen
  restart_refused (fault.Terminal why) is = goes_on (same_found is.1) (inr is.2)
  restart_refused (fault.Store why) is = goes_on (book_failed why is.1) (inr is.2)
  restart_refused _ is = absurd is

  -- ---- each call

  -- a call that is no begin opens nothing
  pub stays_open : (call : Call) → IsLasting call → IsNoBegin call → IsCalled m.cell m.book call old new → StaysOpen
  stays_open (Begin purchase result) lasts other is = absurd other
  stays_open (Reverse (Ok it)) lasts other is = with_same_book is.same_book
  stays_open (Reverse (Err why)) lasts other is = reverse_refused why is
  stays_open (Reply bytes (Ok (answer.Done why))) lasts other is = λ ksn is_open. absurd (done_closes bytes why is ksn is_open)
  stays_open (Reply bytes (Ok (answer.Refused reason))) lasts other is = same_till is.same
  stays_open (Reply bytes (Err why)) lasts other is = reply_refused bytes why is
  stays_open (ReversalReplyCall bytes (Ok (reversal.Done found))) lasts other is = λ ksn is_open. absurd (undone_closes bytes found is ksn is_open)
  stays_open (ReversalReplyCall bytes (Ok (reversal.Refused reason))) lasts other is = same_till is.same
  stays_open (ReversalReplyCall bytes (Err why)) lasts other is = reversal_reply_refused bytes why is
  stays_open (Restart (Ok told)) lasts other is = restart_done is.0
  stays_open (Restart (Err why)) lasts other is = restart_refused why is
  stays_open (Load asked (Ok done)) lasts other is = with_same_book is.same_book
  stays_open (Load asked (Err why)) lasts other is = load_refused asked why is
  stays_open (ArmTerminal steps) lasts other is = with_same_book is.same_book
  stays_open (ArmBook steps) lasts other is = goes_on (found_before m.book old.book new.book honest (λ kept found. (is.stays.found honest kept).0 found)) (inl is.state)
  stays_open Stop lasts other is = absurd lasts

  pub called_open : (call : Call) → IsLasting call → IsCalled m.cell m.book call old new → CameToBeOpen
  called_open (Begin purchase (Ok it)) lasts is = begins purchase it.ksn it.frame.items is.terminal is.kept is.state_is
  called_open (Begin purchase (Err why)) lasts is = begin_refused purchase why is
  called_open Stop lasts is = absurd lasts
  called_open (Reply bytes result) lasts is = λ ksn is_open. inl (stays_open (Reply bytes result) lasts tt is ksn is_open)
  called_open (Reverse result) lasts is = λ ksn is_open. inl (stays_open (Reverse result) lasts tt is ksn is_open)
  called_open (ReversalReplyCall bytes result) lasts is = λ ksn is_open. inl (stays_open (ReversalReplyCall bytes result) lasts tt is ksn is_open)
  called_open (Restart result) lasts is = λ ksn is_open. inl (stays_open (Restart result) lasts tt is ksn is_open)
  called_open (Load asked result) lasts is = λ ksn is_open. inl (stays_open (Load asked result) lasts tt is ksn is_open)
  called_open (ArmTerminal steps) lasts is = λ ksn is_open. inl (stays_open (ArmTerminal steps) lasts tt is ksn is_open)
  called_open (ArmBook steps) lasts is = λ ksn is_open. inl (stays_open (ArmBook steps) lasts tt is ksn is_open)
