-- What holds of a till still holds after a call that may tell something.
use Rattle.std.proofs.Common.{◌≡◌, ◌≢◌, ◌⊎◌, ◌<◌, ◌^◌, inl, inr, ℕ, List, [], ◌∷◌, Option, Some, None, Ok, Err, IfSome, Contains, ap, refl, subst, sym, ◌∙◌}
use Rattle.std.proofs.lemmas.List.Elements.{Contains-append_left, Contains-push}
use Rattle.duk_frame.specs.declared.code.Code.{Code}
use Rattle.duk_frame.specs.declared.code.Code.TheVariants as code
use Rattle.duk_frame.specs.Answer.{IsReply}
use Rattle.duk_reversal.specs.Reply.{IsReversalReply}
use Rattle.duk_reversal.specs.declared.state.ReversalState.{ReversalState}
use Rattle.duk_store.specs.Cell.{IsPut, Kept, PutFailed}
use Rattle.duk_store.specs.declared.fault.StoreFault.{StoreFault}
use Rattle.duk_term.specs.Restart.{IsTerminalRestarted}
use Rattle.duk_term.specs.declared.answer.Answer.TheVariants as answer
use Rattle.duk_term.specs.declared.answer.ReversalAnswer.TheVariants as reversal
use Rattle.duk_till.specs.History.{IsOf, payment_of}
use Rattle.duk_till.specs.Image.{kept_of, last_bytes}
use Rattle.duk_till.specs.Last.{AreLastFields, outcome_of}
use Rattle.duk_till.specs.Lifetime.{Call, IsCalled, Reply, Restart, ReversalReply as ReversalReplyCall}
use Rattle.duk_term.specs.Reversal.{ReportsReversal}
use Rattle.duk_till.specs.Reply.{IsOutcomeKept, IsOutcomeLost, IsReplyTo, TillReplyRefused}
use Rattle.duk_till.specs.Restart.{FoundLast, IsTillRestarted, TillRestartRefused}
use Rattle.duk_till.specs.Reversal.{IsUndoneKept, IsUndoneLost, TillReversalReplyRefused}
use Rattle.duk_till.specs.Till.{TillOf, approved_in}
use Rattle.duk_till.specs.declared.fault.TillFault.{TillFault}
use Rattle.duk_till.specs.declared.fault.TillFault.TheVariants as fault
use Rattle.duk_till.specs.declared.last.Last.{Last}
use Rattle.duk_till.specs.declared.last.Last.TheVariants.{Open, Approved, Declined, Undone}
use Rattle.duk_till.specs.declared.last.Payment.{Payment}
use Rattle.duk_till.specs.declared.state.TillState.{TillState}
use Rattle.duk_till.specs.declared.state.TillState.TheVariants.{Stopped, Running}
use Rattle.duk_tree.specs.Serial.{IsSerial, Serial}
use Rattle.duk_books.specs.Books.{Frame, Meanings}
use Rattle.duk_books.specs.Sales.{TakesSale, sale_of}
use Rattle.duk_books.specs.declared.sales.Sale.{Sale}
use Rattle.duk_books.specs.inner.Known.{CallLaws}
use Rattle.duk_books.proofs.agreement.Facts.{IsRepliedTo, IsSold, IsUndoneBy, Lists}
use Rattle.duk_books.proofs.agreement.QuietCalls.{terminal_goes}
use Rattle.duk_books.proofs.agreement.Registers.{RegistersHold}
use Rattle.duk_stations.specs.inner.Moves.{reopens, waits_no_more}
use Rattle.duk_stations.proofs.Memory.{opened_is_idle}
use Rattle.duk_stations.proofs.Terminals.{TerminalHas, restart_goes}
use Rattle.duk_books.proofs.agreement.Tills.{Fits, IsAwaited, IsInDoubt, IsKeptOf, IsSettled, TillHolds, book_has, book_lost, book_put, book_stays, doubt_lost, doubt_stays, found_fits, one_last, same_last, stopped_is_not_running}
use Rattle.duk_books.proofs.moves.StepChanges.{IsTelling}

-- ---- sales

-- the lists with other sales
abbrev pub with_sales : Lists → List Sale → Lists
with_sales lists sales = record lists { sales = sales }

-- what is entered stands in the book
pub entered_now : (t : ℕ) (old new : List Sale) (payment : Payment) → TakesSale old t (Some payment) new → Contains new (sale_of t payment)
entered_now t old new payment (inl there) = subst (λ sales. Contains sales (sale_of t payment)) (sym there.1) there.0
entered_now t old new payment (inr joins) = subst (λ sales. Contains sales (sale_of t payment)) (sym joins.1) (Contains-push old (sale_of t payment))

-- what stood there stays
pub sales_stay : (t : ℕ) (old new : List Sale) (approved : Option Payment) (sale : Sale) → TakesSale old t approved new → Contains old sale → Contains new sale
sales_stay t old new None sale takes is_in = subst (λ sales. Contains sales sale) (sym takes) is_in
sales_stay t old new (Some payment) sale (inl there) is_in = subst (λ sales. Contains sales sale) (sym there.1) is_in
sales_stay t old new (Some payment) sale (inr joins) is_in = subst (λ sales. Contains sales sale) (sym joins.1) (Contains-append_left old (sale_of t payment ∷ []) sale is_in)

-- the sale of a till that has a payment as approved
pub approved_entered : (t : ℕ) (old new : List Sale) (state : TillState) (ksn : Serial) (amount : ℕ) → TakesSale old t (approved_in state) new → state ≡ Running (Some (Approved ksn amount))
    → Contains new (sale_of t (payment_of ksn amount))
approved_entered t old new state ksn amount takes is =
    entered_now t old new (payment_of ksn amount) (subst (λ (it : TillState). TakesSale old t (approved_in it) new) is takes)

-- no sale is new where the till has none, or it stood there
same_entered : (t : ℕ) (old new : List Sale) (payment : Payment) → Contains old (sale_of t payment) → TakesSale old t (Some payment) new → new ≡ old
same_entered t old new payment there (inl same) = same.1
same_entered t old new payment there (inr joins) = absurd (joins.0 there)

pub no_new_sale : (t : ℕ) (old new : List Sale) (state : TillState) → ((ksn : Serial) (amount : ℕ) → state ≡ Running (Some (Approved ksn amount)) → Contains old (sale_of t (payment_of ksn amount)))
    → TakesSale old t (approved_in state) new → new ≡ old
no_new_sale t old new Stopped there takes = takes
no_new_sale t old new (Running None) there takes = takes
no_new_sale t old new (Running (Some (Open ksn amount))) there takes = takes
no_new_sale t old new (Running (Some (Approved ksn amount))) there takes = same_entered t old new (payment_of ksn amount) (there ksn amount refl) takes
no_new_sale t old new (Running (Some (Declined ksn why))) there takes = takes
no_new_sale t old new (Running (Some (Undone ksn))) there takes = takes

-- ---- outcomes

pub outcome_fields : (ksn : Serial) (amount : ℕ) (why : Code) → IsSerial ksn × (amount < 2 ^ 32) → AreLastFields (outcome_of ksn amount why)
outcome_fields ksn amount code.Approved fields = fields
outcome_fields ksn amount code.NoCard fields = (fields.0, λ same. absurd (cc))
outcome_fields ksn amount code.WrongPin fields = (fields.0, λ same. absurd (cc))
outcome_fields ksn amount code.OverLimit fields = (fields.0, λ same. absurd (cc))
outcome_fields ksn amount code.Unreadable fields = (fields.0, λ same. absurd (cc))

outcome_fits : (lists : Lists) (t : ℕ) (ksn : Serial) (amount : ℕ) (why : Code) → IsAwaited lists t ksn amount → IsRepliedTo lists.answers ksn why → Fits lists t (outcome_of ksn amount why)
outcome_fits lists t ksn amount code.Approved awaited replied = record { awaited = awaited; replied = replied }
outcome_fits lists t ksn amount code.NoCard awaited replied = ((λ same. absurd (cc)), replied)
outcome_fits lists t ksn amount code.WrongPin awaited replied = ((λ same. absurd (cc)), replied)
outcome_fits lists t ksn amount code.OverLimit awaited replied = ((λ same. absurd (cc)), replied)
outcome_fits lists t ksn amount code.Unreadable awaited replied = ((λ same. absurd (cc)), replied)

outcome_is_of : (ksn : Serial) (amount : ℕ) (why : Code) → IsOf (payment_of ksn amount) (outcome_of ksn amount why)
outcome_is_of ksn amount code.Approved = refl
outcome_is_of ksn amount code.NoCard = refl
outcome_is_of ksn amount code.WrongPin = refl
outcome_is_of ksn amount code.OverLimit = refl
outcome_is_of ksn amount code.Unreadable = refl

outcome_not_open : (ksn : Serial) (amount : ℕ) (why : Code) (other : Serial) (more : ℕ) → outcome_of ksn amount why ≢ Open other more
outcome_not_open ksn amount code.Approved other more same = absurd (cc)
outcome_not_open ksn amount code.NoCard other more same = absurd (cc)
outcome_not_open ksn amount code.WrongPin other more same = absurd (cc)
outcome_not_open ksn amount code.OverLimit other more same = absurd (cc)
outcome_not_open ksn amount code.Unreadable other more same = absurd (cc)

-- an outcome that is entered settles the payment
outcome_settles : (lists : Lists) (t : ℕ) (ksn : Serial) (amount : ℕ) (why : Code) → IsRepliedTo lists.answers ksn why
    → (outcome_of ksn amount why ≡ Approved ksn amount → IsSold lists t ksn amount) → IsSettled lists t ksn amount
outcome_settles lists t ksn amount code.Approved replied sold = inl (sold refl)
outcome_settles lists t ksn amount code.NoCard replied sold = inr (inl (code.NoCard, (λ same. absurd (cc)), replied))
outcome_settles lists t ksn amount code.WrongPin replied sold = inr (inl (code.WrongPin, (λ same. absurd (cc)), replied))
outcome_settles lists t ksn amount code.OverLimit replied sold = inr (inl (code.OverLimit, (λ same. absurd (cc)), replied))
outcome_settles lists t ksn amount code.Unreadable replied sold = inr (inl (code.Unreadable, (λ same. absurd (cc)), replied))

pub same_open : (ksn other : Serial) (amount more : ℕ) → Some (Open ksn amount) ≡ Some (Open other more) → (ksn ≡ other) × (amount ≡ more)
same_open ksn other amount more same = (cc, cc)

some_open : (last : Last) (ksn : Serial) (amount : ℕ) (state : TillState) → state ≡ Running (Some last) → state ≡ Running (Some (Open ksn amount)) → last ≡ Open ksn amount
some_open last ksn amount state is runs = cc

-- ---- restarts

none_is_kept : (last : Last) → kept_of None ≡ Some (last_bytes last) → ⊥
none_is_kept last same = absurd (cc)

module _ {C B J I : Type 0} (laws : CallLaws) (m : Meanings C B J I) (t : ℕ) (lists : Lists) (sales : List Sale) where
  abbrev After : Lists
  After = with_sales lists sales

  -- where no sale is new, what holds by the old sales holds by the new ones
  by_old_sales : (new : TillOf C B) → sales ≡ lists.sales → TillHolds m lists t new → TillHolds m After t new
  by_old_sales new same holds = subst (λ (it : List Sale). TillHolds m (with_sales lists it) t new) (sym same) holds

  -- nothing is told, and the till is as it was
  unchanged_till : (old new : TillOf C B) → TillHolds m lists t old → TakesSale lists.sales t (approved_in new.state) sales → new ≡ old → TillHolds m After t new
  unchanged_till old new holds takes same =
      let now : TillHolds m lists t new = subst (TillHolds m lists t) (sym same) holds in
      by_old_sales new (no_new_sale t lists.sales sales new.state now.entered takes) now

  -- the till is stopped, where the book may find no more than it did
  stopped_till : (old new : TillOf C B) → TillHolds m lists t old → TakesSale lists.sales t (approved_in new.state) sales → TerminalHas m.cell (RegistersHold lists t) new.terminal → (m.book.state_of new.book).honest
      → ((kept : Kept) → (m.book.state_of new.book).found kept → (m.book.state_of old.book).found kept) → new.state ≡ Stopped → TillHolds m After t new
  stopped_till old new holds takes terminal honest fewer stopped =
      by_old_sales new (subst (λ (it : TillState). TakesSale lists.sales t (approved_in it) sales) stopped takes) (record {
        terminal = terminal;
        book = book_stays laws.reading m.book t lists old new holds.book honest fewer (inr stopped);
        waits = λ ksn amount pending opens_on. absurd (stopped_is_not_running new.state (Some (Open ksn amount)) stopped opens_on);
        entered = λ ksn amount approved. absurd (stopped_is_not_running new.state (Some (Approved ksn amount)) stopped approved);
        known = λ ksn amount asked owned. elim (holds.known ksn amount asked owned) [
          | inl settled ↦ inl settled
          | inr doubt ↦ inr (doubt_stays laws.reading m.book t ksn amount old new doubt fewer (inr stopped))
        ];
      })

  -- the till is stopped, where the book did not keep what became of the open purchase
  lost_till : (old new : TillOf C B) (ksn : Serial) (amount : ℕ) (last : Last) (why : StoreFault) → TillHolds m lists t old → TakesSale lists.sales t (approved_in new.state) sales → TerminalHas m.cell (RegistersHold lists t) new.terminal
      → old.state ≡ Running (Some (Open ksn amount)) → PutFailed m.book old.book new.book (last_bytes last) why → new.state ≡ Stopped → AreLastFields last → Fits lists t last → IsOf (payment_of ksn amount) last
      → TillHolds m After t new
  lost_till old new ksn amount last why holds takes terminal opens_on failed stopped fields fits is_of =
      by_old_sales new (subst (λ (it : TillState). TakesSale lists.sales t (approved_in it) sales) stopped takes) (record {
        terminal = terminal;
        book = book_lost laws.reading m.book t lists old new last why holds.book failed stopped fields fits;
        waits = λ other more pending opens. absurd (stopped_is_not_running new.state (Some (Open other more)) stopped opens);
        entered = λ other more approved. absurd (stopped_is_not_running new.state (Some (Approved other more)) stopped approved);
        known = λ other more asked owned. elim (holds.known other more asked owned) [
          | inl settled ↦ inl settled
          | inr doubt ↦
              let same = same_open ksn other amount more (doubt.runs (Some (Open ksn amount)) opens_on) in
              inr (doubt_lost laws.reading m.book t other more old new last why holds.book.honest doubt failed stopped fields
              (subst (λ (it : Serial). IsOf (payment_of it more) last) same.0 (subst (λ it. IsOf (payment_of ksn it) last) same.1 is_of)))
        ];
      })

  -- what is settled stays so by the new sales
  settled_after : (ksn : Serial) (amount : ℕ) (approved : Option Payment) → TakesSale lists.sales t approved sales → IsSettled lists t ksn amount → IsSettled After t ksn amount
  settled_after ksn amount approved takes (inl sold) = inl (sales_stay t lists.sales sales approved (sale_of t (payment_of ksn amount)) takes sold)
  settled_after ksn amount approved takes (inr known) = inr known

  -- the book keeps what became of the open purchase
  told_till : (old new : TillOf C B) (ksn : Serial) (amount : ℕ) (last : Last) → TillHolds m lists t old → TakesSale lists.sales t (approved_in new.state) sales → TerminalHas m.cell (RegistersHold lists t) new.terminal
      → old.state ≡ Running (Some (Open ksn amount)) → IsPut m.book old.book new.book (last_bytes last) → new.state ≡ Running (Some last) → AreLastFields last → Fits After t last
      → ((other : Serial) (more : ℕ) → last ≢ Open other more) → IsSettled After t ksn amount → TillHolds m After t new
  told_till old new ksn amount last holds takes terminal opens_on put runs fields fits not_open settles = record {
    terminal = terminal;
    book = book_put laws.reading m.book t After old new last holds.book.honest put runs fields fits;
    waits = λ other more pending opens. absurd (not_open other more (some_open last other more new.state runs opens));
    entered = λ other more approved. approved_entered t lists.sales sales new.state other more takes approved;
    known = λ other more asked owned. elim (holds.known other more asked owned) [
      | inl settled ↦ inl (settled_after other more (approved_in new.state) takes settled)
      | inr doubt ↦
          let same = same_open ksn other amount more (doubt.runs (Some (Open ksn amount)) opens_on) in
          inl (subst (λ (it : Serial). IsSettled After t it more) same.0 (subst (λ it. IsSettled After t ksn it) same.1 settles))
    ];
  }

  -- ---- replies

  replied_to : (bytes : List ℕ) (frame : Frame) (why : Code) (old : TillOf C B) (ksn : Serial) → Contains lists.answers frame → bytes ≡ frame.items → IsReplyTo old.terminal.state ksn bytes why → IsRepliedTo lists.answers ksn why
  replied_to bytes frame why old ksn sent same is = record {
    frame = frame;
    mac = is.from_host.mac;
    sent = sent;
    reply = subst (λ (it : Serial). IsReply frame.items it why is.from_host.mac) is.number_is (subst (λ it. IsReply it is.pending.ksn why is.from_host.mac) same is.from_host.reply);
  }

  reply_kept : (bytes : List ℕ) (frame : Frame) (why : Code) (old new : TillOf C B) → Contains lists.answers frame → bytes ≡ frame.items → TillHolds m lists t old
      → TakesSale lists.sales t (approved_in new.state) sales → IsOutcomeKept m.book bytes why old new → TillHolds m After t new
  reply_kept bytes frame why old new sent same holds takes is =
      let awaited = holds.waits is.ksn is.amount is.reply.pending is.was_open is.reply.waits is.reply.number_is in
      let replied = replied_to bytes frame why old is.ksn sent same is.reply in
      let fields = outcome_fields is.ksn is.amount why (holds.book.runs (Some (Open is.ksn is.amount)) is.was_open).0 in
      let outcome = outcome_of is.ksn is.amount why in
      told_till old new is.ksn is.amount outcome holds takes (terminal_goes laws m t lists old.terminal new.terminal holds.terminal (waits_no_more is.terminal)) is.was_open is.kept is.state_is fields
      (outcome_fits After t is.ksn is.amount why (record { asked = awaited.asked; not_back = awaited.not_back; owned = awaited.owned }) replied) (outcome_not_open is.ksn is.amount why)
      (outcome_settles After t is.ksn is.amount why replied
      (λ approved. approved_entered t lists.sales sales new.state is.ksn is.amount takes (is.state_is ∙ ap (λ (it : Last). Running (Some it)) approved)))

  reply_lost : (bytes : List ℕ) (frame : Frame) (why : StoreFault) (old new : TillOf C B) → Contains lists.answers frame → bytes ≡ frame.items → TillHolds m lists t old
      → TakesSale lists.sales t (approved_in new.state) sales → IsOutcomeLost m.book bytes old new why → TillHolds m After t new
  reply_lost bytes frame why old new sent same holds takes is =
      let awaited = holds.waits is.ksn is.amount is.reply.pending is.was_open is.reply.waits is.reply.number_is in
      let replied = replied_to bytes frame is.code old is.ksn sent same is.reply in
      lost_till old new is.ksn is.amount (outcome_of is.ksn is.amount is.code) why holds takes
      (terminal_goes laws m t lists old.terminal new.terminal holds.terminal (waits_no_more is.terminal)) is.was_open is.not_kept.not_kept is.not_kept.stopped
      (outcome_fields is.ksn is.amount is.code (holds.book.runs (Some (Open is.ksn is.amount)) is.was_open).0)
      (outcome_fits lists t is.ksn is.amount is.code awaited replied) (outcome_is_of is.ksn is.amount is.code)

  pub reply_refused : (bytes : List ℕ) (frame : Frame) (why : TillFault) (old new : TillOf C B) → Contains lists.answers frame → bytes ≡ frame.items → TillHolds m lists t old
      → TakesSale lists.sales t (approved_in new.state) sales → TillReplyRefused m.book bytes old new why → TillHolds m After t new
  reply_refused bytes frame fault.Stopped old new sent same holds takes is = unchanged_till old new holds takes is.1
  reply_refused bytes frame fault.Open old new sent same holds takes is = absurd is
  reply_refused bytes frame fault.NothingOpen old new sent same holds takes is = unchanged_till old new holds takes is.1
  reply_refused bytes frame (fault.Terminal why) old new sent same holds takes is = unchanged_till old new holds takes is.1
  reply_refused bytes frame (fault.Store why) old new sent same holds takes is = reply_lost bytes frame why old new sent same holds takes is

  -- ---- replies to reversals

  undone_by : (bytes : List ℕ) (frame : Frame) (old : TillOf C B) (reversed : Serial) (found : ReversalState) → Contains lists.answers frame → bytes ≡ frame.items
      → ReportsReversal old.terminal.state reversed bytes (reversal.Done found) → IsUndoneBy lists.answers reversed
  undone_by bytes frame old reversed found sent same is = record {
    frame = frame;
    reply = is.2.reply;
    sent = sent;
    is_reply = subst (λ it. IsReversalReply it is.2.reply) same is.2.is_reply;
    reversed_is = is.2.is_of.reversed_is;
  }

  undone_not_open : (ksn : Serial) (other : Serial) (more : ℕ) → Undone ksn ≢ Open other more
  undone_not_open ksn other more same = absurd (cc)

  reversal_kept : (bytes : List ℕ) (frame : Frame) (found : ReversalState) (old new : TillOf C B) → Contains lists.answers frame → bytes ≡ frame.items → TillHolds m lists t old
      → TakesSale lists.sales t (approved_in new.state) sales → IsUndoneKept m.book bytes found old new → TillHolds m After t new
  reversal_kept bytes frame found old new sent same holds takes is =
      let undone = undone_by bytes frame old is.reversed found sent same is.reply in
      told_till old new is.reversed is.amount (Undone is.reversed) holds takes (terminal_goes laws m t lists old.terminal new.terminal holds.terminal (waits_no_more is.terminal)) is.was_open is.kept is.state_is
      (holds.book.runs (Some (Open is.reversed is.amount)) is.was_open).0.0 undone (undone_not_open is.reversed) (inr (inr undone))

  reversal_lost : (bytes : List ℕ) (frame : Frame) (why : StoreFault) (old new : TillOf C B) → Contains lists.answers frame → bytes ≡ frame.items → TillHolds m lists t old
      → TakesSale lists.sales t (approved_in new.state) sales → IsUndoneLost m.book bytes old new why → TillHolds m After t new
  reversal_lost bytes frame why old new sent same holds takes is =
      lost_till old new is.reversed is.amount (Undone is.reversed) why holds takes (terminal_goes laws m t lists old.terminal new.terminal holds.terminal (waits_no_more is.terminal)) is.was_open
      is.not_kept.not_kept is.not_kept.stopped (holds.book.runs (Some (Open is.reversed is.amount)) is.was_open).0.0 (undone_by bytes frame old is.reversed is.found sent same is.reply) refl

  pub reversal_reply_refused : (bytes : List ℕ) (frame : Frame) (why : TillFault) (old new : TillOf C B) → Contains lists.answers frame → bytes ≡ frame.items → TillHolds m lists t old
      → TakesSale lists.sales t (approved_in new.state) sales → TillReversalReplyRefused m.book bytes old new why → TillHolds m After t new
  reversal_reply_refused bytes frame fault.Stopped old new sent same holds takes is = unchanged_till old new holds takes is.1
  reversal_reply_refused bytes frame fault.Open old new sent same holds takes is = absurd is
  reversal_reply_refused bytes frame fault.NothingOpen old new sent same holds takes is = unchanged_till old new holds takes is.1
  reversal_reply_refused bytes frame (fault.Terminal why) old new sent same holds takes is = unchanged_till old new holds takes is.1
  reversal_reply_refused bytes frame (fault.Store why) old new sent same holds takes is = reversal_lost bytes frame why old new sent same holds takes is

  -- ---- restarts

  -- what a restart found fits by the new sales
  found_fits_after : (last : Option Last) → TakesSale lists.sales t (approved_in (Running last)) sales → IfSome last (Fits lists t) → IfSome last (Fits After t)
  found_fits_after None takes fits = tt
  found_fits_after (Some (Open ksn amount)) takes fits = (fits.0, λ other sold. fits.1 other (subst (λ it. Contains it (sale_of t (payment_of ksn other))) takes sold))
  found_fits_after (Some (Approved ksn amount)) takes fits =
      record { awaited = record { asked = fits.awaited.asked; not_back = fits.awaited.not_back; owned = fits.awaited.owned }; replied = fits.replied }
  found_fits_after (Some (Declined ksn why)) takes fits = fits
  found_fits_after (Some (Undone ksn)) takes fits = fits

  same_payment : (ksn other : Serial) (amount more : ℕ) → payment_of ksn amount ≡ payment_of other more → (ksn ≡ other) × (amount ≡ more)
  same_payment ksn other amount more same = (ap (λ (it : Payment). it.ksn) same, ap (λ (it : Payment). it.amount) same)

  -- what becomes of a payment in doubt, once a restart found this of it
  found_settles : (new : TillOf C B) (ksn : Serial) (amount : ℕ) (last : Last) → new.state ≡ Running (Some last) → ((kept : Kept) → (m.book.state_of new.book).found kept → kept ≡ Some (last_bytes last))
      → TakesSale lists.sales t (approved_in new.state) sales → AreLastFields last → Fits lists t last → IsOf (payment_of ksn amount) last → IsSettled After t ksn amount ⊎ IsInDoubt m.book ksn amount new
  found_settles new ksn amount (Open number sum) runs only takes fields fits is_of =
      let same = same_payment ksn number amount sum is_of in
      inr (record {
        runs = λ other runs_on. sym (same_last new.state (Some (Open number sum)) other runs runs_on) ∙ ap (λ (it : Serial). Some (Open it sum)) (sym same.0) ∙ ap (λ it. Some (Open ksn it)) (sym same.1);
        found = λ kept found. record { last = Open number sum; fields = fields; kept_is = only kept found; is_of = is_of };
      })
  found_settles new ksn amount (Approved number sum) runs only takes fields fits is_of =
      let same = same_payment ksn number amount sum is_of in
      inl (inl (approved_entered t lists.sales sales new.state ksn amount takes (runs ∙ ap (λ (it : Serial). Running (Some (Approved it sum))) (sym same.0) ∙ ap (λ it. Running (Some (Approved ksn it))) (sym same.1))))
  found_settles new ksn amount (Declined number why) runs only takes fields fits is_of =
      inl (inr (inl (why, fits.0, subst (λ (it : Serial). IsRepliedTo lists.answers it why) (sym is_of) fits.1)))
  found_settles new ksn amount (Undone number) runs only takes fields fits is_of =
      inl (inr (inr (subst (λ (it : Serial). IsUndoneBy lists.answers it) (sym is_of) fits)))

  doubt_found : (new : TillOf C B) (ksn : Serial) (amount : ℕ) (last : Option Last) → IsKeptOf ksn amount (kept_of last) → new.state ≡ Running last → ((kept : Kept) → (m.book.state_of new.book).found kept → kept ≡ kept_of last)
      → TakesSale lists.sales t (approved_in new.state) sales → IfSome last AreLastFields → IfSome last (Fits lists t) → IsSettled After t ksn amount ⊎ IsInDoubt m.book ksn amount new
  doubt_found new ksn amount None is runs only takes fields fits = absurd (none_is_kept is.last is.kept_is)
  doubt_found new ksn amount (Some last) is runs only takes fields fits =
      found_settles new ksn amount last runs only takes fields fits
      (subst (λ (it : Last). IsOf (payment_of ksn amount) it) (sym (one_last laws.reading last is.last fields is.fields is.kept_is)) is.is_of)

  restart_finds : (old new : TillOf C B) (last : Option Last) → TillHolds m lists t old → TakesSale lists.sales t (approved_in new.state) sales → IsTerminalRestarted m.cell old.terminal new.terminal
      → FoundLast m.book old.book new.book last → new.state ≡ Running last → TillHolds m After t new
  restart_finds old new last holds takes terminal found runs =
      let restart = found.cell in
      let only = λ (kept : Kept) (finds : (m.book.state_of new.book).found kept). (restart.settles.finds holds.book.honest kept).0 finds in
      let fits = found_fits laws.reading m.book t lists old new last holds.book found in
      record {
        terminal = terminal_goes laws m t lists old.terminal new.terminal holds.terminal (reopens terminal);
        book = book_has laws.reading m.book t After new last (restart.settles.nature.honest.0 holds.book.honest) only runs found.fields
            (found_fits_after last (subst (λ (it : TillState). TakesSale lists.sales t (approved_in it) sales) runs takes) fits);
        waits = λ ksn amount pending opens_on waits. absurd (opened_is_idle terminal.kept new.terminal.state terminal.opens pending waits);
        entered = λ ksn amount approved. approved_entered t lists.sales sales new.state ksn amount takes approved;
        known = λ ksn amount asked owned. elim (holds.known ksn amount asked owned) [
          | inl settled ↦ inl (settled_after ksn amount (approved_in new.state) takes settled)
          | inr doubt ↦ doubt_found new ksn amount last (doubt.found (kept_of last) (restart.was_found holds.book.honest)) runs only takes found.fields fits
        ];
      }

  terminal_up : (old new : TillOf C B) → TillHolds m lists t old → IsTerminalRestarted m.cell old.terminal new.terminal → TerminalHas m.cell (RegistersHold lists t) new.terminal
  terminal_up old new holds is = terminal_goes laws m t lists old.terminal new.terminal holds.terminal (reopens is)

  restart_done : (old new : TillOf C B) → TillHolds m lists t old → TakesSale lists.sales t (approved_in new.state) sales → IsTillRestarted m.cell m.book old new → TillHolds m After t new
  restart_done old new holds takes is = restart_finds old new is.last holds takes is.terminal is.found is.state_is

  pub restart_refused_so : (old new : TillOf C B) (why : TillFault) → TillHolds m lists t old → TakesSale lists.sales t (approved_in new.state) sales → TillRestartRefused m.cell m.book old new why → TillHolds m After t new
  restart_refused_so old new (fault.Terminal why) holds takes is =
      stopped_till old new holds takes (terminal_goes laws m t lists old.terminal new.terminal holds.terminal (restart_goes m.cell old.terminal new.terminal why is.0))
      (subst (λ it. (m.book.state_of it).honest) (sym is.1) holds.book.honest) (λ kept found. subst (λ it. (m.book.state_of it).found kept) is.1 found) is.2
  restart_refused_so old new (fault.Store why) holds takes is =
      let terminal = terminal_up old new holds is.0 in
      elim is.1 [
        | inl failed ↦
            let stops = failed.cell.stops in
            stopped_till old new holds takes terminal (stops.nature.honest.0 holds.book.honest) (λ kept found. stops.within holds.book.honest kept found) is.2
        | inr damaged ↦
            let restart = damaged.1.cell in
            stopped_till old new holds takes terminal (restart.settles.nature.honest.0 holds.book.honest)
            (λ kept found. subst (λ it. (m.book.state_of old.book).found it) (sym ((restart.settles.finds holds.book.honest kept).0 found)) (restart.was_found holds.book.honest)) is.2
      ]
  restart_refused_so old new fault.Stopped holds takes is = absurd is
  restart_refused_so old new fault.Open holds takes is = absurd is
  restart_refused_so old new fault.NothingOpen holds takes is = absurd is

  -- ---- each call

  pub tells : (call : Call) (old new : TillOf C B) → IsTelling lists.answers call → TillHolds m lists t old → TakesSale lists.sales t (approved_in new.state) sales → IsCalled m.cell m.book call old new → TillHolds m After t new
  tells (Reply bytes (Ok (answer.Done why))) old new telling holds takes is = reply_kept bytes telling.0 why old new telling.1 telling.2 holds takes is
  tells (Reply bytes (Ok (answer.Refused reason))) old new telling holds takes is = unchanged_till old new holds takes is.same
  tells (Reply bytes (Err why)) old new telling holds takes is = reply_refused bytes telling.0 why old new telling.1 telling.2 holds takes is
  tells (ReversalReplyCall bytes (Ok (reversal.Done found))) old new telling holds takes is = reversal_kept bytes telling.0 found old new telling.1 telling.2 holds takes is
  tells (ReversalReplyCall bytes (Ok (reversal.Refused reason))) old new telling holds takes is = unchanged_till old new holds takes is.same
  tells (ReversalReplyCall bytes (Err why)) old new telling holds takes is = reversal_reply_refused bytes telling.0 why old new telling.1 telling.2 holds takes is
  tells (Restart (Ok told)) old new telling holds takes is = restart_done old new holds takes is.0
  tells (Restart (Err why)) old new telling holds takes is = restart_refused_so old new why holds takes is
  tells _ old new telling holds takes is = absurd telling
