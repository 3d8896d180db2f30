-- What holds of a till still holds after a call that tells nothing.
use Rattle.std.proofs.Common.{◌≡◌, ◌≢◌, ◌⊎◌, inl, inr, ℕ, List, [], ◌∷◌, ◌++◌, Option, Some, None, IfSome, Contains, ap, refl, subst, sym, ◌∙◌}
use Rattle.std.proofs.lemmas.List.Elements.{Contains-append_cases, Contains-append_left, Contains-push}
use Rattle.duk_regs.specs.Registers.{RegisterSet}
use Rattle.duk_store.specs.Cell.{CellMeaning, Kept}
use Rattle.duk_term.specs.Begin.{BeginRefused, IsBegunUnder, TakesNumber}
use Rattle.duk_term.specs.Load.{Loading}
use Rattle.duk_term.specs.Reply.{IsPending}
use Rattle.duk_term.specs.Reversal.{ReversalRefused}
use Rattle.duk_term.specs.Terminal.{TerminalOf, serial_of}
use Rattle.duk_term.specs.declared.fault.TermFault.{TermFault}
use Rattle.duk_term.specs.declared.fault.TermFault.TheVariants as term_fault
use Rattle.duk_term.specs.declared.purchase.Purchase.{Purchase}
use Rattle.duk_term.specs.declared.state.Pending.{Pending}
use Rattle.duk_term.specs.declared.state.State.{State}
use Rattle.duk_term.specs.declared.state.State.TheVariants as term_state
use Rattle.duk_till.specs.Begin.{NumberIsLost, TillBeginRefused, opened}
use Rattle.duk_till.specs.Last.{AreLastFields}
use Rattle.duk_till.specs.Load.{IsTillLoaded, TillLoadRefused}
use Rattle.duk_till.specs.Lifetime.{IsBookArmed, IsTerminalArmed}
use Rattle.duk_till.specs.Reversal.{TillReverseRefused}
use Rattle.duk_till.specs.Till.{IsAtRest, SameBook, TillOf}
use Rattle.duk_till.specs.declared.fault.TillFault.{TillFault}
use Rattle.duk_till.specs.declared.fault.TillFault.TheVariants as fault
use Rattle.duk_till.specs.declared.last.Last.{Last}
use Rattle.duk_till.specs.declared.last.Last.TheVariants.{Open, Approved, Declined, Undone}
use Rattle.duk_till.specs.declared.state.TillState.{TillState}
use Rattle.duk_till.specs.declared.state.TillState.TheVariants.{Stopped, Running}
use Rattle.duk_tree.specs.Serial.{IsSerial, Serial}
use Rattle.duk_books.specs.Books.{Meanings}
use Rattle.duk_stations.specs.Owner.{IsOwner}
use Rattle.duk_books.specs.Came.{IsAsked}
use Rattle.duk_books.specs.inner.Known.{CallLaws}
use Rattle.duk_books.proofs.agreement.Facts.{IsCalledBack, IsSold, Lists, the_only}
use Rattle.duk_stations.specs.inner.Moves.{Goes, GoesLoaded, is_armed, is_loaded, unmoved}
use Rattle.duk_stations.specs.Registers.{RegisterLaws}
use Rattle.duk_stations.proofs.Memory.{goes_subsides}
use Rattle.duk_stations.proofs.Numbers.{IsBehind, holds_left, holds_loaded, is_new, taken_behind}
use Rattle.duk_stations.proofs.Terminals.{StateHas, TerminalHas, begin_goes, goes_has, load_goes, load_has, request_takes, reversal_goes, takes_has}
use Rattle.duk_books.proofs.agreement.Registers.{RegistersHold, SetHolds}
use Rattle.duk_books.proofs.agreement.Tills.{BookHolds, Fits, IsAwaited, IsGood, IsInDoubt, TillHolds, book_lost, book_stays, doubt_stays, same_last, stopped_is_not_running}

-- what is known of all tills together: what is sold is good, and what was asked for or called back has
-- begun
pub record ListsHold (lists : Lists) (t : ℕ) : Type 0 where
  pub sold : (ksn : Serial) (amount : ℕ) → IsSold lists t ksn amount → IsGood lists t ksn amount
  pub asked : (ksn : Serial) (amount : ℕ) → IsAsked lists.requests ksn amount → Contains lists.begun ksn
  pub called_back : (ksn : Serial) → IsCalledBack lists.requests ksn → Contains lists.begun ksn

-- the lists with one more number that a purchase took
abbrev pub with_begun : Lists → Serial → Lists
with_begun lists ksn = record lists { begun = lists.begun ++ ksn ∷ [] }

-- ---- states

pub not_open_at_rest : (state : TillState) (ksn : Serial) (amount : ℕ) → IsAtRest state → state ≢ Running (Some (Open ksn amount))
not_open_at_rest state ksn amount rest is = rest.closed ksn amount (same_last state rest.last (Some (Open ksn amount)) rest.runs is)

pub not_in_doubt_at_rest : {C B : Type 0} (book : CellMeaning B) (ksn : Serial) (amount : ℕ) (till : TillOf C B) → IsAtRest till.state → ¬ IsInDoubt book ksn amount till
not_in_doubt_at_rest book ksn amount till rest doubt = rest.closed ksn amount (doubt.runs rest.last rest.runs)

stopped_pends_nothing : (state : State) (pending : Pending) → state ≡ term_state.Stopped → ¬ IsPending state pending
stopped_pends_nothing state pending stopped (set, is) = absurd (cc)

pub loaded_pends_nothing : (state : State) (set : RegisterSet) (pending : Pending) → state ≡ term_state.Loaded set None → ¬ IsPending state pending
loaded_pends_nothing state set pending loaded (other, is) = absurd (cc)

still_pending : (old new : State) (pending : Pending) → new ≡ old → IsPending new pending → IsPending old pending
still_pending old new pending same (set, is) = (set, sym same ∙ is)

-- ---- the fields of a purchase that begins

pub begun_fields : {C : Type 0} → RegisterLaws → (cell : CellMeaning C) (purchase : Purchase) (ksn : Serial) (frame : List ℕ) (old new : TerminalOf C) → IsBegunUnder cell purchase ksn frame old new
    → AreLastFields (opened ksn purchase)
begun_fields laws cell purchase ksn frame old new is =
    let takes = is.begun.takes.takes in
    let serial : IsSerial (serial_of is.begun.set) = record { iksn_is = takes.set_is.iksn_is; counter_fits = (laws.fits is.begun.set.counter takes.usable).0 } in
    (subst IsSerial (sym is.ksn_is) serial, is.begun.purchase_is.amount_fits)

-- ---- one more number has begun

fits_begun : (t : ℕ) (lists : Lists) (ksn : Serial) (last : Last) → Fits lists t last → Fits (with_begun lists ksn) t last
fits_begun t lists ksn (Open number amount) fits = (Contains-append_left lists.begun (ksn ∷ []) number fits.0, fits.1)
fits_begun t lists ksn (Approved number amount) fits = record { awaited = record { asked = fits.awaited.asked; not_back = fits.awaited.not_back; owned = fits.awaited.owned }; replied = fits.replied }
fits_begun t lists ksn (Declined number why) fits = fits
fits_begun t lists ksn (Undone number) fits = fits

if_fits_begun : (t : ℕ) (lists : Lists) (ksn : Serial) (last : Option Last) → IfSome last (Fits lists t) → IfSome last (Fits (with_begun lists ksn) t)
if_fits_begun t lists ksn None fits = tt
if_fits_begun t lists ksn (Some last) fits = fits_begun t lists ksn last fits

book_begun : {C B : Type 0} (book : CellMeaning B) (t : ℕ) (lists : Lists) (ksn : Serial) (till : TillOf C B) → BookHolds book lists t till → BookHolds book (with_begun lists ksn) t till
book_begun book t lists ksn till holds = record {
  honest = holds.honest;
  runs = λ last runs. let was = holds.runs last runs in (was.0, if_fits_begun t lists ksn last was.1);
  only = holds.only;
  found = λ last fields found. fits_begun t lists ksn last (holds.found last fields found);
}

module _ {C B J I : Type 0} (laws : CallLaws) (m : Meanings C B J I) (t : ℕ) where
  -- registers from which one more number is taken
  pub takes_on : (lists : Lists) (set left : RegisterSet) (key : List ℕ) → TakesNumber set key left → SetHolds lists t set → SetHolds lists t left
  takes_on lists set left key takes holds = holds_left laws.registers (Contains lists.begun) (Contains lists.begun) lists.owners t set left key takes (λ ksn has. inl has) holds

  -- a terminal that goes on
  pub terminal_goes : (lists : Lists) (old new : TerminalOf C) → TerminalHas m.cell (RegistersHold lists t) old → Goes m.cell old new → TerminalHas m.cell (RegistersHold lists t) new
  terminal_goes lists old new has goes = goes_has laws.registers m.cell (RegistersHold lists t) old new (takes_on lists) has goes

  -- registers from which a purchase takes its number
  pub takes_begun : (lists : Lists) (set left : RegisterSet) (key : List ℕ) (ksn : Serial) → TakesNumber set key left → ksn ≡ serial_of set → SetHolds lists t set → SetHolds (with_begun lists ksn) t left
  takes_begun lists set left key ksn takes number holds =
      holds_left laws.registers (Contains lists.begun) (Contains (lists.begun ++ ksn ∷ [])) lists.owners t set left key takes (λ other has. elim (Contains-append_cases lists.begun (ksn ∷ []) other has) [
        | inl before ↦ inl before
        | inr here ↦ inr (subst (λ it. IsBehind it left) (sym (the_only ksn other here ∙ number)) (taken_behind laws.registers set left key takes))
      ]) holds

  -- the number that a purchase takes has not begun before
  pub is_fresh : (lists : Lists) (set : RegisterSet) (left : RegisterSet) (key : List ℕ) (ksn : Serial) → TakesNumber set key left → ksn ≡ serial_of set → SetHolds lists t set → ¬ Contains lists.begun ksn
  is_fresh lists set left key ksn takes number holds has =
      let owned : IsOwner lists.owners ksn.iksn t = subst (λ (it : Serial). IsOwner lists.owners it.iksn t) (sym number) holds.owned in
      is_new set ksn takes.set_is (holds.behind ksn has owned) number

  -- a call after which the till goes on as it was, or is stopped
  goes_on : (lists : Lists) (old new : TillOf C B) → TillHolds m lists t old → TerminalHas m.cell (RegistersHold lists t) new.terminal → (m.book.state_of new.book).honest
      → ((kept : Kept) → (m.book.state_of new.book).found kept → (m.book.state_of old.book).found kept) → (new.state ≡ old.state) ⊎ (new.state ≡ Stopped)
      → ((ksn : Serial) (amount : ℕ) (pending : Pending) → new.state ≡ Running (Some (Open ksn amount)) → IsPending new.terminal.state pending → pending.ksn ≡ ksn → IsAwaited lists t ksn amount)
      → TillHolds m lists t new
  goes_on lists old new holds terminal honest fewer state waits = record {
    terminal = terminal;
    book = book_stays laws.reading m.book t lists old new holds.book honest fewer state;
    waits = waits;
    entered = λ ksn amount approved. elim state [
      | inl same ↦ holds.entered ksn amount (sym same ∙ approved)
      | inr stopped ↦ absurd (stopped_is_not_running new.state (Some (Approved ksn amount)) stopped approved)
    ];
    known = λ ksn amount asked owned. elim (holds.known ksn amount asked owned) [
      | inl settled ↦ inl settled
      | inr doubt ↦ inr (doubt_stays laws.reading m.book t ksn amount old new doubt fewer state)
    ];
  }

  -- its book stays
  with_same_book : (lists : Lists) (old new : TillOf C B) → TillHolds m lists t old → TerminalHas m.cell (RegistersHold lists t) new.terminal → SameBook old new
      → ((ksn : Serial) (amount : ℕ) (pending : Pending) → new.state ≡ Running (Some (Open ksn amount)) → IsPending new.terminal.state pending → pending.ksn ≡ ksn → IsAwaited lists t ksn amount)
      → TillHolds m lists t new
  with_same_book lists old new holds terminal same waits =
      goes_on lists old new holds terminal (subst (λ it. (m.book.state_of it).honest) (sym same.book_is) holds.book.honest)
      (λ kept found. subst (λ it. (m.book.state_of it).found kept) same.book_is found) (inl same.state_is) waits

  pub stays : (lists : Lists) (old new : TillOf C B) → TillHolds m lists t old → new ≡ old → TillHolds m lists t new
  stays lists old new holds same = subst (TillHolds m lists t) (sym same) holds

  -- ---- a purchase does not begin

  -- where its number is lost, that has begun, and nothing was sent
  pub lost : (purchase : Purchase) (lists : Lists) (old new : TillOf C B) (why : _) → ListsHold lists t → TillHolds m lists t old → (is : NumberIsLost m.cell m.book purchase old new why) → TillHolds m (with_begun lists is.ksn) t new
  lost purchase lists old new why all holds is =
      let it = is.terminal.begun in
      let after = with_begun lists is.ksn in
      let set : SetHolds lists t it.set = subst (StateHas (RegistersHold lists t)) it.takes.had holds.terminal.state in
      let fresh = is_fresh lists it.set it.left it.key is.ksn it.takes.takes is.terminal.ksn_is set in
      record {
        terminal = takes_has laws.registers m.cell (RegistersHold lists t) (RegistersHold after t) old.terminal new.terminal (request_takes m.cell old.terminal new.terminal purchase is.frame it) holds.terminal
            (takes_begun lists it.set it.left it.key is.ksn it.takes.takes is.terminal.ksn_is);
        book = book_lost laws.reading m.book t after old new (opened is.ksn purchase) why (book_begun m.book t lists is.ksn old holds.book) is.not_kept.not_kept is.not_kept.stopped
            (begun_fields laws.registers m.cell purchase is.ksn is.frame old.terminal new.terminal is.terminal)
            (Contains-push lists.begun is.ksn, λ other sold. fresh (all.asked is.ksn other (all.sold is.ksn other sold).awaited.asked));
        waits = λ ksn amount pending opens_on. absurd (stopped_is_not_running new.state (Some (Open ksn amount)) is.not_kept.stopped opens_on);
        entered = λ ksn amount approved. absurd (stopped_is_not_running new.state (Some (Approved ksn amount)) is.not_kept.stopped approved);
        known = λ ksn amount asked owned. elim (holds.known ksn amount asked owned) [
          | inl settled ↦ inl settled
          | inr doubt ↦ absurd (not_in_doubt_at_rest m.book ksn amount old is.was_at_rest doubt)
        ];
      }

  -- a terminal that refuses to begin
  begin_fails : (lists : Lists) (why : TermFault) (old new : TillOf C B) → TillHolds m lists t old → IsAtRest old.state → BeginRefused m.cell old.terminal new.terminal why → SameBook old new → TillHolds m lists t new
  begin_fails lists why old new holds rest is same =
      with_same_book lists old new holds (terminal_goes lists old.terminal new.terminal holds.terminal (begin_goes m.cell old.terminal new.terminal why is)) same
      (λ ksn amount pending opens_on. absurd (not_open_at_rest old.state ksn amount rest (sym same.state_is ∙ opens_on)))

  -- where its number is not lost, nothing begins
  pub begin_refused_so : (purchase : Purchase) (lists : Lists) (old new : TillOf C B) (why : TillFault) → ((store : _) → why ≢ fault.Store store) → TillHolds m lists t old → TillBeginRefused m.cell m.book purchase old new why → TillHolds m lists t new
  begin_refused_so purchase lists old new fault.Stopped kept holds is = stays lists old new holds is.1
  begin_refused_so purchase lists old new fault.Open kept holds is = stays lists old new holds is.1
  begin_refused_so purchase lists old new fault.NothingOpen kept holds is = absurd is
  begin_refused_so purchase lists old new (fault.Terminal why) kept holds is = elim is.1 [
    | inl spent ↦ stays lists old new holds spent.2
    | inr refused ↦ begin_fails lists why old new holds is.0 refused.0 refused.1
  ]
  begin_refused_so purchase lists old new (fault.Store why) kept holds is = absurd (kept why refl)

  -- ---- a reversal does not go out

  reversal_pends : (reversed : Serial) (why : TermFault) (old new : TerminalOf C) (pending : Pending) → ReversalRefused m.cell reversed old new why → IsPending new.state pending → IsPending old.state pending
  reversal_pends reversed why old new pending is waits = elim (goes_subsides m.cell old new (reversal_goes m.cell old new reversed why is)) [
    | inl same ↦ still_pending old.state new.state pending same waits
    | inr idle ↦ absurd (idle pending waits)
  ]

  pub reverse_refused : (lists : Lists) (why : TillFault) (old new : TillOf C B) → TillHolds m lists t old → TillReverseRefused m.cell old new why → TillHolds m lists t new
  reverse_refused lists fault.Stopped old new holds is = stays lists old new holds is.1
  reverse_refused lists fault.NothingOpen old new holds is = stays lists old new holds is.1
  reverse_refused lists (fault.Terminal why) old new holds is =
      let refused = is.0.3 in
      with_same_book lists old new holds (terminal_goes lists old.terminal new.terminal holds.terminal (reversal_goes m.cell old.terminal new.terminal is.0.0 why refused)) is.1
      (λ ksn amount pending opens_on waits. holds.waits ksn amount pending (sym is.1.state_is ∙ opens_on) (reversal_pends is.0.0 why old.terminal new.terminal pending refused waits))
  reverse_refused lists fault.Open old new holds is = absurd is
  reverse_refused lists (fault.Store why) old new holds is = absurd is

  -- ---- arming

  pub terminal_armed : (lists : Lists) (old new : TillOf C B) → TillHolds m lists t old → IsTerminalArmed m.cell old new → TillHolds m lists t new
  terminal_armed lists old new holds is =
      with_same_book lists old new holds (terminal_goes lists old.terminal new.terminal holds.terminal (is_armed is.stays is.terminal)) is.same_book
      (λ ksn amount pending opens_on waits. holds.waits ksn amount pending (sym is.same_book.state_is ∙ opens_on) (still_pending old.terminal.state new.terminal.state pending is.terminal waits))

  pub book_armed : (lists : Lists) (old new : TillOf C B) → TillHolds m lists t old → IsBookArmed m.book old new → TillHolds m lists t new
  book_armed lists old new holds is =
      goes_on lists old new holds (terminal_goes lists old.terminal new.terminal holds.terminal (unmoved is.terminal)) (is.stays.honest.0 holds.book.honest)
      (λ kept found. (is.stays.found holds.book.honest kept).0 found) (inl is.state)
      (λ ksn amount pending opens_on waits. holds.waits ksn amount pending (sym is.state ∙ opens_on) (subst (λ it. IsPending it.state pending) is.terminal waits))

  -- ---- a load

  goes_loaded : (lists : Lists) (asked : Loading) (old new : TillOf C B) → TillHolds m lists t old → IsAtRest old.state → SameBook old new → GoesLoaded m.cell (IsOwner lists.owners asked.iksn t) asked old.terminal new.terminal → TillHolds m lists t new
  goes_loaded lists asked old new holds rest book goes =
      with_same_book lists old new holds
      (load_has laws.registers m.cell (RegistersHold lists t) (IsOwner lists.owners asked.iksn t) asked old.terminal new.terminal
      (λ owned it set may first has. holds_loaded (Contains lists.begun) lists.owners t asked it set owned may first has) holds.terminal goes) book
      (λ ksn amount pending opens_on. absurd (not_open_at_rest old.state ksn amount rest (sym book.state_is ∙ opens_on)))

  pub till_loaded : (lists : Lists) (asked : Loading) (old new : TillOf C B) → TillHolds m lists t old → IsOwner lists.owners asked.iksn t → IsTillLoaded m.cell asked old new → TillHolds m lists t new
  till_loaded lists asked old new holds owned is = goes_loaded lists asked old new holds is.was_at_rest is.same_book (is_loaded owned is.terminal)

  pub load_refused : (lists : Lists) (asked : Loading) (why : TillFault) (old new : TillOf C B) → TillHolds m lists t old → ((store : _) → why ≡ fault.Terminal (term_fault.Store store) → IsOwner lists.owners asked.iksn t)
      → TillLoadRefused m.cell asked old new why → TillHolds m lists t new
  load_refused lists asked fault.Stopped old new holds owned is = stays lists old new holds is.1
  load_refused lists asked fault.Open old new holds owned is = stays lists old new holds is.1
  load_refused lists asked fault.NothingOpen old new holds owned is = absurd is
  load_refused lists asked (fault.Terminal why) old new holds owned is =
      goes_loaded lists asked old new holds is.0 is.2 (load_goes m.cell old.terminal new.terminal (IsOwner lists.owners asked.iksn t) asked why (λ store why_is. owned store (ap fault.Terminal why_is)) is.1)
  load_refused lists asked (fault.Store why) old new holds owned is = absurd is
