-- While a purchase is open at a till, or may be once that is restarted, its registers used its number.
use Rattle.std.proofs.Common.{◌≡◌, ◌⊎◌, ℕ, List, Option, Some, None, Ok, Err, IfSome, inl, inr, sym, ap, subst, ◌∙◌, arith}
use Rattle.duk_regs.specs.Registers.{RegisterSet}
use Rattle.duk_store.specs.Cell.{Kept}
use Rattle.duk_term.specs.Begin.{IsBegunUnder, TakesNumber}
use Rattle.duk_term.specs.Load.{Loading}
use Rattle.duk_term.specs.Reversal.{HasUsed}
use Rattle.duk_term.specs.Terminal.{serial_of}
use Rattle.duk_term.specs.declared.purchase.Purchase.{Purchase}
use Rattle.duk_term.specs.declared.state.Pending.{Pending}
use Rattle.duk_term.specs.declared.state.State.{State}
use Rattle.duk_term.specs.declared.state.State.TheVariants.{Empty, Loaded, Stopped}
use Rattle.duk_till.specs.Begin.{TillBeginRefused}
use Rattle.duk_till.specs.Image.{IsLastBody, kept_of}
use Rattle.duk_till.specs.Last.{AreLastFields}
use Rattle.duk_till.specs.Lifetime.{ArmBook, ArmTerminal, Begin, Call, IsCalled, Load, Reverse, Stop}
use Rattle.duk_till.specs.Load.{TillLoadRefused}
use Rattle.duk_till.specs.Till.{IsAtRest, SameBook, TillOf}
use Rattle.duk_till.specs.declared.fault.TillFault.{TillFault}
use Rattle.duk_till.specs.declared.fault.TillFault.TheVariants as fault
use Rattle.duk_term.specs.declared.fault.TermFault.TheVariants as term_fault
use Rattle.duk_till.specs.declared.last.Last.{Last}
use Rattle.duk_till.specs.declared.last.Last.TheVariants.{Open}
use Rattle.duk_tree.specs.Serial.{Serial}
use Rattle.duk_books.specs.Books.{BooksOf, Meanings}
use Rattle.duk_stations.specs.Places.{ChangesOnly, IsAt}
use Rattle.duk_books.specs.Completed.{MayBeOpen}
use Rattle.duk_books.specs.First.{IsFirst, IsNewTill}
use Rattle.duk_books.specs.Load.{TakesLoad}
use Rattle.duk_books.specs.NoUsedKey.{IfKept, IfLoaded, InEachTill, OwnsAboveUsed}
use Rattle.duk_books.specs.Reached.{Reached}
use Rattle.duk_books.specs.WayOut.{OpenNumbersAreUsed}
use Rattle.duk_books.specs.declared.outcome.Outcome.{Outcome}
use Rattle.duk_books.specs.declared.outcome.Outcome.TheVariants as came
use Rattle.duk_books.specs.inner.Known.{BookLaws, OneReading}
use Rattle.duk_books.proofs.accepted.ComesToBeOpen.{IsLasting, IsNoBegin, Opens, called_open, none_is_no_body, stays_open, with_same_book}
use Rattle.duk_books.proofs.accepted.EndsOnce.{PurchasesHold, first_hold, first_open, hold_after}
use Rattle.duk_books.proofs.agreement.Agreement.{new_at}
use Rattle.duk_books.proofs.agreement.BooksHold.{lists_of}
use Rattle.duk_stations.proofs.PlacesInLists.{after_at, before_at}
use Rattle.duk_books.proofs.agreement.Facts.{Lists}
use Rattle.duk_stations.proofs.Numbers.{above_taken}
use Rattle.duk_stations.specs.Registers.{RegisterLaws}
use Rattle.duk_stations.specs.inner.Moves.{GoesOn, is_loaded}
use Rattle.duk_stations.proofs.Terminals.{KeptHas, OfRegisters, StateHas, TerminalHas, begin_goes, goes_on_has, load_has, new_has, request_takes, reversal_takes, takes_has, terminal_as}
use Rattle.duk_books.proofs.agreement.Tills.{BookHolds, one_last, same_last}
use Rattle.duk_books.proofs.moves.ReachedByMoves.{reached_all}
use Rattle.duk_books.proofs.moves.StepChanges.{Change, IsQuiet, IsTelling, answered, host, load, move_change, nothing, quiet, reverse, send, tell, unanswered}
use Rattle.duk_books.proofs.moves.TillMoves.{IsMove, call_goes, load_fails, telling_is_move}

-- ---- what may be open has used its number

-- registers used each of these numbers; where there are none, there is no such number
abbrev pub UsedBy : (Serial → Type 0) → OfRegisters
UsedBy Q None = (ksn : Serial) → ¬ Q ksn
UsedBy Q (Some set) = (ksn : Serial) → Q ksn → HasUsed set ksn

fewer : (P Q : Serial → Type 0) → ((ksn : Serial) → Q ksn → P ksn) → (it : Option RegisterSet) → UsedBy P it → UsedBy Q it
fewer P Q follows None none = λ ksn is. none ksn (follows ksn is)
fewer P Q follows (Some set) used = λ ksn is. used ksn (follows ksn is)

-- a number that was used stays so
still_used : RegisterLaws → (set left : RegisterSet) (key : List ℕ) (ksn : Serial) → TakesNumber set key left → HasUsed set ksn → HasUsed left ksn
still_used laws set left key ksn takes used = record {
  same_iksn = used.same_iksn ∙ sym takes.taken.same_iksn;
  usable = used.usable;
  below = omega (arith, used.below, above_taken laws set left key takes);
}

-- and one that is taken is used
taken_used : RegisterLaws → (set left : RegisterSet) (key : List ℕ) (ksn : Serial) → TakesNumber set key left → ksn ≡ serial_of set → HasUsed left ksn
taken_used laws set left key ksn takes is =
    subst (λ (it : Serial). HasUsed left it) (sym is) (record { same_iksn = sym takes.taken.same_iksn; usable = takes.usable; below = above_taken laws set left key takes })

pub same_set : (state : State) (one other : RegisterSet) (waits awaits : Option Pending) → state ≡ Loaded one waits → state ≡ Loaded other awaits → one ≡ other
same_set state one other waits awaits is also = cc

-- ---- nothing is open at rest

-- a book that keeps this last purchase alone finds it
pub kept_open : OneReading → (last : Option Last) (ksn : Serial) (amount : ℕ) (body : List ℕ) → IfSome last AreLastFields → IsLastBody body (Open ksn amount) → Some body ≡ kept_of last → last ≡ Some (Open ksn amount)
kept_open reading None ksn amount body fields is same = absurd (none_is_no_body body same)
kept_open reading (Some last) ksn amount body fields is same = ap Some (one_last reading last (Open ksn amount) fields is.fields (sym same ∙ ap Some is.laid_out))

closed_at_rest : {C B J I : Type 0} (m : Meanings C B J I) → OneReading → (lists : Lists) (t : ℕ) (till : TillOf C B) → BookHolds m.book lists t till → IsAtRest till.state → (ksn : Serial) → ¬ MayBeOpen m till ksn
closed_at_rest m reading lists t till holds rest ksn (inl is) = rest.closed ksn is.0 (same_last till.state rest.last (Some (Open ksn is.0)) rest.runs is.1)
closed_at_rest m reading lists t till holds rest ksn (inr found) =
    rest.closed ksn found.amount (kept_open reading rest.last ksn found.amount found.body (holds.runs rest.last rest.runs).0 found.is_body (holds.only rest.last rest.runs (Some found.body) found.found))

-- ---- each call

abbrev pub UsesOpen : {C B J I : Type 0} → Meanings C B J I → TillOf C B → Type 0
UsesOpen m till = TerminalHas m.cell (UsedBy (MayBeOpen m till)) till.terminal

quiet_lasts : (call : Call) → IsQuiet call → IsLasting call
quiet_lasts Stop is = is
quiet_lasts _ is = tt

telling_lasts : (answers : _) (call : Call) → IsTelling answers call → IsLasting call × IsNoBegin call
telling_lasts answers Stop is = absurd is
telling_lasts answers (Begin purchase result) is = absurd is
telling_lasts answers _ is = (tt, tt)

module _ {C B J I : Type 0} (m : Meanings C B J I) (laws : BookLaws m) (lists : Lists) (t : ℕ) (old new : TillOf C B) (book : BookHolds m.book lists t old) (was : UsesOpen m old) where
  abbrev Before : OfRegisters
  Before = UsedBy (MayBeOpen m old)

  abbrev After : OfRegisters
  After = UsedBy (MayBeOpen m new)

  -- nothing more is open
  no_more : ((ksn : Serial) → MayBeOpen m new ksn → MayBeOpen m old ksn) → TerminalHas m.cell Before new.terminal → UsesOpen m new
  no_more follows has = terminal_as m.cell Before After new.terminal (fewer (MayBeOpen m old) (MayBeOpen m new) follows) has

  takes_on : (set left : RegisterSet) (key : List ℕ) → TakesNumber set key left → Before (Some set) → Before (Some left)
  takes_on set left key is used = λ ksn is_open. still_used laws.calls.registers set left key ksn is (used ksn is_open)

  terminal_goes : GoesOn m.cell old.terminal new.terminal → TerminalHas m.cell Before new.terminal
  terminal_goes goes = goes_on_has laws.calls.registers m.cell Before old.terminal new.terminal takes_on was goes

  called : (call : Call) → IsMove call → IsCalled m.cell m.book call old new → TerminalHas m.cell Before new.terminal
  called call moves is = terminal_goes (call_goes m.cell m.book old new call moves is)

  same : new ≡ old → UsesOpen m new
  same is = subst (λ (it : TillOf C B). UsesOpen m it) (sym is) was

  same_book : SameBook old new → (ksn : Serial) → MayBeOpen m new ksn → MayBeOpen m old ksn
  same_book is = with_same_book m laws.calls.registers laws.calls.reading old new book.honest is

  -- a purchase takes its number
  begins : (purchase : Purchase) (ksn : Serial) (frame : List ℕ) → IsBegunUnder m.cell purchase ksn frame old.terminal new.terminal → ((ksn : Serial) → MayBeOpen m new ksn → MayBeOpen m old ksn ⊎ Opens old.terminal ksn) → UsesOpen m new
  begins purchase ksn frame is comes =
      let it = is.begun in
      takes_has laws.calls.registers m.cell Before After old.terminal new.terminal (request_takes m.cell old.terminal new.terminal purchase frame it) was (λ used other is_open. elim (comes other is_open) [
        | inl before ↦ still_used laws.calls.registers it.set it.left it.key other it.takes.takes (used other before)
        | inr opens ↦ taken_used laws.calls.registers it.set it.left it.key other it.takes.takes
            (opens.number_is ∙ ap serial_of (same_set old.terminal.state opens.set it.set opens.pending it.takes.pending opens.had it.takes.had))
      ])

  comes_open : (call : Call) → IsLasting call → IsCalled m.cell m.book call old new → (ksn : Serial) → MayBeOpen m new ksn → MayBeOpen m old ksn ⊎ Opens old.terminal ksn
  comes_open call lasts is = called_open m laws.calls.registers laws.calls.reading old new book.honest call lasts is

  begin_fails : (purchase : Purchase) (why : TillFault) → TillBeginRefused m.cell m.book purchase old new why → UsesOpen m new
  begin_fails purchase fault.Stopped is = same is.1
  begin_fails purchase fault.Open is = same is.1
  begin_fails purchase fault.NothingOpen is = absurd is
  begin_fails purchase (fault.Terminal why) is = elim is.1 [
    | inl spent ↦ same spent.2
    | inr refused ↦ no_more (same_book refused.1) (terminal_goes (inl (begin_goes m.cell old.terminal new.terminal why refused.0)))
  ]
  begin_fails purchase (fault.Store why) is = begins purchase is.ksn is.frame is.terminal (comes_open (Begin purchase (Err (fault.Store why))) tt is)

  no_begin : (call : Call) → IsLasting call → IsNoBegin call → IsCalled m.cell m.book call old new → TerminalHas m.cell Before new.terminal → UsesOpen m new
  no_begin call lasts other is has = no_more (stays_open m laws.calls.registers laws.calls.reading old new book.honest call lasts other is) has

  pub quiet_uses : (call : Call) → IsQuiet call → IsCalled m.cell m.book call old new → UsesOpen m new
  quiet_uses (Begin purchase (Err why)) is_quiet is = begin_fails purchase why is
  quiet_uses (Reverse (Err why)) is_quiet is = no_begin (Reverse (Err why)) tt tt is (called (Reverse (Err why)) tt is)
  quiet_uses (ArmTerminal steps) is_quiet is = no_begin (ArmTerminal steps) tt tt is (called (ArmTerminal steps) tt is)
  quiet_uses (ArmBook steps) is_quiet is = no_begin (ArmBook steps) tt tt is (called (ArmBook steps) tt is)
  quiet_uses _ is_quiet is = absurd is_quiet

  pub tell_uses : (answers : _) (call : Call) → IsTelling answers call → IsCalled m.cell m.book call old new → UsesOpen m new
  tell_uses answers call telling is =
      let lasts = telling_lasts answers call telling in
      no_begin call lasts.0 lasts.1 is (called call (telling_is_move answers call telling) is)

  pub send_uses : (purchase : Purchase) (it : _) → IsCalled m.cell m.book (Begin purchase (Ok it)) old new → UsesOpen m new
  send_uses purchase it is = begins purchase it.ksn it.frame.items is.terminal (comes_open (Begin purchase (Ok it)) tt is)

  pub reverse_uses : (it : _) → IsCalled m.cell m.book (Reverse (Ok it)) old new → UsesOpen m new
  reverse_uses it is =
      let begins = is.terminal in
      takes_has laws.calls.registers m.cell Before After old.terminal new.terminal (reversal_takes m.cell old.terminal new.terminal is.reversed it.ksn it.frame.items begins) was
      (λ used other is_open. still_used laws.calls.registers begins.set begins.left begins.key other begins.takes.takes (used other (same_book is.same_book other is_open)))

  closed : IsAtRest old.state → (ksn : Serial) → ¬ MayBeOpen m old ksn
  closed rest = closed_at_rest m laws.calls.reading lists t old book rest

  pub load_uses : (asked : Loading) (outcome : Outcome) → TakesLoad m.cell m.book t asked outcome old new → UsesOpen m new
  load_uses asked (came.Loaded u iksn) is =
      no_begin (Load asked (Ok tt)) tt tt is.2 (load_has laws.calls.registers m.cell Before (Unit {0}) asked old.terminal new.terminal
      (λ owned state set may first has other is_open. absurd (closed is.2.was_at_rest other is_open)) was (is_loaded tt is.2.terminal))
  load_uses asked (came.TillFaulted u why) is =
      let at_rest = λ (store : _) (same_why : why ≡ fault.Terminal (term_fault.Store store)). (subst (λ (it : TillFault). TillLoadRefused m.cell asked old new it) same_why is.1).0 in
      no_begin (Load asked (Err why)) tt tt is.1 (load_has laws.calls.registers m.cell Before (IsAtRest old.state) asked old.terminal new.terminal
      (λ rest state set may first has other is_open. absurd (closed rest other is_open)) was (load_fails m.cell m.book old new (IsAtRest old.state) asked why at_rest is.1))
  load_uses asked _ is = absurd is

-- ---- each move

abbrev pub AllUse : {C B J I : Type 0} → Meanings C B J I → List (TillOf C B) → Type 0
AllUse m tills = (t : ℕ) (till : TillOf _ _) → IsAt tills t till → UsesOpen m till

module _ {C B J I : Type 0} (m : Meanings C B J I) (laws : BookLaws m) (old : BooksOf C B J I) (safe : PurchasesHold m old) (uses : AllUse m old.tills) where
  tills_use : (tills : List (TillOf C B)) (t : ℕ) (P : TillOf C B → TillOf C B → Type 0) (change : ChangesOnly t P old.tills tills) → UsesOpen m change.after → AllUse m tills
  tills_use tills t P change now u till at = elim (after_at t P old.tills tills change u till at) [
    | inl here ↦ subst (λ (it : TillOf C B). UsesOpen m it) (sym here.1) now
    | inr apart ↦ uses u till apart.1
  ]

  book_at : (tills : List (TillOf C B)) (t : ℕ) (P : TillOf C B → TillOf C B → Type 0) (change : ChangesOnly t P old.tills tills) → BookHolds m.book (lists_of old safe.holds.0) t change.before
  book_at tills t P change = (safe.holds.1.tills t change.before (before_at t P old.tills tills change)).book

  was_at : (tills : List (TillOf C B)) (t : ℕ) (P : TillOf C B → TillOf C B → Type 0) (change : ChangesOnly t P old.tills tills) → UsesOpen m change.before
  was_at tills t P change = uses t change.before (before_at t P old.tills tills change)

  same_tills : (new : BooksOf C B J I) → new.tills ≡ old.tills → AllUse m new.tills
  same_tills new same t till at = uses t till (subst (λ tills. IsAt tills t till) same at)

  use_after : (new : BooksOf C B J I) → Change m old new → AllUse m new.tills
  use_after new (nothing same) = same_tills new (ap (λ books. books.tills) same)
  use_after new (quiet t call is change rest) =
      tills_use new.tills t _ change (quiet_uses m laws (lists_of old safe.holds.0) t change.before change.after (book_at new.tills t _ change) (was_at new.tills t _ change) call is change.changed)
  use_after new (load t iksn outcome is) =
      tills_use new.tills t _ is.till (load_uses m laws (lists_of old safe.holds.0) t is.till.before is.till.after (book_at new.tills t _ is.till) (was_at new.tills t _ is.till) is.asked outcome is.till.changed)
  use_after new (send t purchase it change rest) =
      tills_use new.tills t _ change (send_uses m laws (lists_of old safe.holds.0) t change.before change.after (book_at new.tills t _ change) (was_at new.tills t _ change) purchase it change.changed)
  use_after new (reverse t it sent is_reversal change rest) =
      tills_use new.tills t _ change (reverse_uses m laws (lists_of old safe.holds.0) t change.before change.after (book_at new.tills t _ change) (was_at new.tills t _ change) it change.changed)
  use_after new (tell t call telling change takes rest) =
      tills_use new.tills t _ change (tell_uses m laws (lists_of old safe.holds.0) t change.before change.after (book_at new.tills t _ change) (was_at new.tills t _ change) old.answers call telling change.changed)
  use_after new (answered frame answer sent is rest) = same_tills new (ap (λ books. books.tills) rest)
  use_after new (unanswered frame answers why sent is rest) = same_tills new (ap (λ books. books.tills) rest)
  use_after new (host touches rest) = same_tills new (ap (λ books. books.tills) rest)

-- ---- in all that is reached

pub record OpenHolds {C B J I : Type 0} (m : Meanings C B J I) (books : BooksOf C B J I) : Type 0 where
  pub purchases : PurchasesHold m books
  pub uses : AllUse m books.tills

new_uses : {C B J I : Type 0} (m : Meanings C B J I) (till : TillOf C B) → IsNewTill m till → UsesOpen m till
new_uses m till made =
    new_has m.cell (UsedBy (MayBeOpen m till)) till.terminal made.cell.honest (λ kept found. (made.cell.finds kept).0 found) made.terminal_stopped (λ ksn. first_open m till ksn made)

first_holds : {C B J I : Type 0} (m : Meanings C B J I) (books : BooksOf C B J I) → IsFirst m books → OpenHolds m books
first_holds m books is = record {
  purchases = first_hold m books is;
  uses = λ t till at. new_uses m till (new_at m books is books.tills is.tills t till at);
}

pub reached_open : {C B J I : Type 0} (m : Meanings C B J I) → BookLaws m → (books : BooksOf C B J I) → Reached m books → OpenHolds m books
reached_open {C} {B} {J} {I} m laws books reached =
    reached_all m (λ (it : BooksOf C B J I). OpenHolds m it) (first_holds m)
    (λ old new was moves. let change = move_change m old new moves in record { purchases = hold_after m laws old was.purchases new change; uses = use_after m laws old was.purchases was.uses new change }) books reached

-- ---- seen from without

if_loaded : (Q : Serial → Type 0) (ksn : Serial) (state : State) → Q ksn → StateHas (UsedBy Q) state → IfLoaded (λ set. HasUsed set ksn) state
if_loaded Q ksn Stopped is has = tt
if_loaded Q ksn Empty is has = tt
if_loaded Q ksn (Loaded set pending) is has = has ksn is

if_kept : (P : RegisterSet → Type 0) (Q : Serial → Type 0) (ksn : Serial) (kept : Kept) → Q ksn → KeptHas (UsedBy Q) kept → IfKept P kept → IfKept (λ set. HasUsed set ksn) kept
if_kept P Q ksn None is has image = tt
if_kept P Q ksn (Some body) is has image = record { is_body = image.is_body; keeps = image.keeps; holds = has.holds ksn is }

pub open_is_used : {C B J I : Type 0} (m : Meanings C B J I) → BookLaws m → (books : BooksOf C B J I) → Reached m books
    → ((books : BooksOf C B J I) → Reached m books → InEachTill m (OwnsAboveUsed books.host.keys books.requests books.owners) books.tills) → OpenNumbersAreUsed m books.tills
open_is_used m laws books reached images t till ksn at is_open =
    let has = (reached_open m laws books reached).uses t till at in
    record {
      registers = if_loaded (MayBeOpen m till) ksn till.terminal.state is_open has.state;
      images = λ kept found. if_kept (OwnsAboveUsed books.host.keys books.requests books.owners t) (MayBeOpen m till) ksn kept is_open (has.kept kept found) ((images books reached t till at).images kept found);
    }
