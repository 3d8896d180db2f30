-- Both cells of a till that is not stopped run.
use Rattle.std.proofs.Common.{◌≡◌, ◌⊎◌, ℕ, true, List, Ok, Err, inl, inr, sym, ap, subst, ◌∙◌}
use Rattle.duk_store.specs.Cell.{CellMeaning}
use Rattle.duk_store.specs.StoreState.{StaysButCalm}
use Rattle.duk_term.specs.Begin.{BeginRefused}
use Rattle.duk_term.specs.Load.{LoadRefused, Loading}
use Rattle.duk_term.specs.Reply.{completed}
use Rattle.duk_term.specs.Restart.{TerminalRestartRefused}
use Rattle.duk_term.specs.Reversal.{ReversalRefused}
use Rattle.duk_term.specs.Terminal.{TerminalOf}
use Rattle.duk_term.specs.declared.answer.Answer.TheVariants as answer
use Rattle.duk_term.specs.declared.answer.ReversalAnswer.TheVariants as reversal
use Rattle.duk_term.specs.declared.fault.TermFault.{TermFault}
use Rattle.duk_term.specs.declared.fault.TermFault.TheVariants as term_fault
use Rattle.duk_term.specs.declared.purchase.Purchase.{Purchase}
use Rattle.duk_term.specs.declared.state.State.TheVariants as term_state
use Rattle.duk_till.specs.Begin.{TillBeginRefused}
use Rattle.duk_till.specs.Lifetime.{ArmBook, ArmTerminal, Begin, Call, IsCalled, Load, Reply, Restart, Reverse, ReversalReply, Stop}
use Rattle.duk_till.specs.Load.{TillLoadRefused}
use Rattle.duk_till.specs.Reply.{TillReplyRefused}
use Rattle.duk_till.specs.Restart.{TillRestartRefused}
use Rattle.duk_till.specs.Reversal.{TillReversalReplyRefused, TillReverseRefused}
use Rattle.duk_till.specs.Till.{SameBook, TillOf}
use Rattle.duk_till.specs.declared.fault.TillFault.{TillFault}
use Rattle.duk_till.specs.declared.fault.TillFault.TheVariants as fault
use Rattle.duk_till.specs.declared.state.TillState.TheVariants.{Stopped}
use Rattle.duk_tree.specs.Serial.{Serial}
use Rattle.duk_books.specs.Books.{BooksOf, Meanings}
use Rattle.duk_stations.specs.Places.{ChangesOnly, IsAt}
use Rattle.duk_books.specs.Load.{TakesLoad}
use Rattle.duk_books.specs.Reached.{Reached}
use Rattle.duk_books.specs.declared.outcome.Outcome.{Outcome}
use Rattle.duk_books.specs.declared.outcome.Outcome.TheVariants as came
use Rattle.duk_books.proofs.agreement.Agreement.{new_at}
use Rattle.duk_stations.proofs.PlacesInLists.{after_at, before_at}
use Rattle.duk_books.proofs.moves.ReachedByMoves.{reached_all}
use Rattle.duk_books.proofs.moves.StepChanges.{Change, answered, host, load, move_change, nothing, quiet, reverse, send, tell, unanswered}

-- ---- the terminal's cell

abbrev pub TerminalRuns : {C : Type 0} → CellMeaning C → TerminalOf C → Type 0
TerminalRuns cell terminal = (terminal.state ≡ term_state.Stopped) ⊎ ((cell.state_of terminal.cell).running ≡ true)

module _ {C : Type 0} (cell : CellMeaning C) (old new : TerminalOf C) (runs : TerminalRuns cell old) where
  same_terminal : new ≡ old → TerminalRuns cell new
  same_terminal is = subst (λ (it : TerminalOf C). TerminalRuns cell it) (sym is) runs

  completes : new ≡ record { cell = old.cell; state = completed old.state } → TerminalRuns cell new
  completes is = subst (λ (it : TerminalOf C). TerminalRuns cell it) (sym is) (elim runs [
    | inl stopped ↦ inl (ap completed stopped)
    | inr running ↦ inr running
  ])

  terminal_armed : StaysButCalm (cell.state_of old.cell) (cell.state_of new.cell) → new.state ≡ old.state → TerminalRuns cell new
  terminal_armed stays state = elim runs [
    | inl stopped ↦ inl (state ∙ stopped)
    | inr running ↦ inr (stays.running ∙ running)
  ]

  begin_refused : (why : TermFault) → BeginRefused cell old new why → TerminalRuns cell new
  begin_refused term_fault.Stopped is = same_terminal is.1
  begin_refused term_fault.NotLoaded is = same_terminal is.1
  begin_refused term_fault.Spent is = same_terminal is.1
  begin_refused (term_fault.Store why) is = inl is.stops.stopped
  begin_refused _ is = absurd is

  reversal_refused : (reversed : Serial) (why : TermFault) → ReversalRefused cell reversed old new why → TerminalRuns cell new
  reversal_refused reversed term_fault.Stopped is = same_terminal is.1
  reversal_refused reversed term_fault.NotLoaded is = same_terminal is.1
  reversal_refused reversed term_fault.Spent is = same_terminal is.1
  reversal_refused reversed term_fault.NotMine is = same_terminal is.1
  reversal_refused reversed (term_fault.Store why) is = inl is.stopped.stops.stopped
  reversal_refused reversed _ is = absurd is

  load_refused : (asked : Loading) (why : TermFault) → LoadRefused cell asked old new why → TerminalRuns cell new
  load_refused asked term_fault.Stopped is = same_terminal is.1
  load_refused asked term_fault.IksnSpent is = same_terminal is.1
  load_refused asked term_fault.LoadsSpent is = same_terminal is.2
  load_refused asked (term_fault.Block why) is = same_terminal is.2
  load_refused asked term_fault.WrongUse is = same_terminal is.2
  load_refused asked (term_fault.Store why) is = inl is.stops.stopped
  load_refused asked _ is = absurd is

restart_refused : {C : Type 0} (cell : CellMeaning C) (old new : TerminalOf C) (why : TermFault) → TerminalRestartRefused cell old new why → TerminalRuns cell new
restart_refused cell old new (term_fault.Store why) is = inl is.stopped
restart_refused cell old new _ is = absurd is

-- ---- both cells

pub record CellsRun {C B : Type 0} (cell : CellMeaning C) (book : CellMeaning B) (till : TillOf C B) : Type 0 where
  pub of_terminal : TerminalRuns cell till.terminal
  pub of_book : (till.state ≡ Stopped) ⊎ ((book.state_of till.book).running ≡ true)

module _ {C B : Type 0} (cell : CellMeaning C) (book : CellMeaning B) (old new : TillOf C B) (runs : CellsRun cell book old) where
  abbrev Runs : Type 0
  Runs = CellsRun cell book new

  same_till : new ≡ old → Runs
  same_till is = subst (λ (it : TillOf C B). CellsRun cell book it) (sym is) runs

  -- the terminal does this, and the book stays
  with_book : SameBook old new → TerminalRuns cell new.terminal → Runs
  with_book same terminal = record {
    of_terminal = terminal;
    of_book = elim runs.of_book [
      | inl stopped ↦ inl (same.state_is ∙ stopped)
      | inr running ↦ inr (subst (λ it. (book.state_of it).running ≡ true) (sym same.book_is) running)
    ];
  }

  begin_fails : (purchase : Purchase) (why : TillFault) → TillBeginRefused cell book purchase old new why → Runs
  begin_fails purchase fault.Stopped is = same_till is.1
  begin_fails purchase fault.Open is = same_till is.1
  begin_fails purchase fault.NothingOpen is = absurd is
  begin_fails purchase (fault.Terminal why) is = elim is.1 [
    | inl spent ↦ same_till spent.2
    | inr refused ↦ with_book refused.1 (begin_refused cell old.terminal new.terminal runs.of_terminal why refused.0)
  ]
  begin_fails purchase (fault.Store why) is = record { of_terminal = inr is.terminal.begun.kept.settles.runs; of_book = inl is.not_kept.stopped }

  reverse_fails : (why : TillFault) → TillReverseRefused cell old new why → Runs
  reverse_fails fault.Stopped is = same_till is.1
  reverse_fails fault.NothingOpen is = same_till is.1
  reverse_fails (fault.Terminal why) is = with_book is.1 (reversal_refused cell old.terminal new.terminal runs.of_terminal is.0.0 why is.0.3)
  reverse_fails _ is = absurd is

  reply_fails : (bytes : List ℕ) (why : TillFault) → TillReplyRefused book bytes old new why → Runs
  reply_fails bytes fault.Stopped is = same_till is.1
  reply_fails bytes fault.Open is = absurd is
  reply_fails bytes fault.NothingOpen is = same_till is.1
  reply_fails bytes (fault.Terminal why) is = same_till is.1
  reply_fails bytes (fault.Store why) is = record { of_terminal = completes cell old.terminal new.terminal runs.of_terminal is.terminal; of_book = inl is.not_kept.stopped }

  reversal_reply_fails : (bytes : List ℕ) (why : TillFault) → TillReversalReplyRefused book bytes old new why → Runs
  reversal_reply_fails bytes fault.Stopped is = same_till is.1
  reversal_reply_fails bytes fault.Open is = absurd is
  reversal_reply_fails bytes fault.NothingOpen is = same_till is.1
  reversal_reply_fails bytes (fault.Terminal why) is = same_till is.1
  reversal_reply_fails bytes (fault.Store why) is = record { of_terminal = completes cell old.terminal new.terminal runs.of_terminal is.terminal; of_book = inl is.not_kept.stopped }

  restart_fails : (why : TillFault) → TillRestartRefused cell book old new why → Runs
  restart_fails (fault.Terminal why) is = record { of_terminal = restart_refused cell old.terminal new.terminal why is.0; of_book = inl is.2 }
  restart_fails (fault.Store why) is = record { of_terminal = inr is.0.cell.settles.runs; of_book = inl is.2 }
  restart_fails _ is = absurd is

  load_fails : (asked : Loading) (why : TillFault) → TillLoadRefused cell asked old new why → Runs
  load_fails asked fault.Stopped is = same_till is.1
  load_fails asked fault.Open is = same_till is.1
  load_fails asked (fault.Terminal why) is = with_book is.2 (load_refused cell old.terminal new.terminal runs.of_terminal asked why is.1)
  load_fails asked _ is = absurd is

  -- whatever the call is
  pub called : (call : Call) → IsCalled cell book call old new → Runs
  called (Begin purchase (Ok begun)) is = record { of_terminal = inr is.terminal.begun.kept.settles.runs; of_book = inr is.kept.settles.runs }
  called (Begin purchase (Err why)) is = begin_fails purchase why is
  called (Reply bytes (Ok (answer.Done code))) is = record { of_terminal = completes cell old.terminal new.terminal runs.of_terminal is.terminal; of_book = inr is.kept.settles.runs }
  called (Reply bytes (Ok (answer.Refused reason))) is = same_till is.same
  called (Reply bytes (Err why)) is = reply_fails bytes why is
  called (Reverse (Ok begun)) is = with_book is.same_book (inr is.terminal.kept.settles.runs)
  called (Reverse (Err why)) is = reverse_fails why is
  called (ReversalReply bytes (Ok (reversal.Done found))) is = record { of_terminal = completes cell old.terminal new.terminal runs.of_terminal is.terminal; of_book = inr is.kept.settles.runs }
  called (ReversalReply bytes (Ok (reversal.Refused reason))) is = same_till is.same
  called (ReversalReply bytes (Err why)) is = reversal_reply_fails bytes why is
  called (Restart (Ok told)) is = record { of_terminal = inr is.0.terminal.cell.settles.runs; of_book = inr is.0.found.cell.settles.runs }
  called (Restart (Err why)) is = restart_fails why is
  called (Load asked (Ok done)) is = with_book is.same_book (inr is.terminal.kept.settles.runs)
  called (Load asked (Err why)) is = load_fails asked why is
  called (ArmTerminal steps) is = with_book is.same_book (terminal_armed cell old.terminal new.terminal runs.of_terminal is.stays is.terminal)
  called (ArmBook steps) is = record {
    of_terminal = same_terminal cell old.terminal new.terminal runs.of_terminal is.terminal;
    of_book = elim runs.of_book [
      | inl stopped ↦ inl (is.state ∙ stopped)
      | inr running ↦ inr (is.stays.running ∙ running)
    ];
  }
  called Stop is = record { of_terminal = inl is.terminal_stopped; of_book = inl is.stopped }

  loads : (t : ℕ) (asked : Loading) (outcome : Outcome) → TakesLoad cell book t asked outcome old new → Runs
  loads t asked (came.Loaded u iksn) is = called (Load asked (Ok tt)) is.2
  loads t asked (came.TillFaulted u why) is = called (Load asked (Err why)) is.1
  loads t asked _ is = absurd is

-- ---- each move

abbrev pub AllRun : {C B J I : Type 0} → Meanings C B J I → List (TillOf C B) → Type 0
AllRun m tills = (t : ℕ) (till : TillOf _ _) → IsAt tills t till → CellsRun m.cell m.book till

module _ {C B J I : Type 0} (m : Meanings C B J I) (old : BooksOf C B J I) (runs : AllRun m old.tills) where
  one_changes : (tills : List (TillOf C B)) (t : ℕ) (P : TillOf C B → TillOf C B → Type 0) (change : ChangesOnly t P old.tills tills) → CellsRun m.cell m.book change.after → AllRun m tills
  one_changes tills t P change now u till at = elim (after_at t P old.tills tills change u till at) [
    | inl here ↦ subst (λ (it : TillOf C B). CellsRun m.cell m.book it) (sym here.1) now
    | inr apart ↦ runs u till apart.1
  ]

  one_called : (tills : List (TillOf C B)) (t : ℕ) (call : Call) → ChangesOnly t (IsCalled m.cell m.book call) old.tills tills → AllRun m tills
  one_called tills t call change =
      one_changes tills t _ change (called m.cell m.book change.before change.after (runs t change.before (before_at t _ old.tills tills change)) call change.changed)

  same_tills : (new : BooksOf C B J I) → new.tills ≡ old.tills → AllRun m new.tills
  same_tills new same t till at = runs t till (subst (λ tills. IsAt tills t till) same at)

  run_after : (new : BooksOf C B J I) → Change m old new → AllRun m new.tills
  run_after new (nothing same) = same_tills new (ap (λ (it : BooksOf C B J I). it.tills) same)
  run_after new (quiet t call is change rest) = one_called new.tills t call change
  run_after new (load t iksn outcome is) =
      one_changes new.tills t _ is.till (loads m.cell m.book is.till.before is.till.after (runs t is.till.before (before_at t _ old.tills new.tills is.till)) t is.asked outcome is.till.changed)
  run_after new (send t purchase it change rest) = one_called new.tills t (Begin purchase (Ok it)) change
  run_after new (reverse t it sent is_reversal change rest) = one_called new.tills t (Reverse (Ok it)) change
  run_after new (tell t call telling change takes rest) = one_called new.tills t call change
  run_after new (answered frame answer sent is rest) = same_tills new (ap (λ (it : BooksOf C B J I). it.tills) rest)
  run_after new (unanswered frame answers why sent is rest) = same_tills new (ap (λ (it : BooksOf C B J I). it.tills) rest)
  run_after new (host touches rest) = same_tills new (ap (λ (it : BooksOf C B J I). it.tills) rest)

-- all that is reached runs so
pub reached_runs : {C B J I : Type 0} (m : Meanings C B J I) (books : BooksOf C B J I) → Reached m books → AllRun m books.tills
reached_runs {C} {B} {J} {I} m books reached =
    reached_all m (λ (it : BooksOf C B J I). AllRun m it.tills)
    (λ first is t till at. let made = new_at m first is first.tills is.tills t till at in record { of_terminal = inl made.terminal_stopped; of_book = inl made.stopped })
    (λ old new was moves. run_after m old was new (move_change m old new moves)) books reached
