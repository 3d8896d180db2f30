-- What the calls of a till leave of the soundness and calm of its two cells, and which faults of these
-- they report.
use Rattle.std.proofs.Common.{◌≡◌, ℕ, List, Some, inl, inr}
use Rattle.duk_store.specs.Cell.{CellMeaning}
use Rattle.duk_store.specs.declared.fault.StoreFault.{StoreFault}
use Rattle.duk_term.specs.Load.{Loading}
use Rattle.duk_term.specs.declared.answer.Answer.{Answer}
use Rattle.duk_term.specs.declared.answer.Answer.TheVariants as answer
use Rattle.duk_term.specs.declared.answer.ReversalAnswer.{ReversalAnswer}
use Rattle.duk_term.specs.declared.answer.ReversalAnswer.TheVariants as reversal
use Rattle.duk_term.specs.declared.fault.TermFault.{TermFault}
use Rattle.duk_term.specs.declared.fault.TermFault.TheVariants as term_fault
use Rattle.duk_term.specs.declared.purchase.Purchase.{Purchase}
use Rattle.duk_term.specs.declared.state.State.{State}
use Rattle.duk_till.specs.Begin.{IsTillBegun, TillBeginRefused}
use Rattle.duk_till.specs.Image.{IsLastBody}
use Rattle.duk_till.specs.Lifetime.{IsBookArmed, IsTerminalArmed}
use Rattle.duk_till.specs.Load.{IsTillLoaded, TillLoadRefused}
use Rattle.duk_till.specs.Reply.{TellsOutcome, TillReplyRefused}
use Rattle.duk_till.specs.Restart.{BookRestartFailed, IsTillRestarted, TillRestartRefused}
use Rattle.duk_till.specs.Reversal.{IsTillReversing, TellsReversal, TillReversalReplyRefused, TillReverseRefused}
use Rattle.duk_till.specs.Till.{SameBook, TillOf}
use Rattle.duk_till.specs.declared.fault.TillFault.{TillFault}
use Rattle.duk_till.specs.declared.fault.TillFault.TheVariants as fault
use Rattle.duk_till.specs.declared.last.Last.{Last}
use Rattle.duk_tree.specs.Serial.{Serial}
use Rattle.duk_books.specs.Calm.{IsBookFault, IsTerminalFault}
use Rattle.duk_stations.proofs.StoreFaults.{FailsSpared, FindsBodies, PreservesCalm, RefusesTerminal, Spares, found_wrong, nature_kept, no_cell_fault, no_reply_fault, no_reversal_fault, none_reported, put_failed, restart_failed, same_kept, terminal_begin_refused, terminal_load_refused, terminal_restart_refused, terminal_reversal_refused}

-- what a till keeps of the nature of its cells where neither is armed
pub record PreservesCells {C B : Type 0} (cell : CellMeaning C) (book : CellMeaning B) (before after : TillOf C B) : Type 0 where
  pub of_terminal : PreservesCalm (cell.state_of before.terminal.cell) (cell.state_of after.terminal.cell)
  pub of_book : PreservesCalm (book.state_of before.book) (book.state_of after.book)

-- and where it refuses, which faults of them it reports
pub record RefusesTill {C B : Type 0} (cell : CellMeaning C) (book : CellMeaning B) (before after : TillOf C B) (why : TillFault) : Type 0 where
  pub keeps : PreservesCells cell book before after
  pub of_terminal : Spares (cell.state_of before.terminal.cell) (λ reported. IsTerminalFault why reported)
  pub of_book : Spares (book.state_of before.book) (λ reported. IsBookFault why reported)

-- a book finds no bytes but bodies of last purchases
abbrev pub FindsLasts : {B : Type 0} → CellMeaning B → B → Type 0
FindsLasts book at = (bytes : List ℕ) → (book.state_of at).found (Some bytes) → (last : Last) × IsLastBody bytes last

module _ {C B : Type 0} (cell : CellMeaning C) (book : CellMeaning B) (before after : TillOf C B) where
  abbrev Keeps : Type 0
  Keeps = PreservesCells cell book before after

  abbrev Refuses : TillFault → Type 0
  Refuses why = RefusesTill cell book before after why

  abbrev KeepsCell : Type 0
  KeepsCell = PreservesCalm (cell.state_of before.terminal.cell) (cell.state_of after.terminal.cell)

  abbrev KeepsBook : Type 0
  KeepsBook = PreservesCalm (book.state_of before.book) (book.state_of after.book)

  pub same_cells : after ≡ before → Keeps
  same_cells same = rw same (record { of_terminal = same_kept (cell.state_of before.terminal.cell); of_book = same_kept (book.state_of before.book) })

  same_book : SameBook before after → KeepsBook
  same_book same = rw same.book_is (same_kept (book.state_of before.book))

  -- a fault of no store
  plainly : (why : TillFault) → Keeps → ((reported : StoreFault) → ¬ IsTerminalFault why reported) → ((reported : StoreFault) → ¬ IsBookFault why reported) → Refuses why
  plainly why keeps cell_none book_none = record {
    keeps = keeps;
    of_terminal = none_reported (cell.state_of before.terminal.cell) (λ reported. IsTerminalFault why reported) cell_none;
    of_book = none_reported (book.state_of before.book) (λ reported. IsBookFault why reported) book_none;
  }

  -- the terminal refuses, and the book stays
  terminal_refuses : (why : TermFault) → RefusesTerminal cell before.terminal after.terminal why → KeepsBook → Refuses (fault.Terminal why)
  terminal_refuses why refuses keeps = record {
    keeps = record { of_terminal = refuses.keeps; of_book = keeps };
    of_terminal = refuses.spares;
    of_book = none_reported (book.state_of before.book) (λ reported. IsBookFault (fault.Terminal why) reported) (λ reported is. is);
  }

  -- the book refuses
  book_refuses : (why : StoreFault) → KeepsCell → FailsSpared (book.state_of before.book) (book.state_of after.book) why → Refuses (fault.Store why)
  book_refuses why keeps fails = record {
    keeps = record { of_terminal = keeps; of_book = fails.keeps };
    of_terminal = none_reported (cell.state_of before.terminal.cell) (λ reported. IsTerminalFault (fault.Store why) reported) (λ reported is. is);
    of_book = fails.spares;
  }

  -- ---- loads

  pub loaded : (asked : Loading) → IsTillLoaded cell asked before after → Keeps
  loaded asked is = record { of_terminal = nature_kept _ _ is.terminal.kept.settles.nature; of_book = same_book is.same_book }

  pub load_refused : (asked : Loading) (why : TillFault) → TillLoadRefused cell asked before after why → Refuses why
  load_refused asked fault.Stopped is = plainly fault.Stopped (same_cells is.1) (λ reported is. is) (λ reported is. is)
  load_refused asked fault.Open is = plainly fault.Open (same_cells is.1) (λ reported is. is) (λ reported is. is)
  load_refused asked (fault.Terminal why) is = terminal_refuses why (terminal_load_refused cell asked before.terminal after.terminal why is.1) (same_book is.2)
  load_refused asked _ is = absurd is

  -- ---- purchases

  pub begun : (purchase : Purchase) (ksn : Serial) (frame : List ℕ) → IsTillBegun cell book purchase ksn frame before after → Keeps
  begun purchase ksn frame is = record { of_terminal = nature_kept _ _ is.terminal.begun.kept.settles.nature; of_book = nature_kept _ _ is.kept.settles.nature }

  pub begin_refused : (purchase : Purchase) (why : TillFault) → TillBeginRefused cell book purchase before after why → Refuses why
  begin_refused purchase fault.Stopped is = plainly fault.Stopped (same_cells is.1) (λ reported is. is) (λ reported is. is)
  begin_refused purchase fault.Open is = plainly fault.Open (same_cells is.1) (λ reported is. is) (λ reported is. is)
  begin_refused purchase fault.NothingOpen is = absurd is
  begin_refused purchase (fault.Terminal why) is = elim is.1 [
    | inl spent ↦ plainly (fault.Terminal why) (same_cells spent.2) (no_cell_fault why term_fault.Spent spent.0 (λ reported is. is)) (λ reported is. is)
    | inr refused ↦ terminal_refuses why (terminal_begin_refused cell before.terminal after.terminal why refused.0) (same_book refused.1)
  ]
  begin_refused purchase (fault.Store why) is = book_refuses why (nature_kept _ _ is.terminal.begun.kept.settles.nature) (put_failed book before.book after.book _ why is.not_kept.not_kept)

  pub reversing : (ksn : Serial) (frame : List ℕ) → IsTillReversing cell ksn frame before after → Keeps
  reversing ksn frame is = record { of_terminal = nature_kept _ _ is.terminal.kept.settles.nature; of_book = same_book is.same_book }

  pub reverse_refused : (why : TillFault) → TillReverseRefused cell before after why → Refuses why
  reverse_refused fault.Stopped is = plainly fault.Stopped (same_cells is.1) (λ reported is. is) (λ reported is. is)
  reverse_refused fault.NothingOpen is = plainly fault.NothingOpen (same_cells is.1) (λ reported is. is) (λ reported is. is)
  reverse_refused (fault.Terminal why) is = terminal_refuses why (terminal_reversal_refused cell is.0.0 before.terminal after.terminal why is.0.3) (same_book is.1)
  reverse_refused _ is = absurd is

  -- ---- answers

  -- the terminal waits no more, and its cell stays
  completes : (state : State) → after.terminal ≡ record { cell = before.terminal.cell; state = state } → KeepsCell
  completes state is = rw is (same_kept (cell.state_of before.terminal.cell))

  pub told : (bytes : List ℕ) (it : Answer) → TellsOutcome book bytes before after it → Keeps
  told bytes (answer.Done code) is = record { of_terminal = completes _ is.terminal; of_book = nature_kept _ _ is.kept.settles.nature }
  told bytes (answer.Refused reason) is = same_cells is.same

  pub reply_refused : (bytes : List ℕ) (why : TillFault) → TillReplyRefused book bytes before after why → Refuses why
  reply_refused bytes fault.Stopped is = plainly fault.Stopped (same_cells is.1) (λ reported is. is) (λ reported is. is)
  reply_refused bytes fault.Open is = absurd is
  reply_refused bytes fault.NothingOpen is = plainly fault.NothingOpen (same_cells is.1) (λ reported is. is) (λ reported is. is)
  reply_refused bytes (fault.Terminal why) is = plainly (fault.Terminal why) (same_cells is.1) (elim is.0.3 [
    | inl other ↦ no_cell_fault why term_fault.NotPending other.0 (λ reported is. is)
    | inr refused ↦ λ reported. no_reply_fault before.terminal.state bytes why reported refused.1
  ]) (λ reported is. is)
  reply_refused bytes (fault.Store why) is = book_refuses why (completes _ is.terminal) (put_failed book before.book after.book _ why is.not_kept.not_kept)

  pub reversal_told : (bytes : List ℕ) (it : ReversalAnswer) → TellsReversal book bytes before after it → Keeps
  reversal_told bytes (reversal.Done found) is = record { of_terminal = completes _ is.terminal; of_book = nature_kept _ _ is.kept.settles.nature }
  reversal_told bytes (reversal.Refused reason) is = same_cells is.same

  pub reversal_reply_refused : (bytes : List ℕ) (why : TillFault) → TillReversalReplyRefused book bytes before after why → Refuses why
  reversal_reply_refused bytes fault.Stopped is = plainly fault.Stopped (same_cells is.1) (λ reported is. is) (λ reported is. is)
  reversal_reply_refused bytes fault.Open is = absurd is
  reversal_reply_refused bytes fault.NothingOpen is = plainly fault.NothingOpen (same_cells is.1) (λ reported is. is) (λ reported is. is)
  reversal_reply_refused bytes (fault.Terminal why) is =
      plainly (fault.Terminal why) (same_cells is.1) (λ reported. no_reversal_fault before.terminal.state is.0.0 bytes why reported is.0.3) (λ reported is. is)
  reversal_reply_refused bytes (fault.Store why) is = book_refuses why (completes _ is.terminal) (put_failed book before.book after.book _ why is.not_kept.not_kept)

  -- ---- restarts

  pub restarted : IsTillRestarted cell book before after → Keeps
  restarted is = record { of_terminal = nature_kept _ _ is.terminal.cell.settles.nature; of_book = nature_kept _ _ is.found.cell.settles.nature }

  module _ (bodies : FindsBodies cell before.terminal.cell) (lasts : FindsLasts book before.book) where
    book_fails : (why : StoreFault) → BookRestartFailed book before.book after.book why → FailsSpared (book.state_of before.book) (book.state_of after.book) why
    book_fails why (inl failed) = restart_failed _ _ why failed.cell
    book_fails why (inr (damaged, none)) =
        found_wrong (book.state_of before.book) (book.state_of after.book) why damaged none.cell.settles.nature
        (λ honest sound. let body = lasts none.bytes (none.cell.was_found honest) in none.no_body body.0 body.1)

    pub restart_refused : (why : TillFault) → TillRestartRefused cell book before after why → Refuses why
    restart_refused (fault.Terminal why) is =
        terminal_refuses why (terminal_restart_refused cell before.terminal after.terminal why bodies is.0) (rw is.1 (same_kept (book.state_of before.book)))
    restart_refused (fault.Store why) is = book_refuses why (nature_kept _ _ is.0.cell.settles.nature) (book_fails why is.1)
    restart_refused _ is = absurd is

  -- ---- arming

  -- what an armed cell keeps, and its neighbour
  pub terminal_armed : IsTerminalArmed cell before after → KeepsBook
  terminal_armed is = same_book is.same_book

  pub book_armed : IsBookArmed book before after → KeepsCell
  book_armed is = rw is.terminal (same_kept (cell.state_of before.terminal.cell))
