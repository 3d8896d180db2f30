-- Tills as they are made.
use Rattle.std.proofs.Common.{◌≡◌, None, refl}
use Rattle.duk_store.specs.Cell.{CellMeaning}
use Rattle.duk_store.specs.StoreState.{IsNew}
use Rattle.duk_term.specs.Terminal.{TerminalOf}
use Rattle.duk_term.specs.declared.state.State.TheVariants as terminal
use Rattle.duk_till.specs.Till.{TillOf}
use Rattle.duk_till.specs.declared.state.TillState.{TillState}
use Rattle.duk_till.specs.declared.state.TillState.TheVariants.{Stopped}
use Rattle.duk_play.specs.Opening.{new_till}
use Rattle.duk_play.specs.inner.Opening.{HasNewCells}

-- a till of these parts
abbrev pub till_of : {C B : Type 0} → TerminalOf C → B → TillState → TillOf C B
till_of one book state = record { terminal = one; book = book; state = state }

-- it is what is made over two cells, where its parts are
pub made_till : {C B : Type 0} (one : TerminalOf C) (book : B) (state : TillState) (cell cell_as : C) (book_made book_as : B)
    → one ≡ record { cell = cell; state = terminal.Stopped } → book ≡ book_made → state ≡ Stopped → cell ≡ cell_as → book_made ≡ book_as
    → till_of one book state ≡ new_till cell_as book_as
made_till one book state cell cell_as book_made book_as one_is book_is state_is cell_is made_is = rw (one_is, book_is, state_is, cell_is, made_is) refl

-- and it has new cells, where those are
pub has_new_cells : {C B : Type 0} (cells : CellMeaning C) (books : CellMeaning B) (till : TillOf C B) (cell : C) (book : B)
    → till.terminal ≡ record { cell = cell; state = terminal.Stopped } → till.book ≡ book → till.state ≡ Stopped
    → IsNew (cells.state_of cell) None → IsNew (books.state_of book) None → HasNewCells cells books till
has_new_cells cells books till cell book one_is book_is state_is new_cell new_book = record {
  stopped = state_is;
  terminal_stopped = rw one_is refl;
  cell_is = rw one_is new_cell;
  book_is = rw book_is new_book;
}
