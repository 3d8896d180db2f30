-- What only private functions and proofs say beside `Opening.antt`: this project's own.
use Rattle.std.specs.Prelude.{◌≡◌, None}
use Rattle.duk_store.specs.Cell.{CellMeaning}
use Rattle.duk_store.specs.StoreState.{IsNew}
use Rattle.duk_term.specs.declared.state.State.TheVariants as terminal
use Rattle.duk_till.specs.Till.{TillOf}
use Rattle.duk_till.specs.declared.state.TillState.TheVariants.{Stopped}

-- a stopped till over cells as they are made, which are honest, sound and calm and keep nothing
pub record HasNewCells {C B : Type 0} (cell : CellMeaning C) (book : CellMeaning B)
    (till : TillOf C B) : Type 0 where
  pub stopped : till.state ≡ Stopped
  pub terminal_stopped : till.terminal.state ≡ terminal.Stopped
  pub cell_is : IsNew (cell.state_of till.terminal.cell) None
  pub book_is : IsNew (book.state_of till.book) None
