-- What only private functions and proofs say beside `Opening.antt`: this project's own.
use Rattle.std.specs.Prelude.{◌≡◌, None}
use Rattle.duk_store.specs.Cell.{CellMeaning}
use Rattle.duk_store.specs.StoreState.{IsNew}
use Rattle.duk_term.specs.Terminal.{TerminalOf}
use Rattle.duk_term.specs.declared.state.State.TheVariants.{Stopped}

-- a stopped terminal over a cell as it is made, which is honest, sound and calm and keeps nothing
pub record HasNewCell {C : Type 0} (meaning : CellMeaning C) (terminal : TerminalOf C)
    : Type 0 where
  pub stopped : terminal.state ≡ Stopped
  pub cell : IsNew (meaning.state_of terminal.cell) None
