-- Loading the terminal of a till: this project's own.
use Rattle.std.specs.Prelude.{◌≡◌, ℕ}
use Rattle.duk_store.specs.Cell.{CellMeaning}
use Rattle.duk_term.specs.Load.{IsTerminalLoaded, LoadRefused, Loading}
use Rattle.duk_tree.specs.Serial.{Serial}
use Rattle.duk_till.specs.Till.{IsAtRest, IsOpen, SameBook, TillOf}
use Rattle.duk_till.specs.declared.fault.TillFault.{TillFault}
use Rattle.duk_till.specs.declared.fault.TillFault.TheVariants as fault
use Rattle.duk_till.specs.declared.state.TillState.TheVariants.{Stopped}

-- a load that is done: the till was at rest, and its book stays
pub record IsTillLoaded
    {C J : Type 0} (cell : CellMeaning C) (asked : Loading) (old new : TillOf C J) : Type 0 where
  pub was_at_rest : IsAtRest old.state
  pub terminal : IsTerminalLoaded cell asked old.terminal new.terminal
  pub same_book : SameBook old new

-- why a load is refused, the first that holds of these, and what that leaves
abbrev pub TillLoadRefused : {C J : Type 0} → CellMeaning C → Loading → TillOf C J → TillOf C J
    → TillFault → Type 0
TillLoadRefused cell asked old new fault.Stopped = (old.state ≡ Stopped) × (new ≡ old)
TillLoadRefused cell asked old new fault.Open =
    ((ksn : Serial) × (amount : ℕ) × IsOpen old.state ksn amount) × (new ≡ old)
TillLoadRefused cell asked old new (fault.Terminal why) =
    IsAtRest old.state × LoadRefused cell asked old.terminal new.terminal why
    × SameBook old new
TillLoadRefused cell asked old new _ = ⊥
