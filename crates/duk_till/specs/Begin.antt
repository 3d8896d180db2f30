-- Beginning a purchase at a till: this project's own.
use Rattle.std.specs.Prelude.{◌≡◌, ◌⊎◌, ℕ, List, Option, Some}
use Rattle.duk_store.specs.Cell.{CellMeaning, IsPut}
use Rattle.duk_store.specs.declared.fault.StoreFault.{StoreFault}
use Rattle.duk_term.specs.Begin.{BeginRefused, IsBegunUnder}
use Rattle.duk_term.specs.declared.fault.TermFault.TheVariants as term_fault
use Rattle.duk_term.specs.declared.purchase.Purchase.{Purchase}
use Rattle.duk_tree.specs.Serial.{Serial}
use Rattle.duk_till.specs.Image.{last_bytes}
use Rattle.duk_till.specs.Till.{IsAtRest, IsKeptForReversals, IsLastNotKept, IsOpen, SameBook, TillOf}
use Rattle.duk_till.specs.declared.fault.TillFault.{TillFault}
use Rattle.duk_till.specs.declared.fault.TillFault.TheVariants as fault
use Rattle.duk_till.specs.declared.last.Last.{Last}
use Rattle.duk_till.specs.declared.last.Last.TheVariants.{Open}
use Rattle.duk_till.specs.declared.state.TillState.TheVariants.{Stopped, Running}

-- the purchase as it is once its request may have gone out
abbrev pub opened : Serial → Purchase → Last
opened ksn purchase = Open ksn purchase.amount

-- a request goes out: the till was at rest, its terminal began the transaction under this number,
-- and the book keeps the purchase as open
pub record IsTillBegun
    {C J : Type 0} (cell : CellMeaning C) (book : CellMeaning J) (purchase : Purchase)
    (ksn : Serial) (frame : List ℕ) (old new : TillOf C J) : Type 0 where
  pub was_at_rest : IsAtRest old.state
  pub spare : ¬ IsKeptForReversals old.terminal.state
  pub terminal : IsBegunUnder cell purchase ksn frame old.terminal new.terminal
  pub kept : IsPut book old.book new.book (last_bytes (opened ksn purchase))
  pub state_is : new.state ≡ Running (Some (opened ksn purchase))

-- no request goes out, since the book did not keep the purchase: its number is lost
pub record NumberIsLost
    {C J : Type 0} (cell : CellMeaning C) (book : CellMeaning J) (purchase : Purchase)
    (old new : TillOf C J) (why : StoreFault) : Type 0 where
  pub before : Option Last
  pub was : old.state ≡ Running before
  pub was_at_rest : IsAtRest old.state
  pub ksn : Serial
  pub frame : List ℕ
  pub terminal : IsBegunUnder cell purchase ksn frame old.terminal new.terminal
  pub not_kept : IsLastNotKept book (opened ksn purchase) before old.book new.book new.state why

-- why no request goes out, the first that holds of these, and what that leaves
abbrev pub TillBeginRefused : {C J : Type 0} → CellMeaning C → CellMeaning J → Purchase
    → TillOf C J → TillOf C J → TillFault → Type 0
TillBeginRefused cell book purchase old new fault.Stopped =
    (old.state ≡ Stopped) × (new ≡ old)
TillBeginRefused cell book purchase old new fault.Open =
    ((ksn : Serial) × (amount : ℕ) × IsOpen old.state ksn amount) × (new ≡ old)
TillBeginRefused cell book purchase old new fault.NothingOpen = ⊥
TillBeginRefused cell book purchase old new (fault.Terminal why) =
    IsAtRest old.state
    × (((why ≡ term_fault.Spent) × IsKeptForReversals old.terminal.state × (new ≡ old))
    ⊎ (BeginRefused cell old.terminal new.terminal why × SameBook old new))
TillBeginRefused cell book purchase old new (fault.Store why) =
    NumberIsLost cell book purchase old new why
