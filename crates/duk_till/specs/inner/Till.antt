-- What only private functions and proofs say beside `Till.antt`: this project's own.
use Rattle.std.specs.Prelude.{◌≡◌, true, ℕ, List, Option, Some}
use Rattle.duk_store.specs.Cell.{CellMeaning, Kept}
use Rattle.duk_store.specs.StoreState.{StoreState}
use Rattle.duk_store.specs.declared.fault.StoreFault.TheVariants.{Damaged}
use Rattle.duk_tree.specs.Serial.{Serial}
use Rattle.duk_till.specs.Image.{IsLastBody}
use Rattle.duk_till.specs.Till.{IsAtRest, IsLastNotKept, IsOpen, KeepsLast, TillOf}
use Rattle.duk_till.specs.declared.fault.TillFault.{TillFault}
use Rattle.duk_till.specs.declared.fault.TillFault.TheVariants as fault
use Rattle.duk_till.specs.declared.last.Last.{Last}
use Rattle.duk_till.specs.declared.state.TillState.{TillState}
use Rattle.duk_till.specs.declared.state.TillState.TheVariants.{Stopped, Running}

-- what the book of a running till is: it runs, and a restart would find this last purchase alone
pub record BookHolds (book : StoreState Kept) (last : Option Last) : Type 0 where
  pub runs : book.running ≡ true
  pub finds : KeepsLast book last

abbrev pub Agrees : StoreState Kept → TillState → Type 0
Agrees book Stopped = Unit {0}
Agrees book (Running last) = BookHolds book last

-- a last purchase that was not kept, whatever the book kept before
abbrev pub IsNotKept : {C J : Type 0} → CellMeaning J → Last → TillOf C J → TillOf C J
    → TillFault → Type 0
IsNotKept meaning last old new (fault.Store why) =
    (before : Option Last) → old.state ≡ Running before
    → IsLastNotKept meaning last before old.book new.book new.state why
IsNotKept meaning last old new _ = ⊥

-- a book keeps bytes that are no body of a last purchase, and this is the fault for that
abbrev pub IsNoLast : Kept → TillFault → Type 0
IsNoLast kept (fault.Store why) =
    (why ≡ Damaged)
    × ((bytes : List ℕ) × (kept ≡ Some bytes) × ((last : Last) → ¬ IsLastBody bytes last))
IsNoLast kept _ = ⊥

-- why nothing may be begun in a state
abbrev pub IsNotAtRest : TillState → TillFault → Type 0
IsNotAtRest state fault.Stopped = state ≡ Stopped
IsNotAtRest state fault.Open = (ksn : Serial) × (amount : ℕ) × IsOpen state ksn amount
IsNotAtRest state _ = ⊥

-- why a state has no open purchase
abbrev pub HasNothingOpen : TillState → TillFault → Type 0
HasNothingOpen state fault.Stopped = state ≡ Stopped
HasNothingOpen state fault.NothingOpen = IsAtRest state
HasNothingOpen state _ = ⊥
