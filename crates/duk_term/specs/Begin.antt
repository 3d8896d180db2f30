-- Beginning a transaction: this project's own, over the transaction keys of ANSI X9.24-1:2009 annex
-- A.
use Rattle.std.specs.Prelude.{◌≡◌, ◌<◌, ◌^◌, ℕ, List, Option, Some}
use Rattle.duk_frame.specs.Payment.{payment_request}
use Rattle.duk_pin.specs.Pan.{IsPan}
use Rattle.duk_pin.specs.Pin.{IsPin}
use Rattle.duk_regs.specs.Registers.{HaveSixteenBytes, IsRegisterSet, IsTaken, RegisterSet}
use Rattle.duk_store.specs.Cell.{CellMeaning, IsPut}
use Rattle.duk_store.specs.declared.fault.StoreFault.{StoreFault}
use Rattle.duk_tree.specs.Derivation.{response_key_of}
use Rattle.duk_tree.specs.Next.{spent_counter}
use Rattle.duk_tree.specs.Path.{IsUsable}
use Rattle.duk_tree.specs.Serial.{Serial}
use Rattle.duk_term.specs.Body.{body_bytes}
use Rattle.duk_term.specs.Terminal.{HasRegistersIn, StopsBetween, TerminalOf, serial_of}
use Rattle.duk_term.specs.declared.fault.TermFault.{TermFault}
use Rattle.duk_term.specs.declared.fault.TermFault.TheVariants as fault
use Rattle.duk_term.specs.declared.purchase.Purchase.{Purchase}
use Rattle.duk_term.specs.declared.state.Pending.{Pending}
use Rattle.duk_term.specs.declared.state.State.{State}
use Rattle.duk_term.specs.declared.state.State.TheVariants.{Stopped, Empty, Loaded}

-- the next number is taken: its key comes out of these registers and leaves those
pub record TakesNumber (set : RegisterSet) (key : List ℕ) (left : RegisterSet) : Type 0 where
  pub set_is : IsRegisterSet set
  pub usable : IsUsable set.counter
  pub taken : IsTaken set key left

-- the state has these registers, and the next number is taken from them
pub record TakesFrom
    (state : State) (set : RegisterSet) (key : List ℕ) (left : RegisterSet) : Type 0 where
  pub pending : Option Pending
  pub had : state ≡ Loaded set pending
  pub takes : TakesNumber set key left

-- the pending transaction of a number: its key serial number, and its transaction key's variant for
-- responses
abbrev pub pending_of : RegisterSet → List ℕ → Pending
pending_of set key = record { ksn = serial_of set; response_key = response_key_of key }

-- what a customer pays: a PAN and its PIN, and an amount in four bytes
pub record ArePurchaseFields (purchase : Purchase) : Type 0 where
  pub pan_is : IsPan purchase.pan
  pub pin_is : IsPin purchase.pin
  pub amount_fits : purchase.amount < 2 ^ 32

-- a request goes out: it is that of the number taken, and the image of the registers that are left
-- is kept
pub record IsBegun
    {C : Type 0} (meaning : CellMeaning C) (purchase : Purchase) (old new : TerminalOf C)
    (frame : List ℕ) : Type 0 where
  pub set : RegisterSet
  pub key : List ℕ
  pub left : RegisterSet
  pub takes : TakesFrom old.state set key left
  pub left_are : HaveSixteenBytes left.registers
  pub purchase_is : ArePurchaseFields purchase
  pub frame_is : frame
      ≡ payment_request key (serial_of set) purchase.pan purchase.pin purchase.amount
  pub state_is : new.state ≡ Loaded left (Some (pending_of set key))
  pub kept : IsPut meaning old.cell new.cell (body_bytes left)

-- a request goes out, and this is the number taken
pub record IsBegunUnder
    {C : Type 0} (meaning : CellMeaning C) (purchase : Purchase) (ksn : Serial) (frame : List ℕ)
    (old new : TerminalOf C) : Type 0 where
  pub begun : IsBegun meaning purchase old new frame
  pub ksn_is : ksn ≡ serial_of begun.set

-- no request goes out, since the image was not kept: the terminal is stopped, and a restart would
-- find the registers as they were before the number was taken, or as they are after
pub record BeginStopped
    {C : Type 0} (meaning : CellMeaning C) (old new : TerminalOf C)
    (why : StoreFault) : Type 0 where
  pub set : RegisterSet
  pub key : List ℕ
  pub left : RegisterSet
  pub takes : TakesFrom old.state set key left
  pub left_are : HaveSixteenBytes left.registers
  pub stops : StopsBetween meaning (HasRegistersIn set) left old new why

-- a state whose registers have no number left
abbrev pub IsSpent : State → Type 0
IsSpent state =
    (set : RegisterSet) × (pending : _) × (state ≡ Loaded set pending)
    × (set.counter ≡ spent_counter)

-- why no request goes out, and what that leaves
abbrev pub BeginRefused : {C : Type 0} → CellMeaning C → TerminalOf C → TerminalOf C → TermFault
    → Type 0
BeginRefused meaning old new fault.Stopped = (old.state ≡ Stopped) × (new ≡ old)
BeginRefused meaning old new fault.NotLoaded = (old.state ≡ Empty) × (new ≡ old)
BeginRefused meaning old new fault.Spent = IsSpent old.state × (new ≡ old)
BeginRefused meaning old new (fault.Store why) = BeginStopped meaning old new why
BeginRefused meaning old new _ = ⊥
