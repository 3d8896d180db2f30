-- Loading a terminal: this project's own.
use Rattle.std.specs.Prelude.{◌≡◌, ◌≢◌, ◌++◌, ◌∷◌, [], ℕ, List, Option, None, length}
use Rattle.duk_block.specs.Faults.{IsFirstFault}
use Rattle.duk_regs.specs.Registers.{IsRegisterSet, IsSpentIksn, RegisterSet, AreFutureKeysOf}
use Rattle.duk_store.specs.Cell.{CellMeaning, IsPut, Kept}
use Rattle.duk_store.specs.declared.fault.StoreFault.{StoreFault}
use Rattle.duk_term.specs.Body.{body_bytes}
use Rattle.duk_term.specs.Loading.{WrapsInitialKey, WrapsOtherKey}
use Rattle.duk_term.specs.Terminal.{HasRegistersIn, StopsBetween, TerminalOf}
use Rattle.duk_term.specs.declared.fault.TermFault.{TermFault}
use Rattle.duk_term.specs.declared.fault.TermFault.TheVariants as fault
use Rattle.duk_term.specs.declared.state.Pending.{Pending}
use Rattle.duk_term.specs.declared.state.State.{State}
use Rattle.duk_term.specs.declared.state.State.TheVariants.{Stopped, Empty, Loaded}

-- what a terminal is asked to load: a key block under a loading key, and an initial key serial
-- number
pub record Loading : Type 0 where
  pub loading_key : List ℕ
  pub block : List ℕ
  pub iksn : ℕ

-- that loading
abbrev pub loading_of : List ℕ → List ℕ → ℕ → Loading
loading_of loading block iksn = record { loading_key = loading; block = block; iksn = iksn }

-- the state has registers, and had this initial key serial number: it is the present one or a past
-- one
pub record HasHad (state : State) (iksn : ℕ) : Type 0 where
  pub set : RegisterSet
  pub pending : Option Pending
  pub state_is : state ≡ Loaded set pending
  pub spent : IsSpentIksn iksn set

-- the state has registers with eight past initial key serial numbers
pub record HasEightPast (state : State) : Type 0 where
  pub set : RegisterSet
  pub pending : Option Pending
  pub state_is : state ≡ Loaded set pending
  pub eight : length set.past ≡ 8

-- a terminal in this state may be given this initial key serial number
pub record MayTake (state : State) (iksn : ℕ) : Type 0 where
  pub runs : state ≢ Stopped
  pub is_new : ¬ HasHad state iksn
  pub has_place : ¬ HasEightPast state

-- the past initial key serial numbers once another one is loaded: those before, and the present one
abbrev pub past_after_load : State → List ℕ
past_after_load Stopped = []
past_after_load Empty = []
past_after_load (Loaded set pending) = set.past ++ set.iksn ∷ []

-- registers that hold the future keys of the initial key of the block at the first number, with the
-- history of the terminal
pub record IsFirstSet (asked : Loading) (state : State) (set : RegisterSet) : Type 0 where
  pub initial : List ℕ
  pub wrapped : WrapsInitialKey asked.loading_key asked.block initial
  pub set_is : IsRegisterSet set
  pub future_keys : AreFutureKeysOf initial set
  pub iksn_is : set.iksn ≡ asked.iksn
  pub counter_is : set.counter ≡ 1
  pub past_is : set.past ≡ past_after_load state

-- a load that is done: the registers' image is kept, and nothing is pending
pub record IsTerminalLoaded
    {C : Type 0} (meaning : CellMeaning C) (asked : Loading) (old new : TerminalOf C) : Type 0 where
  pub set : RegisterSet
  pub may : MayTake old.state asked.iksn
  pub set_is : IsFirstSet asked old.state set
  pub state_is : new.state ≡ Loaded set None
  pub kept : IsPut meaning old.cell new.cell (body_bytes set)

-- what the cell of a running terminal keeps: nothing, or a body that keeps its registers
abbrev pub KeepsState : State → Kept → Type 0
KeepsState Stopped kept = ⊥
KeepsState Empty kept = kept ≡ None
KeepsState (Loaded set pending) kept = HasRegistersIn set kept

-- a load whose image was not kept: the terminal is stopped, and a restart would find what the cell
-- kept before, or that image
pub record LoadStopped
    {C : Type 0} (meaning : CellMeaning C) (asked : Loading) (old new : TerminalOf C)
    (why : StoreFault) : Type 0 where
  pub set : RegisterSet
  pub may : MayTake old.state asked.iksn
  pub set_is : IsFirstSet asked old.state set
  pub stops : StopsBetween meaning (KeepsState old.state) set old new why

-- why a load is refused, and what that leaves
abbrev pub LoadRefused : {C : Type 0} → CellMeaning C → Loading → TerminalOf C → TerminalOf C
    → TermFault → Type 0
LoadRefused meaning asked old new fault.Stopped = (old.state ≡ Stopped) × (new ≡ old)
LoadRefused meaning asked old new fault.IksnSpent = HasHad old.state asked.iksn × (new ≡ old)
LoadRefused meaning asked old new fault.LoadsSpent =
    (¬ HasHad old.state asked.iksn) × HasEightPast old.state × (new ≡ old)
LoadRefused meaning asked old new (fault.Block why) =
    MayTake old.state asked.iksn × IsFirstFault asked.block asked.loading_key why × (new ≡ old)
LoadRefused meaning asked old new fault.WrongUse =
    MayTake old.state asked.iksn × WrapsOtherKey asked.loading_key asked.block × (new ≡ old)
LoadRefused meaning asked old new (fault.Store why) = LoadStopped meaning asked old new why
LoadRefused meaning asked old new _ = ⊥
