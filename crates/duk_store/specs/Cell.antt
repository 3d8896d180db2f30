-- What a cell means, and what its calls do to that: this project's own.
use Rattle.std.specs.Prelude.{◌≡◌, ◌≢◌, ◌⊎◌, true, ℕ, List, Option, Some}
use Rattle.duk_store.specs.StoreState.{StoreState, IsAlreadyStopped, Settles, Stops, Stays}
use Rattle.duk_store.specs.declared.fault.StoreFault.{StoreFault}
use Rattle.duk_store.specs.declared.fault.StoreFault.TheVariants.{Device, Stopped, Worn}

-- what a cell keeps: nothing yet, or a body
abbrev pub Kept : Type 0
Kept = Option (List ℕ)

-- what the cells of one kind mean
pub record CellMeaning (C : Type 0) : Type 1 where
  -- what a restart may find, whether it runs, and how often it failed
  pub state_of : C → StoreState Kept
  -- it can take no further body
  pub worn : C → Type 0
  -- no device step is to fail on account of arming
  pub disarmed : C → Type 0
  -- how arming with a number of steps leaves it
  pub arms : C → ℕ → C → Type 0
  -- what holds of it, beside all this, once it has acknowledged this body
  pub after_put : C → List ℕ → Type 0

-- a body that is kept
pub record IsPut {C : Type 0} (meaning : CellMeaning C) (old new : C) (body : List ℕ) : Type 0 where
  pub was_running : (meaning.state_of old).running ≡ true
  pub not_worn : ¬ meaning.worn old
  pub settles : Settles (meaning.state_of old) (meaning.state_of new) (Some body)

-- the old values, or the new one
abbrev pub OldOrNew : StoreState Kept → List ℕ → Kept → Type 0
OldOrNew old body kept = old.found kept ⊎ (kept ≡ Some body)

-- a write in which a device step failed
pub record PutStopped
    {C : Type 0} (meaning : CellMeaning C) (old new : C) (body : List ℕ) : Type 0 where
  pub was_running : (meaning.state_of old).running ≡ true
  pub not_worn : ¬ meaning.worn old
  pub stops : Stops (meaning.state_of old) (meaning.state_of new)
      (OldOrNew (meaning.state_of old) body)
  pub failure : (meaning.state_of new).failures ≢ (meaning.state_of old).failures

-- a write to a cell that can take no more, and runs on: all stays, and what was not calm is not
-- calm
pub record PutWorn {C : Type 0} (meaning : CellMeaning C) (old new : C) : Type 0 where
  pub was_running : (meaning.state_of old).running ≡ true
  pub is_worn : meaning.worn old
  pub stays : Stays (meaning.state_of old) (meaning.state_of new)
  pub no_calmer : (meaning.state_of new).calm → (meaning.state_of old).calm

-- why a body is not kept, and what that leaves
abbrev pub PutFailed : {C : Type 0} → CellMeaning C → C → C → List ℕ → StoreFault → Type 0
PutFailed meaning old new body Device = PutStopped meaning old new body
PutFailed meaning old new body Stopped =
    IsAlreadyStopped (meaning.state_of old) (meaning.state_of new)
PutFailed meaning old new body Worn = PutWorn meaning old new
PutFailed meaning old new body _ = ⊥
