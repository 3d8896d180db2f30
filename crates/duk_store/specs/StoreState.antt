-- The state of a store, as those above it see it: this project's own.
use Rattle.std.specs.Prelude.{◌≡◌, ◌↔◌, Bool, true, false, ℕ}

-- what may be said of a store that keeps values of one kind
pub record StoreState (V : Type 0) : Type 1 where
  -- its medium keeps to its model, so that what is said of the values that it keeps is so
  pub honest : Type 0
  -- it was made over what its own type left in a medium of right size
  pub sound : Type 0
  -- no device step fails
  pub calm : Type 0
  -- it is brought up, and has not failed since
  pub running : Bool
  -- the values that a restart may find
  pub found : V → Type 0
  -- how many device steps have failed, modulo a power of two
  pub failures : ℕ

-- a restart may find this value and no other
abbrev pub FindsOnly : {V : Type 0} → StoreState V → V → Type 0
FindsOnly store value = (other : _) → store.found other ↔ (other ≡ value)

-- a restart may find some value
abbrev pub FindsSome : {V : Type 0} → StoreState V → Type 0
FindsSome {V} store = (value : V) × store.found value

-- every value that a restart may find is one of these
abbrev pub FindsWithin : {V : Type 0} → StoreState V → (V → Type 0) → Type 0
FindsWithin store values = (value : _) → store.found value → values value

-- a store as it is made: a restart would find this value alone
pub record IsNew {V : Type 0} (store : StoreState V) (value : V) : Type 0 where
  pub honest : store.honest
  pub sound : store.sound
  pub calm : store.calm
  pub stopped : store.running ≡ false
  pub finds : FindsOnly store value

-- a sound store with nothing kept: a restart would find this, which is how nothing is kept
pub record KeepsNothing {V : Type 0} (store : StoreState V) (nothing : V) : Type 0 where
  pub sound : store.sound
  pub finds : FindsOnly store nothing

-- what no call changes: honesty stays, and so does the soundness of an honest store; calm ends by
-- arming alone
pub record PreservesNature {V : Type 0} (old new : StoreState V) : Type 0 where
  pub honest : old.honest ↔ new.honest
  pub sound : old.honest → old.sound → new.sound
  pub calm : old.calm → new.calm

-- a step that is done: the store runs, and a restart would find this value alone
pub record Settles {V : Type 0} (old new : StoreState V) (value : V) : Type 0 where
  pub nature : PreservesNature old new
  pub no_failure : new.failures ≡ old.failures
  pub runs : new.running ≡ true
  pub finds : old.honest → FindsOnly new value

-- a step that failed: the store is stopped, and a restart would find one of these values
pub record Stops {V : Type 0} (old new : StoreState V) (values : V → Type 0) : Type 0 where
  pub nature : PreservesNature old new
  pub quiet : old.calm → new.failures ≡ old.failures
  pub stopped : new.running ≡ false
  pub within : old.honest → FindsWithin new values
  pub some : old.honest → old.sound → FindsSome new

-- of an honest store: a restart may find what it could find before
abbrev pub FindsAsBefore : {V : Type 0} → StoreState V → StoreState V → Type 0
FindsAsBefore old new = old.honest → (value : _) → new.found value ↔ old.found value

-- a step that changes nothing of what is kept, nor whether the store runs
pub record Stays {V : Type 0} (old new : StoreState V) : Type 0 where
  pub nature : PreservesNature old new
  pub no_failure : new.failures ≡ old.failures
  pub running : new.running ≡ old.running
  pub found : FindsAsBefore old new

-- a call of a store that is stopped: all stays, and what was not calm is not calm
pub record IsAlreadyStopped {V : Type 0} (old new : StoreState V) : Type 0 where
  pub was_stopped : old.running ≡ false
  pub stays : Stays old new
  pub no_calmer : new.calm → old.calm

-- an armed store is as it was, but for calm
pub record StaysButCalm {V : Type 0} (old new : StoreState V) : Type 0 where
  pub honest : old.honest ↔ new.honest
  pub sound : old.honest → old.sound → new.sound
  pub no_failure : new.failures ≡ old.failures
  pub running : new.running ≡ old.running
  pub found : FindsAsBefore old new
