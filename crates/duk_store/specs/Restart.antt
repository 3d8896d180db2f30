-- What the restart of a store does to its meaning: this project's own.
use Rattle.std.specs.Prelude.{◌≡◌, ◌≢◌}
use Rattle.duk_store.specs.StoreState.{StoreState, Settles, Stops}
use Rattle.duk_store.specs.declared.fault.StoreFault.{StoreFault}
use Rattle.duk_store.specs.declared.fault.StoreFault.TheVariants.{Device, Damaged}

-- a restart that found this
pub record Restarted {V : Type 0} (old new : StoreState V) (value : V) : Type 0 where
  pub settles : Settles old new value
  pub was_found : old.honest → old.found value

-- an honest store is not sound, and no device step failed
pub record IsDamaged {V : Type 0} (old new : StoreState V) : Type 0 where
  pub unsound : old.honest → old.sound → ⊥
  pub no_failure : new.failures ≡ old.failures

-- why a restart fails: a device step failed in it, or the medium is damaged
abbrev pub IsRestartFault : {V : Type 0} → StoreState V → StoreState V → StoreFault → Type 0
IsRestartFault old new Device = new.failures ≢ old.failures
IsRestartFault old new Damaged = IsDamaged old new
IsRestartFault old new _ = ⊥

-- a restart that failed: what it would find next time was to be found before
pub record RestartFailed {V : Type 0} (old new : StoreState V) (fault : StoreFault) : Type 0 where
  pub stops : Stops old new old.found
  pub fault_is : IsRestartFault old new fault
