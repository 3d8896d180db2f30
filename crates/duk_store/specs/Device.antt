-- The device under a store in memory: this project's own.
use Rattle.std.specs.Prelude.{◌≡◌, ◌+◌, ◌%◌, ◌^◌, ℕ, Bool, true, false, Option, Some, None}

-- whether the store runs, how many device steps pass before one fails, if any is to fail, and how
-- many have failed
pub record Device : Type 0 where
  pub running : Bool
  pub passes : Option ℕ
  pub failures : ℕ

-- as it is made: stopped, and no step is to fail
abbrev pub new_device : Device
new_device = record { running = false; passes = None; failures = 0 }

-- brought up: no step is to fail any more
abbrev pub started : Device → Device
started device = record device { running = true; passes = None }

-- armed: so many steps are to pass
abbrev pub armed : ℕ → Device → Device
armed steps device = record device { passes = Some steps }

-- one more failure, in a number of 64 bits
abbrev pub one_more : ℕ → ℕ
one_more failures = (failures + 1) % 2 ^ 64

-- a step has failed, and the store is stopped
abbrev pub failed : Device → Device
failed device =
    record device { running = false; passes = Some 0; failures = one_more device.failures }

-- how many steps are to pass after the two of a write
abbrev pub after_two : Option ℕ → Option ℕ → Type 0
after_two None passes = passes ≡ None
after_two (Some before) passes = (after : ℕ) × (before ≡ after + 2) × (passes ≡ Some after)

-- both steps of a write passed
pub record HavePassed (old new : Device) : Type 0 where
  pub runs : old.running ≡ true
  pub passes_are : after_two old.passes new.passes
  pub device_is : new ≡ record old { passes = new.passes }

-- the first step of a write came due, or the second
pub record IsDueAt (step : ℕ) (old new : Device) : Type 0 where
  pub runs : old.running ≡ true
  pub due : old.passes ≡ Some step
  pub device_is : new ≡ failed old
