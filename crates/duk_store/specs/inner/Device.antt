-- What only private functions and proofs say beside `Device.antt`: this project's own.
use Rattle.std.specs.Prelude.{◌≡◌, ◌≢◌, ◌+◌, ℕ, Option, Some, None}
use Rattle.duk_store.specs.Device.{Device, failed}

-- how many steps are to pass after one
abbrev pub after_one : Option ℕ → Option ℕ → Type 0
after_one None passes = passes ≡ None
after_one (Some before) passes = (after : ℕ) × (before ≡ after + 1) × (passes ≡ Some after)

-- a step passed
pub record HasPassed (old new : Device) : Type 0 where
  pub passes_are : after_one old.passes new.passes
  pub device_is : new ≡ record old { passes = new.passes }

-- a step came due
pub record IsStepDue (old new : Device) : Type 0 where
  pub due : old.passes ≡ Some 0
  pub device_is : new ≡ failed old
  pub counted : new.failures ≢ old.failures
