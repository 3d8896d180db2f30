-- The device under a disk: this project's own.
use Rattle.std.specs.Prelude.{◌≡◌, ◌≢◌, ◌⊎◌, ◌-◌, ℕ, zero, suc, Option, Some, None}
use Rattle.duk_store.specs.Device.{one_more}

-- after how many device steps each one fails, and after how many one of them fails, if any is to
-- fail; and how many have failed
pub record DiskDevice : Type 0 where
  pub passes : Option ℕ
  pub once : Option ℕ
  pub failures : ℕ

-- as it is made: no step is to fail
abbrev pub new_disk_device : DiskDevice
new_disk_device = record { passes = None; once = None; failures = 0 }

-- no step is to fail
pub record IsCalmDevice (device : DiskDevice) : Type 0 where
  pub not_armed : device.passes ≡ None
  pub no_single_failure : device.once ≡ None

-- armed: after so many steps each one is to fail
abbrev pub armed_device : ℕ → DiskDevice → DiskDevice
armed_device steps device = record device { passes = Some steps }

-- armed no more; one step is still to fail if that was asked for
abbrev pub disarmed_device : DiskDevice → DiskDevice
disarmed_device device = record device { passes = None }

-- asked to fail at one step, after so many
abbrev pub failing_once : ℕ → DiskDevice → DiskDevice
failing_once steps device = record device { once = Some steps }

-- the next step fails: that of an arming, or the one
abbrev pub IsDue : DiskDevice → Type 0
IsDue device = (device.passes ≡ Some 0) ⊎ (device.once ≡ Some 0)

-- what a step leaves of an arming: once none is to pass, each one fails
abbrev pub passes_left : Option ℕ → Option ℕ
passes_left None = None
passes_left (Some passes) = Some (passes - 1)

-- what a step leaves of the steps up to the one that fails: after that, none is to fail
abbrev pub once_left : Option ℕ → Option ℕ
once_left None = None
once_left (Some zero) = None
once_left (Some (suc passes)) = Some passes

-- a step is counted in both, whether it passes or not
abbrev pub after_step : DiskDevice → DiskDevice
after_step device = record device {
  passes = passes_left device.passes;
  once = once_left device.once;
}

-- one more failure is counted
abbrev pub with_failure : DiskDevice → DiskDevice
with_failure device = record device { failures = one_more device.failures }

-- a step passed
pub record HasDiskStepPassed (old new : DiskDevice) : Type 0 where
  pub not_due : ¬ IsDue old
  pub device_is : new ≡ after_step old

-- a step came due
pub record IsDiskStepDue (old new : DiskDevice) : Type 0 where
  pub due : IsDue old
  pub device_is : new ≡ with_failure (after_step old)
  pub counted : new.failures ≢ old.failures

-- a step failed, as it came due or because what lies below the device failed: it is counted
pub record HasFailedStep (old new : DiskDevice) : Type 0 where
  pub device_is : new ≡ with_failure (after_step old)
  pub counted : new.failures ≢ old.failures
