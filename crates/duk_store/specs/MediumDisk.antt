-- A disk over a medium: this project's own.
use Rattle.std.specs.Prelude.{◌≡◌, ℕ, length, None}
use Rattle.duk_store.specs.Disk.{DiskMeaning, DiskState}
use Rattle.duk_store.specs.DiskDevice.{DiskDevice, IsCalmDevice, armed_device, new_disk_device}
use Rattle.duk_store.specs.Medium.{MediumState, as_disk}

-- a disk over a medium: the medium, how many bytes it had when the disk was made, and the device,
-- which comes before it
pub record MediumDiskOf (M : Type 0) : Type 0 where
  pub medium : M
  pub size : ℕ
  pub device : DiskDevice

-- the disk as it is made: no step is to fail by arming
abbrev pub new_medium_disk : {M : Type 0} → M → ℕ → MediumDiskOf M
new_medium_disk medium size =
    record { medium = medium; size = size; device = new_disk_device }

-- the medium is honest and has the size of the disk
pub record IsHonestOver (medium : MediumState) (size : ℕ) : Type 0 where
  pub medium_honest : medium.honest
  pub size_is : length medium.reads ≡ size

-- neither the medium nor the device fails
pub record IsCalmOver (medium : MediumState) (device : DiskDevice) : Type 0 where
  pub medium_calm : medium.calm
  pub device_calm : IsCalmDevice device

-- the state of a disk: its bytes are those of its medium, its count and arming those of its device
abbrev pub medium_disk_state : {M : Type 0} → (M → MediumState) → MediumDiskOf M → DiskState
medium_disk_state state disk = record (as_disk (state disk.medium)) {
  honest = IsHonestOver (state disk.medium) disk.size;
  calm = IsCalmOver (state disk.medium) disk.device;
  disarmed = disk.device.passes ≡ None;
  size = disk.size;
  failures = disk.device.failures;
}

-- the disk, armed to fail at each step after so many
abbrev pub armed_medium_disk : {M : Type 0} → ℕ → MediumDiskOf M → MediumDiskOf M
armed_medium_disk steps disk = record disk { device = armed_device steps disk.device }

-- what the disks over media of one kind mean
abbrev pub medium_disk_meaning : {M : Type 0} → (M → MediumState) → DiskMeaning (MediumDiskOf M)
medium_disk_meaning state = record {
  state_of = medium_disk_state state;
  arms = λ old steps new. new ≡ armed_medium_disk steps old;
}
