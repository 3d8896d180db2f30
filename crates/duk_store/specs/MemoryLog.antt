-- A log of used numbers in memory: this project's own.
use Rattle.std.specs.Prelude.{◌≡◌, ◌⊎◌, ℕ, false, [], ◌∷◌, ◌++◌, None, length}
use Rattle.duk_tree.specs.Serial.{Serial}
use Rattle.duk_store.specs.Device.{Device, HavePassed, IsDueAt, armed, new_device, started}
use Rattle.duk_store.specs.Log.{LogMeaning, Numbers}
use Rattle.duk_store.specs.StoreState.{StoreState}
use Rattle.duk_store.specs.declared.fault.StoreFault.{StoreFault}
use Rattle.duk_store.specs.declared.fault.StoreFault.TheVariants as fault

-- what a log in memory is: the numbers that it keeps, for how many it has room in all, and its
-- device
pub record MemoryLog : Type 0 where
  pub numbers : Numbers
  pub capacity : ℕ
  pub device : Device

-- a new log: no number is kept
abbrev pub new_log : ℕ → MemoryLog
new_log capacity = record { numbers = []; capacity = capacity; device = new_device }

-- its state: a restart finds the numbers that it keeps, and it is calm where no step is to fail
abbrev pub memory_log_state : MemoryLog → StoreState Numbers
memory_log_state log = record {
  honest = Unit {0};
  sound = Unit {0};
  calm = log.device.passes ≡ None;
  running = log.device.running;
  found = λ numbers. numbers ≡ log.numbers;
  failures = log.device.failures;
}

-- the log, brought up
abbrev pub restarted_log : MemoryLog → MemoryLog
restarted_log log = record log { device = started log.device }

-- the log, armed: so many steps are to pass
abbrev pub armed_log : ℕ → MemoryLog → MemoryLog
armed_log steps log = record log { device = armed steps log.device }

-- what logs in memory mean
abbrev pub memory_log_meaning : LogMeaning MemoryLog
memory_log_meaning = record {
  state_of = memory_log_state;
  count = λ log. length log.numbers;
  capacity = λ log. log.capacity;
  disarmed = λ log. log.device.passes ≡ None;
  arms = λ old steps new. new ≡ armed_log steps old;
}

-- the numbers with one more at their end
abbrev pub with_number : MemoryLog → Serial → Numbers
with_number log number = log.numbers ++ number ∷ []

-- an append is done: both of its steps pass, and the number is kept
pub record IsMemoryAppended (old new : MemoryLog) (number : Serial) : Type 0 where
  pub passed : HavePassed old.device new.device
  pub kept : new.numbers ≡ with_number old number
  pub same_capacity : new.capacity ≡ old.capacity

-- an append is refused: the log is stopped
pub record IsLogStopped (old new : MemoryLog) : Type 0 where
  pub stopped : old.device.running ≡ false
  pub same : new ≡ old

-- an append fails at its first step: the log keeps what it kept
pub record IsFirstAppendStepDue (old new : MemoryLog) : Type 0 where
  pub due : IsDueAt 0 old.device new.device
  pub kept : new.numbers ≡ old.numbers
  pub same_capacity : new.capacity ≡ old.capacity

-- an append fails at its second step: the log keeps the number
pub record IsSecondAppendStepDue (old new : MemoryLog) (number : Serial) : Type 0 where
  pub due : IsDueAt 1 old.device new.device
  pub kept : new.numbers ≡ with_number old number
  pub same_capacity : new.capacity ≡ old.capacity

-- why an append is not done
abbrev pub MemoryAppendFailed : MemoryLog → MemoryLog → Serial → StoreFault → Type 0
MemoryAppendFailed old new number fault.Device =
    IsFirstAppendStepDue old new ⊎ IsSecondAppendStepDue old new number
MemoryAppendFailed old new number fault.Stopped = IsLogStopped old new
MemoryAppendFailed old new number _ = ⊥
