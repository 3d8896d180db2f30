-- What a log of used numbers means, and what its calls do to that: this project's own.
use Rattle.std.specs.Prelude.{◌≡◌, ◌≢◌, ◌⊎◌, ◌-◌, true, false, ℕ, List, [], ◌∷◌, ◌++◌, length, Some, slice_get, if◌then◌else◌}
use Rattle.duk_tree.specs.Serial.{Serial}
use Rattle.duk_store.specs.StoreState.{StoreState, FindsAsBefore, FindsOnly, IsAlreadyStopped, PreservesNature, Stops, Stays}
use Rattle.duk_store.specs.Restart.{Restarted}
use Rattle.duk_store.specs.declared.fault.StoreFault.{StoreFault}
use Rattle.duk_store.specs.declared.fault.StoreFault.TheVariants.{Device, Stopped}

-- what a log keeps: the used numbers in the order in which they were appended
abbrev pub Numbers : Type 0
Numbers = List Serial

-- what the logs of one kind mean
pub record LogMeaning (L : Type 0) : Type 1 where
  -- what a restart may find, whether it runs, and how often it failed
  pub state_of : L → StoreState Numbers
  -- how many numbers it counts: those that a restart found, and one for each that was appended
  -- since
  pub count : L → ℕ
  -- how many numbers it may keep
  pub capacity : L → ℕ
  -- no device step is to fail on account of arming
  pub disarmed : L → Type 0
  -- how arming with a number of steps leaves it
  pub arms : L → ℕ → L → Type 0

-- how many numbers a log reports that it keeps: none while it is stopped
abbrev pub length_of : {L : Type 0} → LogMeaning L → L → ℕ
length_of meaning log = if (meaning.state_of log).running then meaning.count log else 0

-- for how many more it has room: none while it is stopped
abbrev pub room_of : {L : Type 0} → LogMeaning L → L → ℕ
room_of meaning log =
    if (meaning.state_of log).running then meaning.capacity log - meaning.count log else 0

-- a restart that found this many numbers
pub record LogRestarted
    {L : Type 0} (meaning : LogMeaning L) (old new : L) (found : ℕ) : Type 0 where
  pub numbers : Numbers
  pub restarted : Restarted (meaning.state_of old) (meaning.state_of new) numbers
  pub counted : (meaning.state_of old).honest → length numbers ≡ found

-- these lists, each with the number at its end
abbrev pub WithNumber : (Numbers → Type 0) → Serial → Numbers → Type 0
WithNumber lists number numbers =
    (earlier : Numbers) × lists earlier × (numbers ≡ earlier ++ number ∷ [])

-- a number that is appended: a restart finds the list with it at its end, and nothing else
pub record IsAppended
    {L : Type 0} (meaning : LogMeaning L) (old new : L) (number : Serial) : Type 0 where
  pub was_running : (meaning.state_of old).running ≡ true
  pub nature : PreservesNature (meaning.state_of old) (meaning.state_of new)
  pub no_failure : (meaning.state_of new).failures ≡ (meaning.state_of old).failures
  pub runs : (meaning.state_of new).running ≡ true
  pub finds : (meaning.state_of old).honest → (numbers : Numbers)
      → FindsOnly (meaning.state_of old) numbers
      → FindsOnly (meaning.state_of new) (numbers ++ number ∷ [])

-- the old lists, or one of them with the number at its end
abbrev pub OldOrAppended : StoreState Numbers → Serial → Numbers → Type 0
OldOrAppended old number numbers = old.found numbers ⊎ WithNumber old.found number numbers

-- an append in which a device step failed
pub record AppendStopped
    {L : Type 0} (meaning : LogMeaning L) (old new : L) (number : Serial) : Type 0 where
  pub was_running : (meaning.state_of old).running ≡ true
  pub stops : Stops (meaning.state_of old) (meaning.state_of new)
      (OldOrAppended (meaning.state_of old) number)
  pub failure : (meaning.state_of new).failures ≢ (meaning.state_of old).failures

-- why a number is not appended, and what that leaves
abbrev pub AppendFailed : {L : Type 0} → LogMeaning L → L → L → Serial → StoreFault → Type 0
AppendFailed meaning old new number Device = AppendStopped meaning old new number
AppendFailed meaning old new number Stopped =
    IsAlreadyStopped (meaning.state_of old) (meaning.state_of new)
AppendFailed meaning old new number _ = ⊥

-- the number stands at this place of each list that a restart may find
abbrev pub StandsAt : StoreState Numbers → ℕ → Serial → Type 0
StandsAt log place number =
    (numbers : Numbers) → log.found numbers → slice_get numbers place ≡ Some number

-- a number that is read
pub record IsReadAt
    {L : Type 0} (meaning : LogMeaning L) (old new : L) (place : ℕ) (number : Serial) : Type 0 where
  pub was_running : (meaning.state_of old).running ≡ true
  pub stays : Stays (meaning.state_of old) (meaning.state_of new)
  pub number_is : (meaning.state_of old).honest → StandsAt (meaning.state_of old) place number

-- a reading in which a device step failed: the log is stopped, and a restart may find what it could
-- find before
pub record ReadStopped {L : Type 0} (meaning : LogMeaning L) (old new : L) : Type 0 where
  pub was_running : (meaning.state_of old).running ≡ true
  pub nature : PreservesNature (meaning.state_of old) (meaning.state_of new)
  pub not_calm : ¬ (meaning.state_of old).calm
  pub stopped : (meaning.state_of new).running ≡ false
  pub found : FindsAsBefore (meaning.state_of old) (meaning.state_of new)
  pub failure : (meaning.state_of new).failures ≢ (meaning.state_of old).failures

-- why a number is not read, and what that leaves
abbrev pub ReadFailed : {L : Type 0} → LogMeaning L → L → L → StoreFault → Type 0
ReadFailed meaning old new Device = ReadStopped meaning old new
ReadFailed meaning old new Stopped = IsAlreadyStopped (meaning.state_of old) (meaning.state_of new)
ReadFailed meaning old new _ = ⊥
