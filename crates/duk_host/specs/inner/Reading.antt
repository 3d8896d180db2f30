-- How a host reads the used numbers from its log: this project's own.
use Rattle.std.specs.Prelude.{◌≡◌, ◌≤◌, ◌⊎◌, ℕ, length, take}
use Rattle.duk_store.specs.Log.{LogMeaning, Numbers, IsReadAt, ReadStopped}
use Rattle.duk_store.specs.StoreState.{Stays}
use Rattle.duk_store.specs.declared.fault.StoreFault.TheVariants.{Device, Damaged}
use Rattle.duk_tree.specs.Path.{IsUsable}
use Rattle.duk_tree.specs.Serial.{Serial}
use Rattle.duk_host.specs.Used.{AreUsable, IsOneMore, IsUsed, Lists}
use Rattle.duk_host.specs.declared.fault.HostFault.{HostFault}
use Rattle.duk_host.specs.declared.fault.HostFault.TheVariants as fault

-- a number that was not used before is used
pub record IsTakenIn (used : Numbers) (ksn : Serial) (more : Numbers) : Type 0 where
  pub usable : IsUsable ksn.counter
  pub fresh : ¬ IsUsed used ksn
  pub one_more : IsOneMore used ksn more

-- a number that is not to be used: it numbers no transaction, or was used before
abbrev pub IsBadNumber : Numbers → Serial → Type 0
IsBadNumber used ksn = (¬ IsUsable ksn.counter) ⊎ IsUsed used ksn

-- why a number is not taken in (of memory nothing is said)
abbrev pub TakeInRefused : Numbers → Serial → HostFault → Type 0
TakeInRefused used ksn fault.NoMemory = Unit {0}
TakeInRefused used ksn (fault.Store why) = (why ≡ Damaged) × IsBadNumber used ksn
TakeInRefused used ksn _ = ⊥

-- the number at a place of the log is read, and taken in
pub record IsReadOne
    {L : Type 0} (meaning : LogMeaning L) (old new : L) (place : ℕ)
    (used more : Numbers) : Type 0 where
  pub number : Serial
  pub read : IsReadAt meaning old new place number
  pub taken : IsTakenIn used number more

-- the number at a place of the log is read, and not to be used
pub record IsBadPlace
    {L : Type 0} (meaning : LogMeaning L) (old new : L) (place : ℕ) (used : Numbers) : Type 0 where
  pub number : Serial
  pub read : IsReadAt meaning old new place number
  pub bad : IsBadNumber used number

-- why the number at a place is not taken in, and what that leaves
abbrev pub ReadOneRefused : {L : Type 0} → LogMeaning L → L → L → ℕ → Numbers → HostFault → Type 0
ReadOneRefused meaning old new place used fault.NoMemory =
    Stays (meaning.state_of old) (meaning.state_of new)
ReadOneRefused meaning old new place used (fault.Store why) =
    ((why ≡ Device) × ReadStopped meaning old new)
    ⊎ ((why ≡ Damaged) × IsBadPlace meaning old new place used)
ReadOneRefused meaning old new place used _ = ⊥

-- the first numbers of the log are these
pub record AreFirstNumbers
    {L : Type 0} (meaning : LogMeaning L) (old new : L) (seen : Numbers) : Type 0 where
  pub stays : Stays (meaning.state_of old) (meaning.state_of new)
  pub first : (meaning.state_of old).honest → (numbers : Numbers)
      → (meaning.state_of old).found numbers → take (length seen) numbers ≡ seen

-- as many numbers of the log are read, and they are the used ones
pub record AreRead
    {L : Type 0} (meaning : LogMeaning L) (old new : L) (count : ℕ) (used : Numbers) : Type 0 where
  pub seen : Numbers
  pub read : AreFirstNumbers meaning old new seen
  pub counted : length seen ≡ count
  pub lists : Lists seen used

-- the first numbers of the log, at most as many, are none that may be used
pub record AreBad {L : Type 0} (meaning : LogMeaning L) (old new : L) (count : ℕ) : Type 0 where
  pub seen : Numbers
  pub read : AreFirstNumbers meaning old new seen
  pub counted : length seen ≤ count
  pub not_usable : ¬ AreUsable seen

-- why the numbers of the log are not read, and what that leaves
abbrev pub ReadAllRefused : {L : Type 0} → LogMeaning L → L → L → ℕ → HostFault → Type 0
ReadAllRefused meaning old new count fault.NoMemory =
    Stays (meaning.state_of old) (meaning.state_of new)
ReadAllRefused meaning old new count (fault.Store why) =
    ((why ≡ Device) × ReadStopped meaning old new)
    ⊎ ((why ≡ Damaged) × AreBad meaning old new count)
ReadAllRefused meaning old new count _ = ⊥
