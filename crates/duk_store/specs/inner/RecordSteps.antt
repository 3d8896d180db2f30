-- What the device calls that bring records up do to their disk: this project's own.
use Rattle.std.specs.Prelude.{◌≡◌, ◌⊎◌, ◌<◌, ◌≤◌, ◌+◌, ◌*◌, ◌^◌, ℕ, List, ◌++◌, ◌∷◌, length, Option, Some, None}
use Rattle.duk_store.specs.Disk.{DiskState, HasFailed, LeavesReads, LeavesWithin, PreservesBytes, PreservesDisk}
use Rattle.duk_store.specs.declared.fault.StoreFault.{StoreFault}
use Rattle.duk_store.specs.declared.fault.StoreFault.TheVariants.{Damaged}
use Rattle.duk_store.specs.Format.{FormatMeaning}
use Rattle.duk_store.specs.Records.{AreListed, HasHeader, IsRecordsSize, KeepsItems, identity_in}
use Rattle.duk_store.specs.Visitor.{TakesAll}
use Rattle.duk_store.specs.inner.Reading.{IsUnreadable, ReadsOn}
use Rattle.duk_store.specs.declared.reading.Reading.{Reading}

-- the disk has one image, in which so many items are kept
pub record HoldsCount
    {I : Type 0} (format : FormatMeaning I) (count : ℕ) (disk : DiskState) : Type 0 where
  pub leaves : LeavesReads disk
  pub items : List I
  pub keeps : KeepsItems format disk.reads items
  pub counted : length items ≡ count

-- an honest disk has this identity
abbrev pub HasIdentity : {I : Type 0} → FormatMeaning I → ℕ → DiskState → Type 0
HasIdentity format identity disk = disk.honest → identity_in format disk.reads ≡ identity

-- what running records know of their disk is so
pub record KnowsCount {I : Type 0} (format : FormatMeaning I) (identity count : ℕ)
    (disk : DiskState) : Type 0 where
  pub size : IsRecordsSize format disk.size
  pub size_fits : disk.size < 2 ^ 64
  pub fits : format.record_length * (format.headers + count) ≤ disk.size
  pub identity_is : HasIdentity format identity disk
  pub holds : disk.honest → HoldsCount format count disk

abbrev pub KnowsRecords : {I : Type 0} → FormatMeaning I → ℕ → DiskState → Option ℕ → Type 0
KnowsRecords format identity disk None = Unit {0}
KnowsRecords format identity disk (Some count) = KnowsCount format identity count disk

-- a call that changes nothing
pub record StaysSame (old new : DiskState) : Type 0 where
  pub nature : PreservesDisk old new
  pub no_failure : new.failures ≡ old.failures
  pub bytes : PreservesBytes old new

-- a reading of one record in which the device step failed: nothing else changes
pub record RecordUnread (old new : DiskState) (fault : StoreFault) : Type 0 where
  pub nature : PreservesDisk old new
  pub failed : HasFailed old new fault
  pub bytes : PreservesBytes old new

-- the disk is brought up, and all that was torn is synced
pub record IsDiskOpen {I : Type 0} (format : FormatMeaning I) (old new : DiskState) : Type 0 where
  pub nature : PreservesDisk old new
  pub no_failure : new.failures ≡ old.failures
  pub leaves : old.honest → LeavesReads new
  pub found : old.honest → old.may_leave new.reads
  pub disarmed : new.disarmed
  pub size : IsRecordsSize format new.size
  pub size_fits : new.size < 2 ^ 64

-- why a call fails: a device step failed, or the disk is damaged in some way
abbrev pub IsDeviceOrDamage : Type 0 → DiskState → DiskState → StoreFault → Type 0
IsDeviceOrDamage damage old new fault = HasFailed old new fault
    ⊎ ((fault ≡ Damaged) × ((new.failures ≡ old.failures) × damage))

pub record OpenFailed {I : Type 0} (format : FormatMeaning I) (old new : DiskState)
    (fault : StoreFault) : Type 0 where
  pub nature : PreservesDisk old new
  pub disarmed : new.disarmed
  pub within : LeavesWithin old new
  pub cause : IsDeviceOrDamage (¬ IsRecordsSize format old.size) old new fault

-- the header is none of the format's, or is not read
pub record HeaderFailed {I : Type 0} (format : FormatMeaning I) (old new : DiskState)
    (fault : StoreFault) : Type 0 where
  pub nature : PreservesDisk old new
  pub bytes : PreservesBytes old new
  pub cause : IsDeviceOrDamage (old.honest → ¬ HasHeader format old.reads) old new fault

-- the bytes of an honest disk from a place on
abbrev pub IsReadFrom : DiskState → ℕ → ℕ → List ℕ → Type 0
IsReadFrom disk from place bytes = disk.honest × ((place ≡ from) × (bytes ≡ disk.reads))

-- the records of a piece are read, and nothing changes
pub record AreRecordsRead {I V : Type 0} (format : FormatMeaning I) (takes : V → I → V → Type 0)
    (place count : ℕ) (before : Reading) (old new : DiskState) (visitor visited : V)
    (after : Reading) : Type 0 where
  pub stays : StaysSame old new
  pub reads : ReadsOn format takes before count (IsReadFrom old place) visitor visited after

-- why they are not
pub record RecordsUnread {I V : Type 0} (format : FormatMeaning I) (takes : V → I → V → Type 0)
    (refuses : V → I → StoreFault → Type 0) (place : ℕ) (before : Reading) (old new : DiskState)
    (visitor : V) (fault : StoreFault) : Type 0 where
  pub nature : PreservesDisk old new
  pub bytes : PreservesBytes old new
  pub cause : HasFailed old new fault ⊎ ((new.failures ≡ old.failures)
      × IsUnreadable format takes refuses before (IsReadFrom old place) visitor fault)

-- all records are read
pub record AreAllRead {I V : Type 0} (format : FormatMeaning I) (takes : V → I → V → Type 0)
    (old new : DiskState) (visitor visited : V) (count : ℕ) : Type 0 where
  pub stays : StaysSame old new
  pub items : List I
  pub taken : TakesAll takes items visitor visited
  pub counted : length items ≡ count
  pub fits : format.record_length * (format.headers + count) ≤ old.size
  pub listed : old.honest → AreListed format items old.reads

-- records are brought up: their items were taken, and what is known of the disk is so
pub record AreRecordsUp {I V : Type 0} (format : FormatMeaning I) (takes : V → I → V → Type 0)
    (old new : DiskState) (visitor visited : V) (count : ℕ) : Type 0 where
  pub nature : PreservesDisk old new
  pub no_failure : new.failures ≡ old.failures
  pub disarmed : new.disarmed
  pub size : IsRecordsSize format new.size
  pub size_fits : new.size < 2 ^ 64
  pub fits : format.record_length * (format.headers + count) ≤ new.size
  pub leaves : old.honest → LeavesReads new
  pub found : old.honest → old.may_leave new.reads
  pub items : List I
  pub taken : TakesAll takes items visitor visited
  pub counted : length items ≡ count
  pub keeps : old.honest → KeepsItems format new.reads items

-- what a stop leaves of a disk that has no size of the format's, or keeps no list
abbrev pub IsDamagedDisk : {I : Type 0} → FormatMeaning I → DiskState → Type 0
IsDamagedDisk {I} format disk = (¬ IsRecordsSize format disk.size)
    ⊎ ((bytes : List ℕ) × disk.may_leave bytes
    × ((items : List I) → ¬ KeepsItems format bytes items))

-- a visitor refused an item, which each list in any bytes that a stop leaves now has there
pub record IsVisitRefused {I V : Type 0} (format : FormatMeaning I) (takes : V → I → V → Type 0)
    (refuses : V → I → StoreFault → Type 0) (old new : DiskState) (visitor : V) (fault : StoreFault)
    : Type 0 where
  pub earlier : List I
  pub item : I
  pub visited : V
  pub taken : TakesAll takes earlier visitor visited
  pub refused : refuses visited item fault
  pub begins : old.honest → (bytes : List ℕ) → new.may_leave bytes
      → (items : List I) → KeepsItems format bytes items
      → (rest : List I) × (items ≡ earlier ++ item ∷ rest)

-- why records are not brought up
abbrev pub IsUpFault : {I V : Type 0} → FormatMeaning I → (V → I → V → Type 0)
    → (V → I → StoreFault → Type 0) → DiskState → DiskState → V → StoreFault → Type 0
IsUpFault format takes refuses old new visitor fault =
    IsDeviceOrDamage (old.honest → IsDamagedDisk format old) old new fault
    ⊎ ((new.failures ≡ old.failures) × IsVisitRefused format takes refuses old new visitor fault)

pub record RecordsUpFailed {I V : Type 0} (format : FormatMeaning I) (takes : V → I → V → Type 0)
    (refuses : V → I → StoreFault → Type 0) (old new : DiskState) (visitor : V)
    (fault : StoreFault) : Type 0 where
  pub nature : PreservesDisk old new
  pub disarmed : new.disarmed
  pub within : LeavesWithin old new
  pub cause : IsUpFault format takes refuses old new visitor fault
