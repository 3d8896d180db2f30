-- What is found when the records of a disk are looked through from its end on (this project's own).
use Rattle.std.specs.Prelude.{⊤, ◌≡◌, ◌≢◌, ◌⊎◌, ◌≤◌, ◌<◌, ℕ, Bool, true, false, List, Option, Some, None}
use Rattle.duk_service.specs.declared.left_records.Layout.TheVariants.{Log}
use Rattle.duk_store.specs.Disk.{DiskState}
use Rattle.duk_service.specs.LeftRecords.{AreClosedFrom, AreInGroups, HasFront, IsCut, IsForeignAt, IsLeftBy, IsOpen, IsZero, followers_in, gate_of, record_at}
use Rattle.duk_service.specs.declared.left_records.Mark.{Mark}
use Rattle.duk_service.specs.declared.left_records.Mark.TheVariants.{Gated, Open, Used}
use Rattle.duk_service.specs.declared.left_records.Seen.{Seen}
use Rattle.duk_service.specs.declared.left_records.Seen.TheVariants.{Cut, Empty, Foreign, Left, OtherFront}
use Rattle.duk_service.specs.declared.left_records.Layout.{Layout}

-- a record has this mark
abbrev pub HasMark : Mark → List ℕ → Type 0
HasMark Used record_bytes = ¬ IsZero record_bytes
HasMark Gated record_bytes = gate_of record_bytes ≢ 0
HasMark Open record_bytes = IsOpen record_bytes

-- a record lacks it
abbrev pub LacksMark : Mark → List ℕ → Type 0
LacksMark Used record_bytes = IsZero record_bytes
LacksMark Gated record_bytes = gate_of record_bytes ≡ 0
LacksMark Open record_bytes = ¬ IsOpen record_bytes

-- the last record with the mark, from one place on and before another
pub record HasLast (layout : Layout) (mark : Mark) (from below : ℕ) (bytes : List ℕ) (place : ℕ)
    : Type 0 where
  pub behind : from ≤ place
  pub before : place < below
  pub marked : HasMark mark (record_at layout place bytes)
  pub last : (later : ℕ) → place < later → later < below
      → LacksMark mark (record_at layout later bytes)

abbrev pub HasNone : Layout → Mark → ℕ → ℕ → List ℕ → Type 0
HasNone layout mark from below bytes =
    (place : ℕ) → from ≤ place → place < below
    → LacksMark mark (record_at layout place bytes)

abbrev pub IsLastIn : Layout → Mark → ℕ → ℕ → List ℕ → Option ℕ → Type 0
IsLastIn layout mark from below bytes None = HasNone layout mark from below bytes
IsLastIn layout mark from below bytes (Some place) = HasLast layout mark from below bytes place

-- the same of the bytes of an honest disk
abbrev pub IsLastOn : Layout → Mark → ℕ → ℕ → DiskState → Option ℕ → Type 0
IsLastOn layout mark from below disk found =
    disk.honest → IsLastIn layout mark from below disk.reads found

-- a record that was found stands before this place
abbrev pub IsBefore : ℕ → Option ℕ → Type 0
IsBefore below None = ⊤
IsBefore below (Some place) = place < below

-- so many records of an honest disk are in groups, if none is open from this place on
abbrev pub AreKeptCounted : Layout → ℕ → DiskState → ℕ → Type 0
AreKeptCounted layout below disk kept =
    disk.honest → AreClosedFrom layout below disk.reads → AreInGroups layout kept disk.reads

-- a record that is used may stand in a file of so many, of which so many are in groups
abbrev pub MayBeUsed : ℕ → ℕ → Type 0
MayBeUsed kept records = (1 < records) ⊎ (0 < kept)

-- and the last record with a gate may stand where it does
abbrev pub MayStand : Option ℕ → ℕ → ℕ → Type 0
MayStand None kept records = MayBeUsed kept records
MayStand (Some place) kept records = (place ≤ kept) × MayBeUsed kept records

-- how many records follow that at a place
abbrev pub AreFollowersRead : Layout → ℕ → DiskState → ℕ → Type 0
AreFollowersRead layout place disk followers =
    disk.honest → followers ≡ followers_in layout place (record_at layout place disk.reads)

-- whether a disk begins as the layout does, as each does for a log
abbrev pub IsFrontSeen : Layout → DiskState → Bool → Type 0
IsFrontSeen layout disk true = disk.honest → HasFront layout disk.reads
IsFrontSeen layout disk false =
    (layout ≢ Log) × (disk.honest → ¬ HasFront layout disk.reads)

-- what the bytes of a disk are seen to be; of its bytes something is said where it is honest
abbrev pub IsSeen : Layout → DiskState → Seen → Type 0
IsSeen layout disk Left = disk.honest → IsLeftBy layout disk.reads
IsSeen layout disk Empty = (disk.size ≡ 0) × (disk.honest → ¬ IsLeftBy layout disk.reads)
IsSeen layout disk Cut =
    IsCut layout disk.size × (disk.honest → ¬ IsLeftBy layout disk.reads)
IsSeen layout disk OtherFront =
    (layout ≢ Log) × (disk.honest → ¬ HasFront layout disk.reads)
IsSeen layout disk (Foreign place) = disk.honest → IsForeignAt layout place disk.reads
