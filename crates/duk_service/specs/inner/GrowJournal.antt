-- What only private functions and proofs say beside `GrowJournal.antt`: this project's own.
use Rattle.std.specs.Prelude.{◌≡◌, ◌≢◌, ◌⊎◌, ◌≤◌, ◌<◌, ◌+◌, ◌*◌, ◌++◌, ℕ, Bool, IsFalse, IsTrue, List, drop, replicate, ◌↔◌}
use Rattle.std.specs.List.{All}
use Rattle.duk_service.specs.FileEnd.{EndState}
use Rattle.duk_service.specs.GrowJournal.{HasZerosBehind, IsGrowable, most_bytes, zeros_for}
use Rattle.duk_service.specs.LeftRecords.{IsForeignAt, IsLeftBy, record_length}
use Rattle.duk_service.specs.declared.left_records.Layout.{Layout}
use Rattle.duk_service.specs.declared.left_records.Seen.{Seen}
use Rattle.duk_service.specs.declared.left_records.Seen.TheVariants.{Foreign, Left}
use Rattle.duk_service.specs.declared.grow_journal.GrowJournalFault.{GrowJournalFault}
use Rattle.duk_service.specs.declared.grow_journal.GrowJournalFault.TheVariants as fault
use Rattle.duk_store.specs.Disk.{DiskMeaning, DiskState, LeavesReads, range_of}

-- a file of this size may have so many zeros more
pub record IsToGrow (size records zeros : ℕ) : Type 0 where
  pub are : zeros ≡ zeros_for size records
  pub fits : size + zeros ≤ most_bytes

-- it may not
abbrev pub IsUngrowable : ℕ → ℕ → Type 0
IsUngrowable size records = most_bytes < size + zeros_for size records

-- so many zeros stand behind what the file had, and a stop leaves them
pub record AreZerosAppended (count : ℕ) (old new : EndState) : Type 0 where
  pub reads : new.reads ≡ old.reads ++ replicate count 0
  pub leaves : (bytes : List ℕ) → new.may_leave bytes ↔ (bytes ≡ new.reads)

-- a file of this size has so many zeros more
pub record AreZerosKept {D : Type 0} (meaning : DiskMeaning D) (size zeros : ℕ) (end : EndState)
    : Type 0 where
  pub last : D
  pub size_is : (meaning.state_of last).size ≡ size + zeros
  pub reads : end.honest → (meaning.state_of last).reads ≡ end.reads ++ replicate zeros 0
  pub leaves : end.honest → LeavesReads (meaning.state_of last)

-- it has not, or not for certain: a stop leaves some of them
pub record ZerosNotKept {D : Type 0} (meaning : DiskMeaning D) (size zeros : ℕ) (end : EndState)
    : Type 0 where
  pub last : D
  pub failed : (¬ end.calm) ⊎ ((meaning.state_of last).size ≢ size + zeros)
  pub left : end.honest → (bytes : List ℕ) → (meaning.state_of last).may_leave bytes
      → (before : List ℕ) × end.may_leave before × HasZerosBehind zeros before bytes

-- why it is not made longer
abbrev pub AreZerosNotKept : {D : Type 0} → DiskMeaning D → ℕ → ℕ → EndState → GrowJournalFault
    → Type 0
AreZerosNotKept meaning size count end fault.Ungrown = ZerosNotKept meaning size count end
AreZerosNotKept meaning size count end _ = ⊥

-- so many records in front, as bytes
abbrev pub front_of : Layout → ℕ → List ℕ → List ℕ
front_of layout records bytes = range_of (record_length layout * 0) (record_length layout * records) bytes

-- all bytes behind them are zeros
abbrev pub AreZerosBehind : Layout → ℕ → List ℕ → Type 0
AreZerosBehind layout records bytes =
    All (λ byte. byte ≡ 0) (drop (record_length layout * records) bytes)

-- what so many records in front of a disk are seen to be, where all behind them are zeros
abbrev pub IsPartSeen : Layout → ℕ → DiskState → Seen → Type 0
IsPartSeen layout records disk Left = disk.honest → AreZerosBehind layout records disk.reads
    → IsLeftBy layout (front_of layout records disk.reads)
IsPartSeen layout records disk (Foreign place) =
    disk.honest → AreZerosBehind layout records disk.reads
    → IsForeignAt layout place (front_of layout records disk.reads)
IsPartSeen layout records disk _ = ⊥

-- so many bytes from a place on are seen to be zeros, or not to be
pub record AreSeenZeros (at count : ℕ) (disk : DiskState) (are : Bool) : Type 0 where
  pub zeros : IsTrue are → disk.honest → All (λ byte. byte ≡ 0) (range_of at count disk.reads)
  pub others : IsFalse are → disk.honest → ¬ All (λ byte. byte ≡ 0) (range_of at count disk.reads)

-- a file with the bytes of a disk is seen to be one that may be made larger, or not to be
pub record IsSeenToGrow (layout : Layout) (disk : DiskState) (may : Bool) : Type 0 where
  pub growable : IsTrue may → disk.honest → IsGrowable layout disk.reads
  pub foreign : IsFalse may → disk.honest → ¬ IsGrowable layout disk.reads
