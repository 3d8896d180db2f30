-- What the device calls of an append do to the disk, where they are done and where one fails: this
-- project's own.
use Rattle.std.specs.Prelude.{◌≡◌, ◌≢◌, ◌⊎◌, ◌<◌, ◌≤◌, ◌+◌, ◌*◌, ◌^◌, ℕ, List, length}
use Rattle.duk_store.specs.Disk.{DiskState, HasFailed, LeavesReads, PreservesDisk, written}
use Rattle.duk_store.specs.declared.fault.StoreFault.{StoreFault}
use Rattle.duk_store.specs.Format.{FormatMeaning}
use Rattle.duk_store.specs.Records.{IsOpen, after_gate, gate_of, record_at}
use Rattle.duk_store.specs.inner.Groups.{AreWritten}

-- bytes in which all gates are as they were, and all records but so many from a place on
pub record LeavesGates (long place count : ℕ) (before after : List ℕ) : Type 0 where
  pub same_length : length after ≡ length before
  pub gates : (other : ℕ)
      → gate_of (record_at long other after) ≡ gate_of (record_at long other before)
  pub beside : (other : ℕ) → (other < place) ⊎ (place + count ≤ other)
      → record_at long other after ≡ record_at long other before

-- bytes in which all is as it was but the gate of the record at a place
pub record LeavesAllButGate (long place : ℕ) (before after : List ℕ) : Type 0 where
  pub same_length : length after ≡ length before
  pub contents : after_gate (record_at long place after) ≡ after_gate (record_at long place before)
  pub beside : (other : ℕ) → other ≢ place
      → record_at long other after ≡ record_at long other before

-- the disk has so many records of this length from this place on, at addresses of 64 bits
pub record HasRecords (long place count : ℕ) (disk : DiskState) : Type 0 where
  pub inside : long * (place + count) ≤ disk.size
  pub fits : disk.size < 2 ^ 64

-- what the disk of running records leaves is what a read of it gives
abbrev pub LeavesOne : DiskState → Type 0
LeavesOne disk = disk.honest → LeavesReads disk

-- whatever a stop leaves is changed so from what a read gave
abbrev pub MayLeaveChanged : (List ℕ → List ℕ → Type 0) → DiskState → DiskState → Type 0
MayLeaveChanged change old new =
    old.honest → (bytes : List ℕ) → new.may_leave bytes → change old.reads bytes

-- contents that say this are written into a record
pub record IsRecordWritten {I : Type 0} (format : FormatMeaning I) (identity place followers : ℕ) (item : I)
    (before after : List ℕ) : Type 0 where
  pub contents : List ℕ
  pub says : format.says identity place followers item contents
  pub is : after ≡ written before (format.record_length * place + 1) contents

-- the contents of the first records of a group are written, and not synced
pub record AreContentsWritten {I : Type 0} (format : FormatMeaning I) (identity count : ℕ) (group : List I)
    (place : ℕ) (before after : List ℕ) : Type 0 where
  pub leaves : LeavesGates format.record_length place (length group) before after
  pub contents : AreWritten format identity count group place after

pub record WritesContents {I : Type 0} (format : FormatMeaning I) (identity count : ℕ) (group : List I)
    (place : ℕ) (old new : DiskState) : Type 0 where
  pub nature : PreservesDisk old new
  pub no_failure : new.failures ≡ old.failures
  pub torn : MayLeaveChanged (LeavesGates format.record_length place (length group)) old new
  pub reads : old.honest → AreContentsWritten format identity count group place old.reads new.reads

-- a device call failed in it
pub record ContentsFailed
    (long place count : ℕ) (old new : DiskState) (fault : StoreFault) : Type 0 where
  pub nature : PreservesDisk old new
  pub failed : HasFailed old new fault
  pub torn : MayLeaveChanged (LeavesGates long place count) old new

-- a group is written and open: nothing else is changed
pub record IsGroupWritten {I : Type 0} (format : FormatMeaning I) (identity : ℕ) (group : List I) (place : ℕ)
    (before after : List ℕ) : Type 0 where
  pub is_open : IsOpen (record_at format.record_length place after)
  pub contents : AreWritten format identity (length group) group place after
  pub gates : (other : ℕ) → other ≢ place
      → gate_of (record_at format.record_length other after)
      ≡ gate_of (record_at format.record_length other before)
  pub beside : (other : ℕ) → (other < place) ⊎ (place + length group ≤ other)
      → record_at format.record_length other after ≡ record_at format.record_length other before

-- it is written in part: all gates are as they were, or all contents are written, and any byte
-- stands in the gate of the first record
pub record IsGroupTorn {I : Type 0} (format : FormatMeaning I) (identity : ℕ) (group : List I) (place : ℕ)
    (before after : List ℕ) : Type 0 where
  pub torn : (gate_of (record_at format.record_length place after)
      ≡ gate_of (record_at format.record_length place before))
      ⊎ AreWritten format identity (length group) group place after
  pub gates : (other : ℕ) → other ≢ place
      → gate_of (record_at format.record_length other after)
      ≡ gate_of (record_at format.record_length other before)
  pub beside : (other : ℕ) → (other < place) ⊎ (place + length group ≤ other)
      → record_at format.record_length other after ≡ record_at format.record_length other before

pub record WritesGroup {I : Type 0} (format : FormatMeaning I) (identity : ℕ) (group : List I) (place : ℕ)
    (old new : DiskState) : Type 0 where
  pub nature : PreservesDisk old new
  pub no_failure : new.failures ≡ old.failures
  pub leaves : old.honest → LeavesReads new
  pub written : old.honest → IsGroupWritten format identity group place old.reads new.reads

pub record GroupFailed {I : Type 0} (format : FormatMeaning I) (identity : ℕ) (group : List I) (place : ℕ)
    (old new : DiskState) (fault : StoreFault) : Type 0 where
  pub nature : PreservesDisk old new
  pub failed : HasFailed old new fault
  pub torn : MayLeaveChanged (IsGroupTorn format identity group place) old new

-- the contents of a group are written and synced
pub record SyncsContents {I : Type 0} (format : FormatMeaning I) (identity : ℕ) (group : List I) (place : ℕ)
    (old new : DiskState) : Type 0 where
  pub nature : PreservesDisk old new
  pub no_failure : new.failures ≡ old.failures
  pub leaves : old.honest → LeavesReads new
  pub written : old.honest
      → AreContentsWritten format identity (length group) group place old.reads new.reads

-- the gate of a record is opened and synced
pub record OpensGate (long place : ℕ) (old new : DiskState) : Type 0 where
  pub nature : PreservesDisk old new
  pub no_failure : new.failures ≡ old.failures
  pub leaves : old.honest → LeavesReads new
  pub is_open : old.honest → IsOpen (record_at long place new.reads)
  pub all_but : old.honest → LeavesAllButGate long place old.reads new.reads

-- a device call failed in it
pub record GateFailed
    (long place : ℕ) (old new : DiskState) (fault : StoreFault) : Type 0 where
  pub nature : PreservesDisk old new
  pub failed : HasFailed old new fault
  pub all_but : MayLeaveChanged (LeavesAllButGate long place) old new
