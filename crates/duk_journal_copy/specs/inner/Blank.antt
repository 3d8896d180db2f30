-- What only private functions and proofs say beside `Blank.antt`: this project's own.
use Rattle.std.specs.Prelude.{◌≡◌, ◌-◌, ℕ, replicate, slice_index}
use Rattle.duk_store.specs.Disk.{DiffersWithin, DiskState, LeavesChanged, LeavesReads, PreservesDisk, written}

-- a stop leaves all bytes of a disk as they were, but for those from one place to another
abbrev pub LeavesOutside : ℕ → ℕ → DiskState → DiskState → Type 0
LeavesOutside from to old new = LeavesChanged (DiffersWithin from (to - from)) old new

-- a stop leaves a byte of a disk as it was
abbrev pub LeavesByte : ℕ → DiskState → DiskState → Type 0
LeavesByte place old new =
    LeavesChanged (λ was bytes. slice_index bytes place ≡ slice_index was place) old new

-- zeros were written from one place to another
pub record AreZerosWritten (from to : ℕ) (old new : DiskState) : Type 0 where
  pub nature : PreservesDisk old new
  pub no_failure : new.failures ≡ old.failures
  pub zeros : old.honest → new.reads ≡ written old.reads from (replicate (to - from) 0)

-- and they were synced: a stop leaves what is read
pub record AreZerosKept (from to : ℕ) (old new : DiskState) : Type 0 where
  pub written : AreZerosWritten from to old new
  pub leaves : old.honest → LeavesReads new
