use Rattle.std.proofs.Common.{◌≡◌, ℕ, ◌<◌, length, slice_index}
use Rattle.duk_store.specs.MemoryDisk.{MemoryDisk, IsSyncedAt, IsUnsyncedAt, byte_left}
use Rattle.duk_store.proofs.memory_disk.MemDisk.refill_all.Given as goal

-- each byte below this place that was written since the last sync is what the filling leaves there
pub record IsRefilledTo (place : ℕ) (old new : MemoryDisk) : Type 0 where
  pub disk_is : new ≡ record old { reads = new.reads }
  pub same_length : length new.reads ≡ length old.reads
  pub filled : (below : ℕ) → below < place → IsUnsyncedAt old below → slice_index new.reads below ≡ byte_left old.filling old below
  pub others : (other : ℕ) → IsSyncedAt old other → slice_index new.reads other ≡ slice_index old.reads other

abbrev pub invariant-loop-place : goal.invariant-loop-place
invariant-loop-place l = IsRefilledTo l.place l.fn.self l.self
