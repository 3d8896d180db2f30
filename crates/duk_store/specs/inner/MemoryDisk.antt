-- What only private functions and proofs say beside `MemoryDisk.antt`: this project's own.
use Rattle.std.specs.Prelude.{◌+◌, ◌<◌, ◌≤◌, ℕ, false, length, get_or, set, if◌then◌else◌}
use Rattle.duk_store.specs.MemoryDisk.{MemoryDisk, IsUnsyncedAt, IsHonestDisk, byte_left}

-- all that was written since the last sync lies between these two places
pub record IsUnsyncedWithin (from to : ℕ) (disk : MemoryDisk) : Type 0 where
  pub in_order : from ≤ to
  pub inside : to ≤ length disk.reads
  pub around : (place : ℕ) → IsUnsyncedAt disk place → (from ≤ place) × (place < to)
  pub honest : IsHonestDisk disk

-- all of this range counts as written since the last sync
abbrev pub IsMarked : MemoryDisk → ℕ → ℕ → Type 0
IsMarked disk at count = (place : ℕ) → at ≤ place → place < at + count → IsUnsyncedAt disk place

-- the disk with this byte as a restart leaves it
abbrev pub refilled_at : ℕ → MemoryDisk → MemoryDisk
refilled_at place disk = record disk {
  reads = if get_or disk.unsynced place false
      then set disk.reads place (byte_left disk.filling disk place)
      else disk.reads;
}
