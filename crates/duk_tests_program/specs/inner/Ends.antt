-- Ends of files that stand in for real ones: this project's own.
use Rattle.duk_store.specs.MemoryDisk.{CouldLeave, IsHonestDisk, MemoryDisk}
use Rattle.duk_service.specs.FileEnd.{EndState}

-- the end of the file of a disk in memory, of which each step fails
abbrev pub failing_end : MemoryDisk → EndState
failing_end disk = record {
  honest = IsHonestDisk disk;
  calm = ⊥;
  reads = disk.reads;
  may_leave = CouldLeave disk;
}
