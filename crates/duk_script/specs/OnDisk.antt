-- Worlds whose stores are on disks in memory: this project's own.
use Rattle.std.specs.Prelude.{◌*◌, ℕ}
use Rattle.duk_host.specs.Table.{CardTable, table_decision}
use Rattle.duk_net.specs.World.{Meanings, WorldOf, meanings_of}
use Rattle.duk_store.specs.Cell.{CellMeaning}
use Rattle.duk_store.specs.DiskLog.{DiskLogOf, disk_log_meaning, new_disk_log}
use Rattle.duk_store.specs.Log.{LogMeaning}
use Rattle.duk_store.specs.MemoryDisk.{MemoryDisk, memory_disk_meaning, new_disk}
use Rattle.duk_store.specs.RecordFormat.{record_length}
use Rattle.duk_store.specs.SlotCell.{SlotCellOf, new_slot_cell, slot_cell_meaning}
use Rattle.duk_store.specs.SlotFormat.{cell_disk_size}
use Rattle.duk_term.specs.Terminal.{TerminalOf}
use Rattle.duk_term.specs.declared.state.State.TheVariants.{Stopped}

-- the cell of a terminal, on a disk in memory
abbrev pub DiskCell : Type 0
DiskCell = SlotCellOf MemoryDisk

-- what it means
abbrev pub disk_cell_meaning : CellMeaning DiskCell
disk_cell_meaning = slot_cell_meaning memory_disk_meaning

-- a cell as it is made over a new disk
abbrev pub new_disk_cell : DiskCell
new_disk_cell = new_slot_cell (new_disk cell_disk_size)

-- a terminal as it is made over a new cell on a new disk
abbrev pub new_disk_terminal : TerminalOf DiskCell
new_disk_terminal = record { cell = new_disk_cell; state = Stopped }

-- the log of a host, on a disk in memory
abbrev pub LogOnDisk : Type 0
LogOnDisk = DiskLogOf MemoryDisk

-- what it means
abbrev pub log_on_disk_meaning : LogMeaning LogOnDisk
log_on_disk_meaning = disk_log_meaning memory_disk_meaning

-- a log as it is made over a new disk of so many records
abbrev pub new_log_on_disk : ℕ → LogOnDisk
new_log_on_disk records = new_disk_log (new_disk (record_length * records))

-- a world over such cells and such a log, whose issuer decides by a table of cards
abbrev pub DiskWorld : Type 0
DiskWorld = WorldOf DiskCell LogOnDisk CardTable

-- what its stores and its issuer mean
abbrev pub on_disk : Meanings DiskCell LogOnDisk CardTable
on_disk = meanings_of disk_cell_meaning log_on_disk_meaning table_decision
