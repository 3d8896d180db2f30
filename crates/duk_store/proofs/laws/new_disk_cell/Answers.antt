use Rattle.duk_store.specs.MemoryDisk.{memory_disk_state, new_disk}
use Rattle.duk_store.proofs.CellOnDisk.{new_cell_is, new_disk_is_blank}
use Rattle.duk_store.proofs.laws.new_disk_cell.Goals as goal

pub returns : goal.returns
returns c = new_cell_is (memory_disk_state (new_disk 1024)) new_disk_is_blank
