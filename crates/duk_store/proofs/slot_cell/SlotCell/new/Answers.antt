use Rattle.duk_store.proofs.CellOnDisk.{zero_cell_is}
use Rattle.duk_store.proofs.slot_cell.SlotCell.new.Goals as goal

pub returns-clause-empty : goal.returns-clause-empty
returns-clause-empty g c = zero_cell_is (g.D.Disk.meaning.state_of c.args.disk)
