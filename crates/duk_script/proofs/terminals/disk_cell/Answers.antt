use Rattle.std.proofs.Common.{◌∙◌, ap, subst, sym, None}
use Rattle.duk_store.specs.SlotCell.{new_slot_cell}
use Rattle.duk_store.specs.StoreState.{IsNew}
use Rattle.duk_script.specs.OnDisk.{disk_cell_meaning}
use Rattle.duk_script.proofs.terminals.disk_cell.Goals as goal

pub returns-clause-made : goal.returns-clause-made
returns-clause-made c = c.new-2.ensures.cell ∙ ap new_slot_cell c.in-Ok.ensures.disk

pub returns-clause-new : goal.returns-clause-new
returns-clause-new c = subst (λ cell. IsNew (disk_cell_meaning.state_of cell) None) (sym (returns-clause-made c)) c.new_disk_cell.ensures
