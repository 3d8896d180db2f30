use Rattle.std.proofs.Common.{subst}
use Rattle.std.proofs.lemmas.Result.{err_from_is_err_and}
use Rattle.duk_store.specs.Restart.{RestartFailed, Restarted}
use Rattle.duk_store.specs.SlotCell.{slot_cell_state}
use Rattle.duk_store.specs.declared.slot_format.SlotState.TheVariants.{Stopped}
use Rattle.duk_store.proofs.CellOnDisk.{is_restarted, restart_failed}
use Rattle.duk_store.proofs.slot_cell.SlotCellCell.restart.Goals as goal

pub returns-in_err-state-clause-failed : goal.returns-in_err-state-clause-failed
returns-in_err-state-clause-failed g c =
    let p = err_from_is_err_and c.from_residual.result c.from_residual.ensures.1 in
    let state_of = g.D.Disk.meaning.state_of in
    rw (p.1, p.2)
    (subst (λ cell. RestartFailed (slot_cell_state (state_of cell.disk) cell.state) (slot_cell_state (state_of c.recover.new.disk) Stopped) c.in_err-state.field-0.0) c.self.view_is
    (restart_failed (state_of c.self.inside.disk) _ c.self.inside.state c.recover.ensures.restored (g.D.Disk.reads_may_stay c.recover.new.disk) _ c.in_err-state.ensures.failed))

pub returns-clause-found : goal.returns-clause-found
returns-clause-found g c =
    let state_of = g.D.Disk.meaning.state_of in
    subst (λ cell. Restarted (slot_cell_state (state_of cell.disk) cell.state) (slot_cell_state (state_of c.recover.new.disk) c.in_ok-state.state) c.in_ok-state.kept) c.self.view_is
    (is_restarted (state_of c.self.inside.disk) _ c.self.inside.state c.recover.ensures.restored c.in_ok-state.state c.in_ok-state.kept c.in_ok-state.ensures.found)
