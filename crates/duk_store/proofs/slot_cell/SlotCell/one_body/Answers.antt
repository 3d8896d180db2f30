use Rattle.std.proofs.Common.{ℕ, List, subst}
use Rattle.duk_store.specs.SlotCell.{IsInItsSlot, RunsWithBody, StandsAlone}
use Rattle.duk_store.proofs.CellOnDisk.{runs_alone, runs_in_its_slot}
use Rattle.duk_store.proofs.slot_cell.SlotCell.one_body.Goals as goal

pub returns-clause-alone : goal.returns-clause-alone
returns-clause-alone g c =
    subst (λ cell. (body : List ℕ) → RunsWithBody (g.D.Disk.meaning.state_of cell.disk) cell.state body → StandsAlone (g.D.Disk.meaning.state_of cell.disk) body) c.self.view_is
    (runs_alone (g.D.Disk.meaning.state_of c.self.inside.disk) c.self.inside.state c.self.invariant)

pub returns-clause-in_its_slot : goal.returns-clause-in_its_slot
returns-clause-in_its_slot g c =
    subst (λ cell. (body : List ℕ) → RunsWithBody (g.D.Disk.meaning.state_of cell.disk) cell.state body → (g.D.Disk.meaning.state_of cell.disk).honest → IsInItsSlot (g.D.Disk.meaning.state_of cell.disk) cell.state body) c.self.view_is
    (runs_in_its_slot (g.D.Disk.meaning.state_of c.self.inside.disk) c.self.inside.state c.self.invariant)
