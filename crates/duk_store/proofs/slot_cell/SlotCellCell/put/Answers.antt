use Rattle.std.proofs.Common.{◌∙◌, ◌≡◌, sym, ap, subst}
use Rattle.duk_store.specs.inner.SlotCell.{Knows}
use Rattle.duk_store.specs.declared.slot_format.SlotState.TheVariants.{Empty, Holds}
use Rattle.duk_store.proofs.CellOnDisk.{body_alone, body_next, body_put, body_put_failed, empty_alone, empty_next, empty_put, empty_put_failed, empty_ready}
use Rattle.duk_store.proofs.slot_cell.SlotCellCell.put.Goals as goal
use Rattle.duk_store.proofs.slot_cell.SlotCellCell.put.Goals.{After-replace, After-replace-in-Holds}

pub replace-requires-clause-ready : goal.replace-requires-clause-ready
replace-requires-clause-ready g c =
    let knows = subst (λ cell. Knows (g.D.Disk.meaning.state_of cell.disk) cell.state) c.self.view_is c.self.invariant in
    let is = sym (ap (λ cell. cell.state) c.self.view_is) ∙ c.in-Empty.is in
    empty_ready _ (subst (λ state. Knows (g.D.Disk.meaning.state_of c.args.self.now.disk) state) is knows)

-- a cell that keeps nothing
module _ (g : _) (c : After-replace g) where
  is_empty : c.args.self.now.state ≡ Empty
  is_empty = sym (ap (λ cell. cell.state) c.self.view_is) ∙ c.in-Empty.is

  knows_empty : Knows (g.D.Disk.meaning.state_of c.args.self.now.disk) c.args.self.now.state
  knows_empty = subst (λ cell. Knows (g.D.Disk.meaning.state_of cell.disk) cell.state) c.self.view_is c.self.invariant

pub returns-in-Empty-clause-kept : goal.returns-in-Empty-clause-kept
returns-in-Empty-clause-kept g c = empty_put g.D.Disk.meaning _ _ _ c.replace.result (is_empty g c) (knows_empty g c) c.replace.ensures.replaced

pub returns-in-Empty-clause-after_put : goal.returns-in-Empty-clause-after_put
returns-in-Empty-clause-after_put g c = empty_alone g.D.Disk.meaning _ _ _ c.replace.result (is_empty g c) (knows_empty g c) c.replace.ensures.replaced

pub returns-in-Empty-clause-next : goal.returns-in-Empty-clause-next
returns-in-Empty-clause-next g c = empty_next g.D.Disk.meaning _ _ _ c.replace.result (is_empty g c) (knows_empty g c) c.replace.ensures.replaced

pub returns-in-Empty-clause-failed : goal.returns-in-Empty-clause-failed
returns-in-Empty-clause-failed g c =
    empty_put_failed g.D.Disk.meaning _ _ _ c.replace.result (is_empty g c) (knows_empty g c) (g.D.Disk.reads_may_stay c.replace.new.self.disk) c.replace.ensures.failed

-- a cell that keeps a body
module _ (g : _) (c : After-replace-in-Holds g) where
  is_body : c.args.self.now.state ≡ Holds c.in-Holds.place c.in-Holds.sequence
  is_body = sym (ap (λ cell. cell.state) c.self.view_is) ∙ c.in-Holds.is

  knows_body : Knows (g.D.Disk.meaning.state_of c.args.self.now.disk) c.args.self.now.state
  knows_body = subst (λ cell. Knows (g.D.Disk.meaning.state_of cell.disk) cell.state) c.self.view_is c.self.invariant

pub returns-else-sequence-clause-kept : goal.returns-else-sequence-clause-kept
returns-else-sequence-clause-kept g c =
    body_put g.D.Disk.meaning _ _ _ c.replace-in-Holds.result c.in-Holds.place c.in-Holds.sequence (is_body g c) c.if-sequence.false (knows_body g c) _ _ c.replace-in-Holds.ensures.replaced

pub returns-else-sequence-clause-after_put : goal.returns-else-sequence-clause-after_put
returns-else-sequence-clause-after_put g c =
    body_alone g.D.Disk.meaning _ _ _ c.replace-in-Holds.result c.in-Holds.place c.in-Holds.sequence (is_body g c) c.if-sequence.false (knows_body g c) _ _ c.replace-in-Holds.ensures.replaced

pub returns-else-sequence-clause-next : goal.returns-else-sequence-clause-next
returns-else-sequence-clause-next g c =
    body_next g.D.Disk.meaning _ _ _ c.replace-in-Holds.result c.in-Holds.place c.in-Holds.sequence (is_body g c) c.if-sequence.false (knows_body g c) _ c.other.ensures c.replace-in-Holds.ensures.replaced

pub returns-else-sequence-clause-failed : goal.returns-else-sequence-clause-failed
returns-else-sequence-clause-failed g c =
    body_put_failed g.D.Disk.meaning _ _ _ c.replace-in-Holds.result c.in-Holds.place c.in-Holds.sequence (is_body g c) c.if-sequence.false (knows_body g c)
    (g.D.Disk.reads_may_stay c.replace-in-Holds.new.self.disk) c.replace-in-Holds.ensures.failed
