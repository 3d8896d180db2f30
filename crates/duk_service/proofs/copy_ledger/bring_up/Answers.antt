use Rattle.duk_service.proofs.CopiedLedger.{comes_not_up, comes_up}
use Rattle.duk_service.proofs.copy_ledger.bring_up.Goals as goal

pub returns-in-Ok-clause-up : goal.returns-in-Ok-clause-up
returns-in-Ok-clause-up g c =
    comes_up g.D.Disk.meaning c.args.records.now c.restart.new.self _ _ _ c.in-Ok.field-0
    (g.D.Disk.leaves_its_size c.restart.new.self.disk) c.restart.ensures.size c.in-Ok.ensures.found c.in-Ok.ensures.counted c.restart.ensures.restored

pub returns-in-Err-clause-refused : goal.returns-in-Err-clause-refused
returns-in-Err-clause-refused g c =
    comes_not_up g.D.Disk.meaning c.args.records.now c.restart.new.self _ _ c.in-Err.field-0 c.in-Err.ensures.failed
