use Rattle.duk_service.specs.CopyLedger.{old_ledger_state}
use Rattle.duk_service.proofs.CopiedLedger.{ledger_not_made}
use Rattle.duk_service.proofs.copy_ledger.make_new.Goals as goal

pub returns-in-Err-clause-refused : goal.returns-in-Err-clause-refused
returns-in-Err-clause-refused g c =
    let meaning = g.S.Disk.Disk.meaning in
    ledger_not_made meaning (g.S.LogFiles.making c.args.files.now c.args.file.now) c.args.size (old_ledger_state meaning c.args.old.now) (old_ledger_state meaning c.keep_new.new.old)
    c.in-Ok.disk c.keep_new.new.disk c.in-Err.why c.in-Ok.ensures.made c.in-Err.ensures.refused c.keep_new.ensures.left
