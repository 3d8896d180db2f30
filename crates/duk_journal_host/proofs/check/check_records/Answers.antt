use Rattle.duk_store.specs.DiskRecords.{records_meaning}
use Rattle.duk_journal_host.proofs.FirstRead.{of_none}
use Rattle.duk_journal_host.proofs.Restarting.{is_checked, not_checked}
use Rattle.duk_journal_host.proofs.check.check_records.Goals as goal

pub returns-in-Ok-clause-checked : goal.returns-in-Ok-clause-checked
returns-in-Ok-clause-checked g c =
    let empty = of_none c.new.result c.new.ensures.used c.new.ensures.others c.new.ensures.reversed c.new.ensures.latest in
    is_checked (records_meaning g.D.Disk.meaning g.F.Format.meaning) c.args.records.now c.restart.new.self (record { gathered = c.new.result; sum = c.new-2.result }) empty c.restart.new.visitor c.in-Ok.count c.in-Ok.ensures.found c.new-2.ensures c.in-Ok.ensures.counted

pub returns-clause-refused : goal.returns-clause-refused
returns-clause-refused g c =
    let empty = of_none c.new.result c.new.ensures.used c.new.ensures.others c.new.ensures.reversed c.new.ensures.latest in
    rw c.fault_of.ensures (not_checked (records_meaning g.D.Disk.meaning g.F.Format.meaning) c.args.records.now c.restart.new.self (record { gathered = c.new.result; sum = c.new-2.result }) empty c.in-Err.fault c.in-Err.ensures.failed)
