use Rattle.duk_service.proofs.LeftDisks.{read_checked, read_refused}
use Rattle.duk_service.proofs.copy_journal.check_new.Goals as goal

pub returns-then-ne-clause-read_over : goal.returns-then-ne-clause-read_over
returns-then-ne-clause-read_over g c = read_checked g.D.Disk.meaning c.args.records.now c.check_records.new.records c.in-Ok.found c.in-Ok.ensures.checked

pub returns-else-ne-clause-read_over : goal.returns-else-ne-clause-read_over
returns-else-ne-clause-read_over g c = read_checked g.D.Disk.meaning c.args.records.now c.check_records.new.records c.in-Ok.found c.in-Ok.ensures.checked

pub returns-in-Err-clause-read_over : goal.returns-in-Err-clause-read_over
returns-in-Err-clause-read_over g c = read_refused g.D.Disk.meaning c.args.records.now c.check_records.new.records c.in-Err.field-0 c.in-Err.ensures.refused
