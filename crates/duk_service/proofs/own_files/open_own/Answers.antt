use Rattle.duk_service.proofs.SeenDisks.{not_own}
use Rattle.duk_service.proofs.own_files.open_own.Goals as goal

pub returns-in-None-clause-opened : goal.returns-in-None-clause-opened
returns-in-None-clause-opened g c = record {
  opened = c.in-Ok.disk;
  is_opened = c.in-Ok.ensures.opened;
  only_read = c.fault_in.ensures.only_read;
  is = c.in-None.ensures.own;
}

pub returns-in-Some-clause-refused : goal.returns-in-Some-clause-refused
returns-in-Some-clause-refused g c =
    not_own c.args.format g.S.Disk.Disk.meaning (g.S.LogFiles.disks c.args.files.now c.args.path.now) c.in-Ok.disk c.fault_in.new.disk c.in-Some.why
    c.in-Ok.ensures.opened c.fault_in.ensures.only_read c.in-Some.ensures.own
