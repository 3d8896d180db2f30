use Rattle.std.proofs.Common.{subst}
use Rattle.std.proofs.lemmas.Result.{err_from_is_err_and}
use Rattle.duk_store.specs.DiskLog.{disk_log_meaning}
use Rattle.duk_store.specs.Log.{IsReadAt, ReadFailed}
use Rattle.duk_store.proofs.LogOnDisk.{number_read, read_failed}
use Rattle.duk_store.proofs.disk_log.DiskLogUsedLog.at.Goals as goal

pub returns-in_err-read_record-clause-failed : goal.returns-in_err-read_record-clause-failed
returns-in_err-read_record-clause-failed g c =
    let p = err_from_is_err_and c.from_residual.result c.from_residual.ensures.1 in
    let m = g.D.Disk.meaning in
    let new = c.read_record.new.self in
    let why = c.in_err-read_record.field-0.0 in
    rw (p.1, p.2) (subst (λ log. ReadFailed (disk_log_meaning m) log new why) c.self.view_is (read_failed m c.self.inside.records new why c.in_err-read_record.ensures.failed))

pub returns-clause-read : goal.returns-clause-read
returns-clause-read g c =
    let m = g.D.Disk.meaning in
    let new = c.read_record.new.self in
    subst (λ log. IsReadAt (disk_log_meaning m) log new c.args.place c.number_of.result) c.self.view_is
    (number_read m c.self.inside.records new c.args.place c.read_record.new.bytes c.number_of.result c.number_of.ensures c.in_ok-read_record.ensures.read)
