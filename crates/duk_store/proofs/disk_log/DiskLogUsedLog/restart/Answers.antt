use Rattle.std.proofs.Common.{subst}
use Rattle.std.proofs.lemmas.Result.{IfOk-weaker}
use Rattle.duk_store.specs.DiskLog.{disk_log_meaning}
use Rattle.duk_store.specs.Log.{LogRestarted}
use Rattle.duk_store.proofs.LogOnDisk.{log_restarted}
use Rattle.duk_store.proofs.disk_log.DiskLogUsedLog.restart.Goals as goal

pub returns-clause-found : goal.returns-clause-found
returns-clause-found g c =
    let m = g.D.Disk.meaning in
    let new = c.restart.new.self in
    IfOk-weaker c.restart.result _ _
    (λ count up. subst (λ log. LogRestarted (disk_log_meaning m) log new count) c.self.view_is (log_restarted m c.self.inside.records new _ _ _ count up))
    c.restart.ensures.found
