use Rattle.std.proofs.Common.{Ok, Err, Result, IfOk, OnOk, subst}
use Rattle.std.proofs.lemmas.Result.{IfErr-weaker}
use Rattle.duk_store.specs.DiskLog.{disk_log_meaning}
use Rattle.duk_store.specs.Log.{AppendFailed, IsAppended}
use Rattle.duk_store.proofs.LogOnDisk.{append_failed, number_appended}
use Rattle.duk_store.proofs.disk_log.DiskLogUsedLog.append.Goals as goal

where_ok : {T E P Q : Type 0} (result : Result T E) → (P → Q) → OnOk result P → IfOk result (λ value. Q)
where_ok (Ok value) follows is = follows is
where_ok (Err fault) follows is = tt

pub returns-clause-appended : goal.returns-clause-appended
returns-clause-appended g c =
    let m = g.D.Disk.meaning in
    let new = c.append.new.self in
    where_ok c.append.result
    (λ done. subst (λ log. IsAppended (disk_log_meaning m) log new c.args.number) c.self.view_is (number_appended m c.self.inside.records new c.args.number done))
    c.append.ensures.appended

pub returns-clause-failed : goal.returns-clause-failed
returns-clause-failed g c =
    let m = g.D.Disk.meaning in
    let new = c.append.new.self in
    IfErr-weaker c.append.result _ _
    (λ why failed. subst (λ log. AppendFailed (disk_log_meaning m) log new c.args.number why) c.self.view_is (append_failed m c.self.inside.records new c.args.number why failed))
    c.append.ensures.failed
