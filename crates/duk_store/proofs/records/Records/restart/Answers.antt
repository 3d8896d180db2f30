use Rattle.std.proofs.Common.{subst, None, Some}
use Rattle.std.proofs.lemmas.Result.{err_from_is_err_and}
use Rattle.duk_store.specs.DiskRecords.{records_meaning}
use Rattle.duk_store.specs.Listed.{ListRestartFailed, ListRestarted}
use Rattle.duk_store.proofs.RecordsOnDisk.{list_restart_failed, list_restarted}
use Rattle.duk_store.proofs.records.Records.restart.Goals as goal

pub returns-in_err-found-clause-failed : goal.returns-in_err-found-clause-failed
returns-in_err-found-clause-failed g c =
    let p = err_from_is_err_and c.from_residual.result c.from_residual.ensures.1 in
    let inside = c.self.inside in
    rw (p.1, p.2)
    (subst (λ records. ListRestartFailed (records_meaning g.D.Disk.meaning g.F.Format.meaning) g.V.Visitor.takes g.V.Visitor.refuses records (record { disk = c.bring_up.new.disk; format = inside.format; kept = None }) c.args.visitor.now c.in_err-found.field-0.0) c.self.view_is
    (list_restart_failed g.D.Disk.meaning g.F.Format.meaning inside.format c.self.invariant.0 inside.disk c.bring_up.new.disk g.V.Visitor.takes c.args.visitor.now g.V.Visitor.refuses inside.kept c.in_err-found.field-0.0
    (g.D.Disk.reads_may_stay c.bring_up.new.disk) c.in_err-found.ensures.failed))

pub returns-clause-found : goal.returns-clause-found
returns-clause-found g c =
    let inside = c.self.inside in
    subst (λ records. ListRestarted (records_meaning g.D.Disk.meaning g.F.Format.meaning) g.V.Visitor.takes records (record { disk = c.bring_up.new.disk; format = inside.format; kept = Some c.in_ok-found.found.count }) c.args.visitor.now c.bring_up.new.visitor c.in_ok-found.found.count) c.self.view_is
    (list_restarted g.D.Disk.meaning g.F.Format.meaning inside.format c.self.invariant.0 inside.disk c.bring_up.new.disk g.V.Visitor.takes c.args.visitor.now c.bring_up.new.visitor inside.kept c.in_ok-found.found.count c.in_ok-found.ensures.up)
