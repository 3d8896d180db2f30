use Rattle.duk_config.specs.NewHost.{new_host_of}
use Rattle.duk_service.specs.Serve.{HasNotServedLog, HasServedLog, over_log, serving_of}
use Rattle.duk_service.specs.declared.left_records.RecordFormat.TheVariants.{Log}
use Rattle.duk_store.specs.DiskLog.{disk_log_meaning, new_disk_log}
use Rattle.duk_service.proofs.OverDisks.{not_over, over}
use Rattle.duk_service.proofs.serve_log_files.serve_on_file.Goals as goal

pub returns-in-Ok-clause-done : goal.returns-in-Ok-clause-done
returns-in-Ok-clause-done g c =
    let s = serving_of g.R.Source.known g.R.Source.reads g.W.Sink.known c.args.input.now c.serve_over_log.new.input c.args.output.now c.serve_over_log.new.output in
    over Log g.S.Disk.Disk.meaning (g.S.LogFiles.disks c.args.files.now c.args.path.now)
    (λ disk. HasServedLog (over_log (disk_log_meaning g.S.Disk.Disk.meaning)) (new_host_of c.args.config.now (new_disk_log disk)) s)
    c.in-Ok.disk c.serve_over_log.result c.in-Ok.ensures.opened (rw (← c.new.ensures.log) c.serve_over_log.ensures.done)

pub returns-in-Ok-clause-not_done : goal.returns-in-Ok-clause-not_done
returns-in-Ok-clause-not_done g c =
    let s = serving_of g.R.Source.known g.R.Source.reads g.W.Sink.known c.args.input.now c.serve_over_log.new.input c.args.output.now c.serve_over_log.new.output in
    not_over Log g.S.Disk.Disk.meaning (g.S.LogFiles.disks c.args.files.now c.args.path.now)
    (λ disk. HasNotServedLog (over_log (disk_log_meaning g.S.Disk.Disk.meaning)) (new_host_of c.args.config.now (new_disk_log disk)) s)
    s c.in-Ok.disk c.serve_over_log.result (λ kind why no. no) c.in-Ok.ensures.opened (rw (← c.new.ensures.log) c.serve_over_log.ensures.not_done)
