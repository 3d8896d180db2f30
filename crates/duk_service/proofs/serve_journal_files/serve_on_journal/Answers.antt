use Rattle.duk_journal.specs.DiskJournal.{disk_journal_meaning, new_disk_journal}
use Rattle.duk_service.specs.Serve.{serving_of}
use Rattle.duk_service.specs.ServeJournal.{HasNotServedJournal, HasServedJournal, journal_host_of, over_journal}
use Rattle.duk_service.specs.declared.left_records.RecordFormat.TheVariants.{Journal}
use Rattle.duk_service.proofs.OverDisks.{not_over, over}
use Rattle.duk_service.proofs.serve_journal_files.serve_on_journal.Goals as goal

pub returns-in-Ok-clause-done : goal.returns-in-Ok-clause-done
returns-in-Ok-clause-done g c =
    let s = serving_of g.R.Source.known g.R.Source.reads g.W.Sink.known c.args.input.now c.serve_over_disk.new.input c.args.output.now c.serve_over_disk.new.output in
    over Journal g.S.Disk.Disk.meaning (g.S.LogFiles.disks c.args.files.now c.args.path.now)
    (λ disk. HasServedJournal (over_journal (disk_journal_meaning g.S.Disk.Disk.meaning)) (journal_host_of c.args.config.now (new_disk_journal disk)) s)
    c.in-Ok.disk c.serve_over_disk.result c.in-Ok.ensures.opened c.serve_over_disk.ensures.done

pub returns-in-Ok-clause-not_done : goal.returns-in-Ok-clause-not_done
returns-in-Ok-clause-not_done g c =
    let s = serving_of g.R.Source.known g.R.Source.reads g.W.Sink.known c.args.input.now c.serve_over_disk.new.input c.args.output.now c.serve_over_disk.new.output in
    not_over Journal g.S.Disk.Disk.meaning (g.S.LogFiles.disks c.args.files.now c.args.path.now)
    (λ disk. HasNotServedJournal (over_journal (disk_journal_meaning g.S.Disk.Disk.meaning)) (journal_host_of c.args.config.now (new_disk_journal disk)) s)
    s c.in-Ok.disk c.serve_over_disk.result (λ kind why no. no) c.in-Ok.ensures.opened c.serve_over_disk.ensures.not_done
