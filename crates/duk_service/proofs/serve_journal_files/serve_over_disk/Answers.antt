use Rattle.std.proofs.Common.{IfErr, OnOk, inl, refl, subst}
use Rattle.duk_journal.specs.DiskJournal.{disk_journal_meaning}
use Rattle.duk_service.specs.Serve.{serving_of}
use Rattle.duk_service.specs.ServeJournal.{HasNotServedJournal, HasServedJournal, journal_host_of, over_journal}
use Rattle.duk_service.proofs.serve_journal_files.serve_over_disk.Goals as goal

pub returns-in-Ok-clause-done : goal.returns-in-Ok-clause-done
returns-in-Ok-clause-done g c =
    let s = serving_of g.R.Source.known g.R.Source.reads g.W.Sink.known c.args.input.now c.serve_over_journal.new.input c.args.output.now c.serve_over_journal.new.output in
    subst (λ journal. OnOk c.serve_over_journal.result (HasServedJournal (over_journal (disk_journal_meaning g.D.Disk.meaning)) (journal_host_of c.args.config.now journal) s)) c.in-Ok.ensures.journal
    c.serve_over_journal.ensures.done

pub returns-in-Ok-clause-not_done : goal.returns-in-Ok-clause-not_done
returns-in-Ok-clause-not_done g c =
    let s = serving_of g.R.Source.known g.R.Source.reads g.W.Sink.known c.args.input.now c.serve_over_journal.new.input c.args.output.now c.serve_over_journal.new.output in
    subst (λ journal. IfErr c.serve_over_journal.result (HasNotServedJournal (over_journal (disk_journal_meaning g.D.Disk.meaning)) (journal_host_of c.args.config.now journal) s)) c.in-Ok.ensures.journal
    c.serve_over_journal.ensures.not_done

pub returns-in-Err-clause-not_done : goal.returns-in-Err-clause-not_done
returns-in-Err-clause-not_done g c = (
  refl,
  inl (record {
    written = _;
    came = inl (record { idle = record { unread = refl; quiet = refl }; memory = refl });
    kept = c.writes.ensures.untouched _;
  }),
)
