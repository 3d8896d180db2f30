use Rattle.duk_service.specs.Serve.{serving_of}
use Rattle.duk_service.specs.ServeJournal.{IsJournalServed, JournalServiceRefused, journal_host_of, over_journal}
use Rattle.duk_service.specs.declared.left_records.RecordFormat.TheVariants.{Journal}
use Rattle.duk_service.proofs.Ended.{not_served, served}
use Rattle.duk_service.proofs.serve_journal.serve_over_journal.Goals as goal

pub returns-clause-done : goal.returns-clause-done
returns-clause-done g c =
    let meaning = over_journal g.J.Journal.meaning in
    let made = journal_host_of c.args.config.now c.args.journal in
    let s = serving_of g.R.Source.known g.R.Source.reads g.W.Sink.known c.args.input.now c.serve_config-ended.new.input c.args.output.now c.end_service.new.output in
    served Journal (IsJournalServed meaning made) c.serve_config-ended.result c.end_service.result s (g.W.Sink.known c.serve_config-ended.new.output)
    c.serve_config-ended.ensures.served c.end_service.ensures.end

pub returns-clause-not_done : goal.returns-clause-not_done
returns-clause-not_done g c =
    let meaning = over_journal g.J.Journal.meaning in
    let made = journal_host_of c.args.config.now c.args.journal in
    let s = serving_of g.R.Source.known g.R.Source.reads g.W.Sink.known c.args.input.now c.serve_config-ended.new.input c.args.output.now c.end_service.new.output in
    not_served Journal (IsJournalServed meaning made) (λ why s. JournalServiceRefused meaning made s why) c.serve_config-ended.result c.end_service.result s
    (g.W.Sink.known c.serve_config-ended.new.output) c.serve_config-ended.ensures.served c.serve_config-ended.ensures.refused c.end_service.ensures.end
