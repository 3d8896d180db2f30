use Rattle.duk_commands.specs.Batch.{input_of}
use Rattle.duk_commands.proofs.BatchEndings.{ended_refused}
use Rattle.duk_commands.proofs.batch.run.do_batch.Goals as goal

pub returns-in-Answered-false-clause-not_done : goal.returns-in-Answered-false-clause-not_done
returns-in-Answered-false-clause-not_done g c =
    ended_refused (g.I.Items.command c.args.items.now)
    (input_of (g.R.Source.known c.args.input.now) (g.R.Source.known c.answer_all.new.input) (g.R.Source.reads c.args.input.now) (g.R.Source.reads c.answer_all.new.input))
    (g.W.Sink.known c.args.output.now) (g.W.Sink.known c.answer_all.new.output)
    (rw c.in-Answered-false.field-0-test at c.in-Answered-false.ensures)
