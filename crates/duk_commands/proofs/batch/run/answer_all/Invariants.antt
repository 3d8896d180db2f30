use Rattle.std.proofs.Common.{◌≡◌, []}
use Rattle.duk_commands.specs.Batch.{input_of}
use Rattle.duk_commands.proofs.ReadInTurn.{IsReading}
use Rattle.duk_commands.proofs.batch.run.answer_all.Given as goal

-- so many reads gave bytes, and the lines that ended in them are answered
abbrev pub invariant-loop : goal.invariant-loop
invariant-loop g l = record {
  written : l.batch.answers.items ≡ [];
  reading : IsReading (g.I.Items.command l.fn.items)
      (input_of (g.R.Source.known l.fn.input) (g.R.Source.known l.input) (g.R.Source.reads l.fn.input) (g.R.Source.reads l.input))
      l.counter l.batch.line.items l.batch.done (g.W.Sink.known l.fn.output) (g.W.Sink.known l.output);
}
