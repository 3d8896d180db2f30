use Rattle.std.proofs.Common.{◌≡◌, ◌++◌, ℕ, List, take}
use Rattle.duk_io.specs.Sink.{IsWritten}
use Rattle.duk_play.specs.OutcomeText.{lines_of}
use Rattle.duk_play.proofs.outcome_lines.write_buffered.Given as goal

-- what was written and what is held are the lines so far
abbrev pub invariant-loop-outcome : goal.invariant-loop-outcome
invariant-loop-outcome g l = record {
  written : List ℕ;
  was_written : IsWritten (g.W.Sink.known l.fn.writer) (g.W.Sink.known l.writer) written;
  so_far : lines_of (take l.outcome-index l.outcomes) ≡ written ++ l.lines.items;
}
