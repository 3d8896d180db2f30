use Rattle.duk_commands.specs.inner.Again.{AreWritten}
use Rattle.duk_commands.specs.inner.IssueGroup.{IsGroupOf}
use Rattle.duk_commands.proofs.issue.again.write_lines.Given as goal

-- the lines so far are written
abbrev pub invariant-loop-place : goal.invariant-loop-place
invariant-loop-place g l = record {
  written : AreWritten l.fn.order l.fn.padding (g.W.Sink.known l.fn.output) (g.W.Sink.known l.output) l.place;
  group : IsGroupOf l.fn.order l.fn.padding l.group;
}
