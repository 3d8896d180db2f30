use Rattle.std.proofs.Common.{◌≡◌, ◌++◌, ℕ, List, drop}
use Rattle.duk_ledger.specs.Ledger.{ledger_meaning}
use Rattle.duk_commands.specs.Issue.{ends}
use Rattle.duk_commands.specs.inner.IssueGroup.{IsGroupOf}
use Rattle.duk_commands.specs.inner.Lines.{AreIssued}
use Rattle.duk_commands.specs.inner.Marks.{unmarked}
use Rattle.duk_commands.proofs.issue.issuing.issue_unmarked.Given as goal

-- the keys so far are issued, and these and those that are left are all
abbrev pub invariant-loop-place : goal.invariant-loop-place
invariant-loop-place g l = record {
  done : List ℕ;
  split : done ++ unmarked (drop l.place l.marks) l.place ≡ unmarked l.marks 0;
  issued : AreIssued (ledger_meaning g.D.Disk.meaning) l.fn.order l.fn.run.number l.fn.padding (ends l.fn.ledger (g.W.Sink.known l.fn.output)) (ends l.ledger (g.W.Sink.known l.output)) done;
  group : IsGroupOf l.fn.order l.fn.padding l.group;
}
