use Rattle.std.proofs.Common.{Err}
use Rattle.duk_commands.specs.Answer.{streams}
use Rattle.duk_commands.specs.declared.issue.fault.IssueFault.TheVariants.{WriteFailed}
use Rattle.duk_ledger.specs.Ledger.{ledger_meaning}
use Rattle.duk_program.specs.IssueFiles.{HasMadeAll, HasStopped, issuing}
use Rattle.duk_program.specs.inner.IssueFiles.{task_of}
use Rattle.duk_program.proofs.Ends.{failed}
use Rattle.duk_program.proofs.Issued.{issued_over, made_all, stopped}
use Rattle.duk_program.proofs.commands.issue.issue_over.Goals as goal

pub returns-in-Ok-clause-done : goal.returns-in-Ok-clause-done
returns-in-Ok-clause-done g c =
    let meaning = ledger_meaning g.D.Disk.meaning in
    let written = g.W.Sink.known c.make_lines-made.new.output in
    let i = issuing c.args.ledger (streams (g.W.Sink.known c.args.output.now) (g.W.Sink.known c.hand_on.new.output) (g.F.Sink.known c.args.fault.now) (g.F.Sink.known c.note.new.fault)) in
    issued_over meaning (task_of c.args.task.now) i c.make_lines-made.new.ledger written c.in-Ok.passed_over c.make_lines-made.result WriteFailed
    c.make_lines-made.ensures.made c.in-Ok.ensures.end c.note.ensures

pub returns-clause-not_done : goal.returns-clause-not_done
returns-clause-not_done g c =
    let meaning = ledger_meaning g.D.Disk.meaning in
    let task = task_of c.args.task.now in
    let fault = g.F.Sink.known c.args.fault.now in
    let written = g.W.Sink.known c.make_lines-made.new.output in
    let after = g.W.Sink.known c.hand_on.new.output in
    let i = issuing c.args.ledger (streams (g.W.Sink.known c.args.output.now) after fault fault) in
    record {
      failed = failed (HasMadeAll meaning task i) (HasStopped meaning task i) c.make_lines-made.result WriteFailed (Err c.in-Err.why) written after
          (made_all meaning task i c.make_lines-made.new.ledger written c.make_lines-made.result c.make_lines-made.ensures.made)
          (stopped meaning task i c.make_lines-made.new.ledger written c.make_lines-made.result c.make_lines-made.ensures.unmade)
          c.in-Err.ensures.end;
      no_note = c.writes.ensures.untouched fault;
    }
