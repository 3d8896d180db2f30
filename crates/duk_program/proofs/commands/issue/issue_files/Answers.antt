use Rattle.std.proofs.Common.{inl, inr}
use Rattle.std.specs.Prelude.{codes}
use Rattle.duk_arguments.specs.Request.{text_in, value_in}
use Rattle.duk_commands.specs.Answer.{streams}
use Rattle.duk_program.specs.IssueFiles.{IsIssuedTo, issue_files_known, issuing}
use Rattle.duk_ledger.specs.Ledger.{ledger_meaning, new_ledger}
use Rattle.duk_program.proofs.Issued.{begun, not_ended}
use Rattle.duk_program.proofs.commands.issue.issue_files.Goals as goal

pub returns-in-Err-clause-not_done : goal.returns-in-Err-clause-not_done
returns-in-Err-clause-not_done g c = inr (inl (record {
  order = c.in_ok-order.order;
  read = c.in_ok-order.ensures.read;
  cause = c.in-Err.ensures.refused;
  untold = record { no_output = c.writes.ensures.untouched _; no_note = c.writes.ensures.untouched _ };
}))

pub returns-in-Err-open_ledger-clause-not_done : goal.returns-in-Err-open_ledger-clause-not_done
returns-in-Err-open_ledger-clause-not_done g c = inr (inr (inl (record {
  order = c.in_ok-order.order;
  read = c.in_ok-order.ensures.read;
  padding = c.in-Ok.padding.items;
  padding_read = c.in-Ok.ensures.read;
  cause = rw (← c.text.ensures) c.in-Err-open_ledger.ensures.refused;
  untold = record { no_output = c.writes.ensures.untouched _; no_note = c.writes.ensures.untouched _ };
})))

pub returns-clause-done : goal.returns-clause-done
returns-clause-done g c =
    let meaning = g.S.Disk.Disk.meaning in
    let known = issue_files_known (g.S.FileSystem.held c.args.files.now) (g.S.LogFiles.disks c.args.files.now (text_in (codes "ledger") c.args.request.now)) (g.S.LogFiles.making c.args.files.now) in
    let s = streams (g.W.Sink.known c.args.output.now) (g.W.Sink.known c.issue_to.new.output) (g.F.Sink.known c.args.fault.now) (g.F.Sink.known c.issue_to.new.fault) in
    begun meaning known c.args.request.now
    (λ task disk. IsIssuedTo (ledger_meaning meaning) known.making (value_in (codes "out") c.args.request.now) task (issuing (new_ledger disk) s))
    c.in_ok-order.order c.as_slice.result.now c.in-Ok-open_ledger.disk c.issue_to.result c.in_ok-order.ensures.read
    (rw c.as_slice.ensures.value c.in-Ok.ensures.read) (rw (← c.text.ensures) c.in-Ok-open_ledger.ensures.opened)
    (rw (← c.value-out.ensures, ← c.new-ledger.ensures.records) (rw c.by.ensures at c.issue_to.ensures.done))

pub returns-clause-not_done : goal.returns-clause-not_done
returns-clause-not_done g c =
    let meaning = g.S.Disk.Disk.meaning in
    let known = issue_files_known (g.S.FileSystem.held c.args.files.now) (g.S.LogFiles.disks c.args.files.now (text_in (codes "ledger") c.args.request.now)) (g.S.LogFiles.making c.args.files.now) in
    let s = streams (g.W.Sink.known c.args.output.now) (g.W.Sink.known c.issue_to.new.output) (g.F.Sink.known c.args.fault.now) (g.F.Sink.known c.issue_to.new.fault) in
    not_ended meaning known c.args.request.now s
    c.in_ok-order.order c.as_slice.result.now c.in-Ok-open_ledger.disk c.issue_to.result c.in_ok-order.ensures.read
    (rw c.as_slice.ensures.value c.in-Ok.ensures.read) (rw (← c.text.ensures) c.in-Ok-open_ledger.ensures.opened)
    (rw (← c.value-out.ensures, ← c.new-ledger.ensures.records) (rw c.by.ensures at c.issue_to.ensures.not_done))
