use Rattle.std.proofs.Common.{Bool, List, length, subst}
use Rattle.std.proofs.lemmas.Result.{IfErr-weaker, IfOk-weaker}
use Rattle.duk_ledger.specs.Ledger.{ledger_meaning}
use Rattle.duk_commands.specs.inner.Marks.{AreMarkedBefore, IsFirstUnmarked}
use Rattle.duk_commands.proofs.MadeAgain.{made, missing, not_made}
use Rattle.duk_commands.proofs.issue.again.issue_again.Goals as goal

pub returns-in-Some-clause-failed : goal.returns-in-Some-clause-failed
returns-in-Some-clause-failed g c =
    let first = subst (λ (list : List Bool). IsFirstUnmarked list c.in-Some.place) c.as_slice.ensures.value c.in-Some.ensures in
    missing (ledger_meaning g.D.Disk.meaning) c.args.order.now c.args.padding.now c.args.ledger.now c.read_ledger.new.ledger c.in_ok-read.read.marks.items c.in_ok-read.read.largest c.in_ok-read.ensures.read
    (g.W.Sink.known c.args.output.now) c.in-Some.place c.iksn_at.result first c.iksn_at.ensures

pub returns-clause-made : goal.returns-clause-made
returns-clause-made g c =
    let all = subst (λ (list : List Bool). AreMarkedBefore list (length list)) c.as_slice.ensures.value c.in-None.ensures in
    IfOk-weaker c.write_lines.result _ _
    (λ _ written. made (ledger_meaning g.D.Disk.meaning) c.args.order.now c.args.padding.now c.args.ledger.now c.read_ledger.new.ledger c.in_ok-read.read.marks.items c.in_ok-read.read.largest c.in_ok-read.ensures.read all
    (g.W.Sink.known c.args.output.now) (g.W.Sink.known c.write_lines.new.output) written)
    c.write_lines.ensures.written

pub returns-clause-failed : goal.returns-clause-failed
returns-clause-failed g c =
    let all = subst (λ (list : List Bool). AreMarkedBefore list (length list)) c.as_slice.ensures.value c.in-None.ensures in
    IfErr-weaker c.write_lines.result _ _
    (not_made (ledger_meaning g.D.Disk.meaning) c.args.order.now c.args.padding.now c.args.ledger.now c.read_ledger.new.ledger c.in_ok-read.read.marks.items c.in_ok-read.read.largest c.in_ok-read.ensures.read all
    (g.W.Sink.known c.args.output.now) (g.W.Sink.known c.write_lines.new.output))
    c.write_lines.ensures.cut
