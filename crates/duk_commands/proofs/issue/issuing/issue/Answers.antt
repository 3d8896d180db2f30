use Rattle.std.proofs.Common.{Bool, ◌+◌, List, subst}
use Rattle.std.proofs.lemmas.Result.{err_from_is_err_and}
use Rattle.duk_ledger.specs.Ledger.{ledger_meaning}
use Rattle.duk_store.specs.Listed.{room_of}
use Rattle.duk_commands.specs.Issue.{ends}
use Rattle.duk_commands.specs.inner.Lines.{AreIssued, PassesTests, StopsAtPlace, TestsRefuse}
use Rattle.duk_commands.specs.inner.Marks.{HasMarks, unmarked}
use Rattle.duk_commands.proofs.IssueOutcomes.{has_issued_but, not_issued, refused}
use Rattle.duk_commands.proofs.issue.issuing.issue.Goals as goal

pub returns-in_err-test_marks-clause-failed : goal.returns-in_err-test_marks-clause-failed
returns-in_err-test_marks-clause-failed g c =
    let meaning = ledger_meaning g.D.Disk.meaning in
    let order = c.args.order.now in
    let skip = c.args.skip_issued in
    let mid = c.read_ledger.new.ledger in
    let marks = c.in_ok-read.read.marks.items in
    let largest = c.in_ok-read.read.largest in
    let slice = c.as_slice-marks.result.now in
    let why = c.in_err-test_marks.field-0.0 in
    let in_room = subst (λ free. TestsRefuse order skip free largest slice why) c.room.ensures c.in_err-test_marks.ensures.refused in
    let refuse = subst (λ (list : List Bool). TestsRefuse order skip (room_of meaning mid) largest list why) c.as_slice-marks.ensures.value in_room in
    let all = refused meaning order skip c.args.padding.now c.args.ledger.now mid marks largest c.in_ok-read.ensures.read (g.W.Sink.known c.args.output.now) why c.in_ok-read.ensures.runs refuse in
    let p = err_from_is_err_and c.from_residual-in_err-test_marks.result c.from_residual-in_err-test_marks.ensures.1 in rw (p.1, p.2) all

pub returns-in-Ok-clause-issued : goal.returns-in-Ok-clause-issued
returns-in-Ok-clause-issued g c =
    let meaning = ledger_meaning g.D.Disk.meaning in
    let order = c.args.order.now in
    let skip = c.args.skip_issued in
    let mid = c.read_ledger.new.ledger in
    let marks = c.in_ok-read.read.marks.items in
    let largest = c.in_ok-read.read.largest in
    let output = g.W.Sink.known c.args.output.now in
    let new = ends c.issue_unmarked.new.ledger (g.W.Sink.known c.issue_unmarked.new.output) in
    let read = c.in_ok-read.ensures.read in
    let in_room = subst (λ free. PassesTests skip free largest c.as_slice-marks.result.now) c.room.ensures c.in_ok-test_marks.ensures.passed in
    let passed = subst (λ (list : List Bool). PassesTests skip (room_of meaning mid) largest list) c.as_slice-marks.ensures.value in_room in
    let issued = subst (λ (list : List Bool). AreIssued meaning order (largest + 1) c.args.padding.now (ends mid output) new (unmarked list 0)) c.as_slice-marks.ensures.value c.in-Ok.ensures.issued in
    let counted = subst (λ (list : List Bool). HasMarks list c.count_marked.result) c.as_slice-marks.ensures.value c.count_marked.ensures in
    has_issued_but meaning order skip c.args.padding.now c.args.ledger.now mid marks largest read c.in_ok-read.ensures.runs passed output new issued c.count_marked.result counted

pub returns-clause-failed : goal.returns-clause-failed
returns-clause-failed g c =
    let meaning = ledger_meaning g.D.Disk.meaning in
    let order = c.args.order.now in
    let skip = c.args.skip_issued in
    let mid = c.read_ledger.new.ledger in
    let marks = c.in_ok-read.read.marks.items in
    let largest = c.in_ok-read.read.largest in
    let output = g.W.Sink.known c.args.output.now in
    let new = ends c.issue_unmarked.new.ledger (g.W.Sink.known c.issue_unmarked.new.output) in
    let in_room = subst (λ free. PassesTests skip free largest c.as_slice-marks.result.now) c.room.ensures c.in_ok-test_marks.ensures.passed in
    let passed = subst (λ (list : List Bool). PassesTests skip (room_of meaning mid) largest list) c.as_slice-marks.ensures.value in_room in
    not_issued meaning order skip c.args.padding.now c.args.ledger.now mid marks largest c.in_ok-read.ensures.read c.in_ok-read.ensures.runs passed output new c.in-Err.why
    (subst (λ (list : List Bool). StopsAtPlace meaning order (largest + 1) c.args.padding.now (ends mid output) new (unmarked list 0) c.in-Err.why) c.as_slice-marks.ensures.value c.in-Err.ensures.failed)
