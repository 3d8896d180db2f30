use Rattle.std.proofs.Common.{◌+◌, ◌<◌, [], ◌∷◌, ◌++◌, append_assoc, ap, arith, drop, length, refl, sym, ◌∙◌}
use Rattle.std.proofs.lemmas.Result.{err_from_is_err_and}
use Rattle.duk_ledger.specs.Ledger.{ledger_meaning}
use Rattle.duk_commands.specs.Issue.{ends}
use Rattle.duk_commands.specs.inner.Lines.{StopsAtPlace}
use Rattle.duk_commands.specs.inner.Marks.{unmarked}
use Rattle.duk_commands.proofs.Appended.{none_issued, one_issued}
use Rattle.duk_commands.proofs.Marked.{after_marked, after_unmarked}
use Rattle.duk_commands.proofs.issue.issuing.issue_unmarked.Goals as goal

pub loop-place-init : goal.loop-place-init
loop-place-init g c = record {
  done = [];
  split = refl;
  issued = none_issued (ledger_meaning g.D.Disk.meaning) c.args.order.now c.args.run.now.number c.args.padding.now (ends c.args.ledger.now (g.W.Sink.known c.args.output.now)) c.requires.runs (c.writes.ensures.none (g.W.Sink.known c.args.output.now));
  group = c.none-group.ensures c.args.order.now c.args.padding.now;
}

pub loop-place-preserved-then-marks-place : goal.loop-place-preserved-then-marks-place
loop-place-preserved-then-marks-place g c =
    let loop = c.loop-place.invariant in
    let marks = c.args.marks.now in
    let place = c.loop-place.place in
    let inside : place < length marks = omega (arith, c.requires.marks) in
    record {
      done = loop.done;
      split = ap (λ list. loop.done ++ list) (sym (after_marked marks place inside c.if-marks-place.true)) ∙ loop.split;
      issued = loop.issued;
      group = loop.group;
    }

pub loop-place-preserved : goal.loop-place-preserved
loop-place-preserved g c =
    let meaning = ledger_meaning g.D.Disk.meaning in
    let run = c.args.run.now.number in
    let loop = c.loop-place.invariant in
    let marks = c.args.marks.now in
    let place = c.loop-place.place in
    let inside : place < length marks = omega (arith, c.requires.marks) in
    let next = after_unmarked marks place inside c.if-marks-place.false in
    record {
      done = loop.done ++ place ∷ [];
      split = append_assoc loop.done (place ∷ []) (unmarked (drop (place + 1) marks) (place + 1)) ∙ ap (λ list. loop.done ++ list) (sym next) ∙ loop.split;
      issued = one_issued meaning c.args.order.now run c.args.padding.now
          (ends c.args.ledger.now (g.W.Sink.known c.args.output.now)) (ends c.loop-place.ledger (g.W.Sink.known c.loop-place.output)) (ends c.issue_one.new.ledger (g.W.Sink.known c.issue_one.new.output))
          loop.done place (λ text line. c.writes.ensures.then _ _ _ text line) loop.issued c.in_ok-issue_one.ensures.issued c.in_ok-issue_one.ensures.counted c.issue_one.ensures.capacity;
      group = c.issue_one.ensures.group;
    }

pub returns-in_err-issue_one-clause-failed : goal.returns-in_err-issue_one-clause-failed
returns-in_err-issue_one-clause-failed g c =
    let meaning = ledger_meaning g.D.Disk.meaning in
    let run = c.args.run.now.number in
    let loop = c.loop-place.invariant in
    let marks = c.args.marks.now in
    let place = c.loop-place.place in
    let inside : place < length marks = omega (arith, c.requires.marks) in
    let stops : StopsAtPlace meaning c.args.order.now run c.args.padding.now (ends c.args.ledger.now (g.W.Sink.known c.args.output.now)) (ends c.issue_one.new.ledger (g.W.Sink.known c.issue_one.new.output)) (unmarked marks 0) _ = record {
      done = loop.done;
      last = place;
      later = unmarked (drop (place + 1) marks) (place + 1);
      mid = ends c.loop-place.ledger (g.W.Sink.known c.loop-place.output);
      split = sym loop.split ∙ ap (λ list. loop.done ++ list) (after_unmarked marks place inside c.if-marks-place.false);
      issued = loop.issued;
      failed = c.in_err-issue_one.ensures.failed;
    } in
    let p = err_from_is_err_and c.from_residual.result c.from_residual.ensures.1 in rw (p.1, p.2) stops
