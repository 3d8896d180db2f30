use Rattle.std.proofs.Common.{arith, length-drop}
use Rattle.std.proofs.lemmas.List.{take_rest}
use Rattle.std.proofs.lemmas.Result.{err_from_is_err_and}
use Rattle.duk_journal_host.specs.Host.{host_meaning_of}
use Rattle.duk_journal_host.specs.Serve.{service}
use Rattle.duk_journal_host.proofs.Serving.{WriteLaws, later_group_failed, next_group, start_piece}
use Rattle.duk_journal_host.proofs.service.serve_piece.Goals as goal

pub loop-done-init : goal.loop-done-init
loop-done-init g c =
    let meaning = host_meaning_of g.J.Journal.meaning g.I.Issuer.decides in
    let laws : WriteLaws = record { none = c.writes.ensures.none; next = c.writes.ensures.then } in
    record {
      within = omega arith;
      goes_on = c.requires.goes_on;
      part = λ none. absurd (omega (arith, none));
      cleared = λ none. absurd (omega (arith, none));
      served = start_piece meaning laws (service c.args.host.now (g.W.Sink.known c.args.writer.now)) c.args.feeder.now.rest;
    }

pub returns-in_err-done-clause-refused : goal.returns-in_err-done-clause-refused
returns-in_err-done-clause-refused g c =
    let meaning = host_meaning_of g.J.Journal.meaning g.I.Issuer.decides in
    let laws : WriteLaws = record { none = c.writes.ensures.none; next = c.writes.ensures.then } in
    let known = g.W.Sink.known in
    let failed = rw take_rest at c.in_err-done.ensures.refused in
    let refused =
    later_group_failed meaning laws (service c.args.host.now (known c.args.writer.now)) (service c.loop-done.host (known c.loop-done.writer)) (service c.serve_group.new.host (known c.serve_group.new.writer))
    c.args.feeder.now.rest c.loop-done.feeder.rest c.args.piece.now c.loop-done.done _ c.loop-done.invariant.served failed in
    let p = err_from_is_err_and c.from_residual.result c.from_residual.ensures.1 in
    rw (p.1, p.2) refused

pub loop-done-preserved : goal.loop-done-preserved
loop-done-preserved g c =
    let meaning = host_meaning_of g.J.Journal.meaning g.I.Issuer.decides in
    let laws : WriteLaws = record { none = c.writes.ensures.none; next = c.writes.ensures.then } in
    let known = g.W.Sink.known in
    let within = rw take_rest at c.in_ok-done.ensures.within in
    let one = rw take_rest at c.in_ok-done.ensures.served in
    record {
      within = omega (arith, within, length-drop c.loop-done.done c.args.piece.now, c.loop-done.invariant.within);
      goes_on = c.in_ok-done.ensures.goes_on;
      part = λ _. c.in_ok-done.ensures.part;
      cleared = λ _. c.serve_group.ensures.cleared;
      served =
          next_group meaning laws (service c.args.host.now (known c.args.writer.now)) (service c.loop-done.host (known c.loop-done.writer)) (service c.serve_group.new.host (known c.serve_group.new.writer))
          c.args.feeder.now.rest c.loop-done.feeder.rest c.serve_group.new.feeder.rest c.args.piece.now c.loop-done.done c.in_ok-done.field-0 c.loop-done.invariant.served one;
    }
