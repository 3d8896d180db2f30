use Rattle.std.proofs.Common.{arith, length-drop}
use Rattle.std.proofs.lemmas.List.{take_rest}
use Rattle.std.proofs.lemmas.Result.{err_from_is_err_and}
use Rattle.duk_host.specs.Host.{host_meaning_of}
use Rattle.duk_host.specs.Serve.{service}
use Rattle.duk_host.proofs.ServedInTurn.{WriteLaws, last_of_piece, later_frame_failed, next_frame, start_piece}
use Rattle.duk_host.proofs.service.serve_piece.Goals as goal

pub loop-taken-init : goal.loop-taken-init
loop-taken-init g c =
    let meaning = host_meaning_of g.L.UsedLog.meaning g.I.Issuer.decides in
    let laws : WriteLaws = record { none = c.writes.ensures.none; next = c.writes.ensures.then } in
    record {
      within = omega arith;
      few = omega arith;
      goes_on = c.requires;
      served = start_piece meaning laws (service c.args.host.now (g.W.Sink.known c.args.writer.now)) c.args.feeder.now.rest;
    }

pub returns-in_err-taken-clause-refused : goal.returns-in_err-taken-clause-refused
returns-in_err-taken-clause-refused g c =
    let meaning = host_meaning_of g.L.UsedLog.meaning g.I.Issuer.decides in
    let laws : WriteLaws = record { none = c.writes.ensures.none; next = c.writes.ensures.then } in
    let known = g.W.Sink.known in
    let failed = rw take_rest at c.in_err-taken.ensures.refused in
    let refused = later_frame_failed meaning laws (service c.args.host.now (known c.args.writer.now)) (service c.loop-taken.host (known c.loop-taken.writer)) (service c.serve_frame.new.host (known c.serve_frame.new.writer)) c.args.feeder.now.rest c.loop-taken.feeder.rest c.args.piece.now c.loop-taken.done c.loop-taken.frames _ c.loop-taken.invariant.served failed in
    let p = err_from_is_err_and c.from_residual.result c.from_residual.ensures.1 in
    rw (p.1, p.2) refused

pub loop-taken-preserved : goal.loop-taken-preserved
loop-taken-preserved g c =
    let meaning = host_meaning_of g.L.UsedLog.meaning g.I.Issuer.decides in
    let laws : WriteLaws = record { none = c.writes.ensures.none; next = c.writes.ensures.then } in
    let known = g.W.Sink.known in
    let one = rw (c.in-Some.is, take_rest) at c.in_ok-taken.ensures.served in
    record {
      within = omega (arith, one.within, length-drop c.loop-taken.done c.args.piece.now, c.loop-taken.invariant.within);
      few = omega (arith, one.least, c.loop-taken.invariant.few);
      goes_on = c.in_ok-taken.ensures.goes_on;
      served = next_frame meaning laws (service c.args.host.now (known c.args.writer.now)) (service c.loop-taken.host (known c.loop-taken.writer)) (service c.serve_frame.new.host (known c.serve_frame.new.writer)) c.args.feeder.now.rest c.loop-taken.feeder c.serve_frame.new.feeder c.args.piece.now c.loop-taken.done c.in-Some.taken c.loop-taken.frames c.loop-taken.invariant.served one;
    }

pub returns-clause-served : goal.returns-clause-served
returns-clause-served g c =
    let meaning = host_meaning_of g.L.UsedLog.meaning g.I.Issuer.decides in
    let laws : WriteLaws = record { none = c.writes.ensures.none; next = c.writes.ensures.then } in
    let known = g.W.Sink.known in
    let held = rw (c.in_default.is, take_rest) at c.in_ok-taken.ensures.served in
    last_of_piece meaning laws (service c.args.host.now (known c.args.writer.now)) (service c.loop-taken.host (known c.loop-taken.writer)) (service c.serve_frame.new.host (known c.serve_frame.new.writer)) c.args.feeder.now.rest c.loop-taken.feeder c.serve_frame.new.feeder c.args.piece.now c.loop-taken.done c.loop-taken.frames c.loop-taken.invariant.served held
