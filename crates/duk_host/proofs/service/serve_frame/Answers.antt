use Rattle.std.proofs.Common.{refl}
use Rattle.std.proofs.lemmas.Result.{err_from_is_err_and}
use Rattle.duk_host.specs.Host.{host_meaning_of}
use Rattle.duk_host.specs.Serve.{service}
use Rattle.duk_host.proofs.ServedInTurn.{WriteLaws, fails_at_length, frame_failed, frame_served, piece_held}
use Rattle.duk_host.proofs.service.serve_frame.Goals as goal

pub returns-in_err-answer-in-Ok-default-Some-clause-refused : goal.returns-in_err-answer-in-Ok-default-Some-clause-refused
returns-in_err-answer-in-Ok-default-Some-clause-refused g c =
    let meaning = host_meaning_of g.L.UsedLog.meaning g.I.Issuer.decides in
    let laws : WriteLaws = record { none = c.writes.ensures.none; next = c.writes.ensures.then } in
    let out = rw c.in-Ok-default-Some.field-0-1-is at c.in-Ok-default-Some.ensures.frame in
    let failed = rw c.as_slice.ensures.value at c.in_err-answer-in-Ok-default-Some.ensures.failed in
    let refused = frame_failed meaning laws (service c.args.host.now (g.W.Sink.known c.args.writer.now)) (service c.answer.new.host (g.W.Sink.known c.answer.new.writer)) c.args.feeder.now c.feed.new.self c.args.piece.now c.in-Ok-default-Some.taken c.in-Ok-default-Some.frame.items _ out failed in
    let p = err_from_is_err_and c.from_residual.result c.from_residual.ensures.1 in
    rw (p.1, p.2) refused

pub returns-in_ok-answer-in-Ok-default-Some-clause-served : goal.returns-in_ok-answer-in-Ok-default-Some-clause-served
returns-in_ok-answer-in-Ok-default-Some-clause-served g c =
    let meaning = host_meaning_of g.L.UsedLog.meaning g.I.Issuer.decides in
    let out = rw c.in-Ok-default-Some.field-0-1-is at c.in-Ok-default-Some.ensures.frame in
    let answered = rw c.as_slice.ensures.value at c.in_ok-answer-in-Ok-default-Some.ensures.answered in
    frame_served meaning (service c.args.host.now (g.W.Sink.known c.args.writer.now)) (service c.answer.new.host (g.W.Sink.known c.answer.new.writer)) c.args.feeder.now c.feed.new.self c.args.piece.now c.in-Ok-default-Some.taken c.in-Ok-default-Some.frame.items out answered

pub returns-in-Ok-default-None-clause-served : goal.returns-in-Ok-default-None-clause-served
returns-in-Ok-default-None-clause-served g c =
    let meaning = host_meaning_of g.L.UsedLog.meaning g.I.Issuer.decides in
    let laws : WriteLaws = record { none = c.writes.ensures.none; next = c.writes.ensures.then } in
    let all = rw c.in-Ok-default-None.field-0-1-is at c.in-Ok-default-None.ensures.none in
    piece_held meaning laws (service c.args.host.now (g.W.Sink.known c.args.writer.now)) c.args.feeder.now c.feed.new.self c.args.piece.now _ all

pub returns-in-Err-TooLong-clause-refused : goal.returns-in-Err-TooLong-clause-refused
returns-in-Err-TooLong-clause-refused g c =
    let meaning = host_meaning_of g.L.UsedLog.meaning g.I.Issuer.decides in
    let laws : WriteLaws = record { none = c.writes.ensures.none; next = c.writes.ensures.then } in
    let too_long = rw c.in-Err-TooLong.is at c.feed.ensures.too_long in
    fails_at_length meaning laws (service c.args.host.now (g.W.Sink.known c.args.writer.now)) c.args.feeder.now.failed _ c.requires (too_long.0 refl)
