use Rattle.std.proofs.Common.{map}
use Rattle.std.proofs.lemmas.Result.{err_from_is_err_and}
use Rattle.duk_journal_host.specs.Host.{host_meaning_of}
use Rattle.duk_journal_host.specs.Serve.{service}
use Rattle.duk_journal_host.proofs.Serving.{WriteLaws, collected_failed}
use Rattle.duk_journal_host.proofs.service.serve_group.Goals as goal

pub returns-in_err-answered-clause-refused : goal.returns-in_err-answered-clause-refused
returns-in_err-answered-clause-refused g c =
    let meaning = host_meaning_of g.J.Journal.meaning g.I.Issuer.decides in
    let laws : WriteLaws = record { none = c.writes.ensures.none; next = c.writes.ensures.then } in
    let frames = map (λ frame. frame.items) c.collect-collected.new.frames.items in
    let refused =
    collected_failed meaning laws (service c.args.host.now (g.W.Sink.known c.args.writer.now)) (service c.answer_group-answered.new.host (g.W.Sink.known c.answer_group-answered.new.writer))
    c.collect-collected.result c.args.feeder.now c.collect-collected.new.feeder c.args.piece.now frames _ c.collect-collected.ensures.collected c.collect-collected.ensures.too_long c.in_err-answered.ensures.failed in
    let p = err_from_is_err_and c.from_residual.result c.from_residual.ensures.1 in
    rw (p.1, p.2) refused
