use Rattle.std.proofs.lemmas.Result.{err_from_is_err_and}
use Rattle.duk_play.proofs.PlayedScripts.{not_a_script}
use Rattle.duk_play.proofs.session.play_script.Goals as goal

pub returns-in_err-events-clause-refused : goal.returns-in_err-events-clause-refused
returns-in_err-events-clause-refused g c =
    let p = err_from_is_err_and c.from_residual.result c.from_residual.ensures.1 in
    rw (p.1, p.2) (not_a_script _ _ _ _ _ c.in_err-events.ensures.refused (c.writes.ensures.untouched (g.W.Sink.known c.args.writer.now)))
