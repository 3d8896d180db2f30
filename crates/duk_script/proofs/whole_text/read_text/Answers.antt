use Rattle.std.proofs.lemmas.Result.{err_from_is_err_and}
use Rattle.duk_script.proofs.ReadsInTurn.{read_refused}
use Rattle.duk_script.proofs.whole_text.read_text.Goals as goal

pub returns-in_err-read_piece-clause-refused : goal.returns-in_err-read_piece-clause-refused
returns-in_err-read_piece-clause-refused g c =
    let known = g.R.Source.known in
    let refused = read_refused c.failures.ensures.stayed c.failures.ensures.rose (known c.args.reader.now) (known c.loop-text.reader) (known c.read_piece.new.reader) c.loop-text.text.items _ c.loop-text.invariant.read c.in_err-read_piece.ensures.refused in
    let p = err_from_is_err_and c.from_residual.result c.from_residual.ensures.1 in
    rw (p.1, p.2) refused
