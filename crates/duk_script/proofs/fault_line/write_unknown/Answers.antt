use Rattle.std.proofs.Common.{[], ◌∷◌, ◌++◌, codes}
use Rattle.std.proofs.lemmas.Result.{err_from_is_err_and}
use Rattle.duk_script.proofs.PlayedScripts.{on_ok, if_err}
use Rattle.duk_script.proofs.LinesInTurn.{cut_longer}
use Rattle.duk_script.proofs.fault_line.write_unknown.Goals as goal

pub returns-in_err-write_text-clause-cut : goal.returns-in_err-write_text-clause-cut
returns-in_err-write_text-clause-cut g c =
    let known = g.F.Sink.known in
    let p = err_from_is_err_and c.from_residual.result c.from_residual.ensures.1 in
    rw p.1 (cut_longer (known c.args.fault.now) (known c.write_text.new.sink) (codes "config: unknown ") (c.args.name.now ++ 10 ∷ []) c.in_err-write_text.ensures.cut)

pub returns-in_err-write_text-2-clause-cut : goal.returns-in_err-write_text-2-clause-cut
returns-in_err-write_text-2-clause-cut g c =
    let known = g.F.Sink.known in
    let p = err_from_is_err_and c.from_residual-in_err-write_text-2.result c.from_residual-in_err-write_text-2.ensures.1 in
    let name = cut_longer (known c.write_text.new.sink) (known c.write_text-2.new.sink) c.args.name.now (10 ∷ []) c.in_err-write_text-2.ensures.cut in
    rw p.1 (c.writes.ensures.cut_later (known c.args.fault.now) (known c.write_text.new.sink) (known c.write_text-2.new.sink) (codes "config: unknown ") (c.args.name.now ++ 10 ∷ []) c.in_ok-write_text.ensures.written name)

pub returns-clause-written : goal.returns-clause-written
returns-clause-written g c =
    let known = g.F.Sink.known in
    on_ok _ _ (λ end. c.writes.ensures.then (known c.args.fault.now) (known c.write_text.new.sink) (known c.write_text-3.new.sink) (codes "config: unknown ") (c.args.name.now ++ 10 ∷ []) c.in_ok-write_text.ensures.written
    (c.writes.ensures.then (known c.write_text.new.sink) (known c.write_text-2.new.sink) (known c.write_text-3.new.sink) c.args.name.now (10 ∷ []) c.in_ok-write_text-2.ensures.written end))
    c.write_text-3.result c.write_text-3.ensures.written

pub returns-clause-cut : goal.returns-clause-cut
returns-clause-cut g c =
    let known = g.F.Sink.known in
    if_err _ _ (λ why end. c.writes.ensures.cut_later (known c.args.fault.now) (known c.write_text.new.sink) (known c.write_text-3.new.sink) (codes "config: unknown ") (c.args.name.now ++ 10 ∷ []) c.in_ok-write_text.ensures.written
    (c.writes.ensures.cut_later (known c.write_text.new.sink) (known c.write_text-2.new.sink) (known c.write_text-3.new.sink) c.args.name.now (10 ∷ []) c.in_ok-write_text-2.ensures.written end))
    c.write_text-3.result c.write_text-3.ensures.cut
