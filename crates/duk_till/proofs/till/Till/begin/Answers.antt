use Rattle.std.proofs.lemmas.Result.{err_from_is_err_and}
use Rattle.duk_till.proofs.Told.{number_lost, till_of}
use Rattle.duk_till.proofs.till.Till.begin.Goals as goal

pub returns-in_err-keep-clause-refused : goal.returns-in_err-keep-clause-refused
returns-in_err-keep-clause-refused g c =
    let p = err_from_is_err_and c.from_residual-in_err-keep.result c.from_residual-in_err-keep.ensures.1 in
    rw (p.1, p.2, ← c.self.view_is) (number_lost g.C.Cell.meaning g.J.Cell.meaning c.args.purchase.now (till_of c.self.inside.terminal c.self.inside.book c.self.inside.state) c.keep.new.self c.begin_numbered.new.self _ _ _ c.in_ok-at_rest.ensures.rest c.in_ok-begun.ensures.begun c.in_err-keep.ensures.terminal c.in_err-keep.ensures.refused)
