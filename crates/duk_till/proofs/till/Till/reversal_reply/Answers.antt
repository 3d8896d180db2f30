use Rattle.std.proofs.lemmas.Result.{err_from_is_err_and}
use Rattle.duk_till.proofs.Told.{same_till}
use Rattle.duk_till.proofs.till.Till.reversal_reply.Goals as goal

pub returns-in_err-found-clause-refused : goal.returns-in_err-found-clause-refused
returns-in_err-found-clause-refused g c =
    let p = err_from_is_err_and c.from_residual-in_err-found.result c.from_residual-in_err-found.ensures.1 in
    rw (p.1, p.2, ← c.self.view_is) (
      (c.in_ok-ksn.ksn, c.in_ok-ksn.field-0-1, c.in_ok-ksn.ensures.found, c.in_err-found.ensures.refused),
      same_till c.reversal_reply.new.self c.self.inside.terminal c.self.inside.book c.self.inside.state c.in_err-found.ensures.same,
    )
