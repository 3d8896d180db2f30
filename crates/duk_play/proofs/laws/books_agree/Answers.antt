use Rattle.std.proofs.Common.{length}
use Rattle.duk_play.specs.Opening.{opening}
use Rattle.duk_play.proofs.NewEnds.{run_reached}
use Rattle.duk_play.proofs.laws.books_agree.Goals as goal

pub returns : goal.returns
returns g c first last events outcomes leads =
    let opened = run_reached _ first leads.start (opening (length first.tills)) leads.opened.outcomes (0, leads.starts.is_first) leads.opened.restarted in
    c.agreement.ensures.agree last (run_reached _ leads.start last events outcomes opened leads.run)
