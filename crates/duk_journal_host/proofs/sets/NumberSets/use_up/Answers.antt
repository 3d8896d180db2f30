use Rattle.std.proofs.Common.{subst}
use Rattle.std.specs.Bool.{MatchBool}
use Rattle.duk_host.specs.Used.{IsUsed}
use Rattle.duk_journal_host.proofs.NumbersTaken.{none_more_where, one_more_where}
use Rattle.duk_journal_host.proofs.sets.NumberSets.use_up.Goals as goal

pub returns-then-not-branch-clause-others : goal.returns-then-not-branch-clause-others
returns-then-not-branch-clause-others c =
    let used : IsUsed c.args.self.now.used c.args.reversed =
    subst (λ fresh. MatchBool fresh (¬ IsUsed c.args.self.now.used c.args.reversed) (IsUsed c.args.self.now.used c.args.reversed)) c.if-not-branch.true c.in_ok-insert.ensures.fresh in
    none_more_where (¬ IsUsed c.args.self.now.used c.args.reversed) c.args.self.now.others c.args.reversed (λ not. not used)

pub returns-clause-others : goal.returns-clause-others
returns-clause-others c =
    let fresh : ¬ IsUsed c.args.self.now.used c.args.reversed =
    subst (λ fresh. MatchBool fresh (¬ IsUsed c.args.self.now.used c.args.reversed) (IsUsed c.args.self.now.used c.args.reversed)) c.if-not-branch.false c.in_ok-insert.ensures.fresh in
    one_more_where (¬ IsUsed c.args.self.now.used c.args.reversed) c.args.self.now.others c.insert-2.new.self c.args.reversed fresh c.in_ok-insert-2.ensures.added
