use Rattle.std.proofs.Common.{sym, subst, ◌∙◌}
use Rattle.std.proofs.lemmas.Bool.{false≢true}
use Rattle.std.specs.Bool.{MatchBool}
use Rattle.duk_host.specs.Used.{IsUsed}
use Rattle.duk_tree.specs.Path.{IsUsable}
use Rattle.duk_journal_host.proofs.FirstRead.{not_standing, not_usable, takes_entry, used_twice}
use Rattle.duk_journal_host.proofs.reading.take_next.Goals as goal

pub returns-then-not-usable-clause-refused : goal.returns-then-not-usable-clause-refused
returns-then-not-usable-clause-refused c = λ seen is.
    not_usable seen c.args.entry.now (λ usable. false≢true (sym c.if-not-usable.true ∙ c.usable.ensures.usable.1 (subst IsUsable (sym c.counter.ensures.value) usable)))

pub returns-then-not-may_stand_under-clause-refused : goal.returns-then-not-may_stand_under-clause-refused
returns-then-not-may_stand_under-clause-refused c = λ seen is.
    not_standing seen c.args.entry.now (λ stands. false≢true (sym c.if-not-may_stand_under.true ∙ c.may_stand_under.ensures.1 stands))

pub returns-then-branch-clause-taken : goal.returns-then-branch-clause-taken
returns-then-branch-clause-taken c =
    takes_entry c.args.entry.now c.args.gathered.now c.take.new.self (c.in_ok-take.ensures.numbers c.if-branch.true) (c.in_ok-take.ensures.last c.if-branch.true)

pub returns-else-branch-clause-refused : goal.returns-else-branch-clause-refused
returns-else-branch-clause-refused c = λ seen is.
    let used = subst (λ fresh. MatchBool fresh (¬ IsUsed c.args.gathered.now.used c.args.entry.now.number) (IsUsed c.args.gathered.now.used c.args.entry.now.number)) c.if-branch.false c.in_ok-take.ensures.fresh in
    used_twice seen c.args.entry.now c.args.gathered.now is used
