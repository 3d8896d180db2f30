use Rattle.std.proofs.Common.{subst}
use Rattle.std.specs.Bool.{MatchBool}
use Rattle.duk_host.specs.Used.{IsUsed}
use Rattle.duk_journal_host.specs.Host.{IndexOf}
use Rattle.duk_journal_host.specs.inner.Index.{TakesNumbers, index_with}
use Rattle.duk_journal_host.specs.inner.Latest.{entries_in}
use Rattle.duk_journal_host.proofs.Indexed.{indexed_more, no_number, same_places, wider_index}
use Rattle.duk_journal_host.proofs.index.Index.take.Goals as goal

pub invariant_of-self-in_err-take : goal.invariant_of-self-in_err-take
invariant_of-self-in_err-take c =
    wider_index c.self.inside.sets.used c.take.new.self.used c.reserve.new.self c.self.inside.oldest
    (same_places c.self.inside.sets.used c.self.inside.map c.reserve.new.self c.self.inside.oldest c.self.invariant c.reserve.ensures.entries c.reserve.ensures.unique)
    c.take.ensures.wider

pub invariant_of-self-then-not-branch : goal.invariant_of-self-then-not-branch
invariant_of-self-then-not-branch c =
    wider_index c.self.inside.sets.used c.take.new.self.used c.reserve.new.self c.self.inside.oldest
    (same_places c.self.inside.sets.used c.self.inside.map c.reserve.new.self c.self.inside.oldest c.self.invariant c.reserve.ensures.entries c.reserve.ensures.unique)
    c.take.ensures.wider

pub push-self-inside-requires-clause-new : goal.push-self-inside-requires-clause-new
push-self-inside-requires-clause-new c =
    let is = same_places c.self.inside.sets.used c.self.inside.map c.reserve.new.self c.self.inside.oldest c.self.invariant c.reserve.ensures.entries c.reserve.ensures.unique in
    no_number c.self.inside.sets.used c.reserve.new.self c.self.inside.oldest c.args.entry.now.number is
    (subst (λ fresh. MatchBool fresh (¬ IsUsed c.self.inside.sets.used c.args.entry.now.number) (IsUsed c.self.inside.sets.used c.args.entry.now.number)) c.if-not-branch.false c.in_ok-take.ensures.fresh)

pub invariant_of-self-2 : goal.invariant_of-self-2
invariant_of-self-2 c =
    let is = same_places c.self.inside.sets.used c.self.inside.map c.reserve.new.self c.self.inside.oldest c.self.invariant c.reserve.ensures.entries c.reserve.ensures.unique in
    indexed_more c.self.inside.sets.used c.take.new.self.used c.reserve.new.self c.push-self-inside.new.map c.self.inside.oldest c.push-self-inside.result c.args.entry.now is
    c.take.ensures.wider c.in_ok-take.ensures.used c.push-self-inside.ensures.unique c.push-self-inside.ensures.ring c.push-self-inside.ensures.last

pub returns-clause-numbers : goal.returns-clause-numbers
returns-clause-numbers c = λ is.
    let latest = entries_in c.self.inside.oldest c.self.inside.map.entries in
    let more = entries_in c.push-self-inside.result c.push-self-inside.new.map.entries in
    subst (λ (old : IndexOf). TakesNumbers old (index_with c.take.new.self more) c.args.entry.now) c.self.view_is (c.in_ok-take.ensures.taken c.if-not-branch.false latest more)
