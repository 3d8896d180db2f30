use Rattle.std.proofs.Common.{◌≡◌, arith, subst}
use Rattle.std.specs.Bool.{MatchBool}
use Rattle.duk_host.specs.Used.{IsUsed}
use Rattle.duk_journal_host.specs.Host.{IndexOf}
use Rattle.duk_journal_host.specs.inner.Index.{TakesNumbers, index_with}
use Rattle.duk_journal_host.specs.inner.Latest.{with_latest}
use Rattle.duk_journal_host.proofs.Gathering.{gathered_more, still_gathered}
use Rattle.duk_journal_host.proofs.gathered.Gathered.take.Goals as goal

pub invariant_of-self-in_err-take : goal.invariant_of-self-in_err-take
invariant_of-self-in_err-take c =
    still_gathered c.self.inside.sets.used c.take.new.self.used c.self.inside.map c.reserve.new.self c.self.inside.latest.items c.make_room.new.latest.items c.self.invariant c.take.ensures.wider
    c.reserve.ensures.entries c.reserve.ensures.unique (omega arith) c.make_room.ensures.same

pub invariant_of-self-then-not-branch : goal.invariant_of-self-then-not-branch
invariant_of-self-then-not-branch c =
    still_gathered c.self.inside.sets.used c.take.new.self.used c.self.inside.map c.reserve.new.self c.self.inside.latest.items c.make_room.new.latest.items c.self.invariant c.take.ensures.wider
    c.reserve.ensures.entries c.reserve.ensures.unique (omega arith) c.make_room.ensures.same

pub invariant_of-self-2 : goal.invariant_of-self-2
invariant_of-self-2 c =
    let entry = c.args.entry.now in
    let fresh = subst (λ fresh. MatchBool fresh (¬ IsUsed c.self.inside.sets.used entry.number) (IsUsed c.self.inside.sets.used entry.number)) c.if-not-branch.false c.in_ok-take.ensures.fresh in
    gathered_more c.self.inside.sets.used c.take.new.self.used c.self.inside.map c.reserve.new.self c.self.inside.latest.items c.push_last.new.latest.items entry c.self.invariant c.take.ensures.wider
    c.in_ok-take.ensures.used fresh c.reserve.ensures.entries c.reserve.ensures.unique (omega (arith, c.in_ok-reserve.ensures.ok, c.len.ensures))
    (subst (λ latest. c.push_last.new.latest.items ≡ with_latest latest entry) c.make_room.ensures.same c.push_last.ensures.last)

pub returns-clause-numbers : goal.returns-clause-numbers
returns-clause-numbers c = λ is.
    let latest = c.self.inside.latest.items in
    let more = c.push_last.new.latest.items in
    subst (λ (old : IndexOf). TakesNumbers old (index_with c.take.new.self more) c.args.entry.now) c.self.view_is (c.in_ok-take.ensures.taken c.if-not-branch.false latest more)
