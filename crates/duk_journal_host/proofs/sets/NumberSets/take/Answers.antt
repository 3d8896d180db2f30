use Rattle.std.proofs.Common.{inr, refl, subst}
use Rattle.std.specs.Bool.{MatchBool}
use Rattle.duk_host.specs.Used.{IsUsed}
use Rattle.duk_journal_host.proofs.NumbersTaken.{numbers_taken, wider_then}
use Rattle.duk_journal_host.proofs.sets.NumberSets.take.Goals as goal

pub returns-clause-wider : goal.returns-clause-wider
returns-clause-wider c = wider_then c.args.self.now.used c.insert.new.used c.note.new.self.used c.insert.ensures.wider c.note.ensures.wider

pub returns-clause-used : goal.returns-clause-used
returns-clause-used c = c.in_ok-note.ensures.wider.kept c.args.entry.now.number ((c.in_ok-insert.ensures.added c.args.entry.now.number).1 (inr refl))

pub returns-clause-taken : goal.returns-clause-taken
returns-clause-taken c = λ is.
    let fresh : ¬ IsUsed c.args.self.now.used c.args.entry.now.number =
    subst (λ fresh. MatchBool fresh (¬ IsUsed c.args.self.now.used c.args.entry.now.number) (IsUsed c.args.self.now.used c.args.entry.now.number)) c.if-not-branch.false c.in_ok-insert.ensures.fresh in
    numbers_taken c.args.self.now c.note.new.self c.insert.new.used c.args.entry.now.number c.args.entry.now.mac c.args.entry.now.decided c.requires.usable c.requires.stands fresh
    (wider_then c.args.self.now.used c.insert.new.used c.note.new.self.used c.insert.ensures.wider c.note.ensures.wider) c.in_ok-insert.ensures.added c.in_ok-note.ensures.noted
