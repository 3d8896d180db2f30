use Rattle.std.proofs.Common.{arith, subst}
use Rattle.std.proofs.lemmas.List.{take_all}
use Rattle.duk_journal.specs.Groups.{Entries}
use Rattle.duk_journal.specs.Standing.{reversed_numbers}
use Rattle.duk_show.specs.inner.Journal.{AreThose}
use Rattle.duk_show.proofs.JournalNumbers.{reversed_more}
use Rattle.duk_show.proofs.standing.reversed_by_all.Goals as goal

pub loop-entry-preserved : goal.loop-entry-preserved
loop-entry-preserved c =
    reversed_more c.args.entries.now c.loop-entry.entry-index c.entry-item.result c.loop-entry.reversed c.take_reversed.new.numbers
    c.loop-entry-test.true c.entry-item.is c.loop-entry.invariant c.in_ok-take_reversed.ensures.taken

pub returns-clause-reversed : goal.returns-clause-reversed
returns-clause-reversed c =
    subst (λ (entries : Entries). AreThose (reversed_numbers entries) c.loop-entry.reversed)
    (take_all c.loop-entry.entry-index c.args.entries.now (omega (arith, c.loop-entry-test.false))) c.loop-entry.invariant
