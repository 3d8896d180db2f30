use Rattle.std.proofs.Common.{arith, Contains, refl, sym, ◌∙◌}
use Rattle.std.proofs.lemmas.Bool.{false≢true}
use Rattle.duk_journal.specs.Standing.{numbers_in}
use Rattle.duk_journal.specs.declared.entry.Entry.{Entry}
use Rattle.duk_hosts.proofs.Kept.{none_at_all, none_has, none_more, one_has}
use Rattle.duk_hosts.proofs.settle.is_used.Goals as goal

pub returns-then-uses : goal.returns-then-uses
returns-then-uses c = (
  λ yes. one_has (λ (entry : Entry). numbers_in entry) c.args.entries.now c.loop-entry.entry-index c.entry-item.result c.args.number c.loop-entry-test.true c.entry-item.is (c.uses.ensures.0 c.if-uses.true),
  λ has. refl,
)

pub loop-entry-preserved : goal.loop-entry-preserved
loop-entry-preserved c =
    none_more (λ (entry : Entry). Contains (numbers_in entry) c.args.number) c.args.entries.now c.loop-entry.entry-index c.entry-item.result c.loop-entry-test.true c.entry-item.is c.loop-entry.invariant
    (λ has. false≢true (sym c.if-uses.false ∙ c.uses.ensures.1 has))

pub returns : goal.returns
returns c = (
  λ yes. absurd (false≢true yes),
  λ has. absurd (none_has (λ (entry : Entry). numbers_in entry) c.args.entries.now c.args.number
      (none_at_all (λ (entry : Entry). Contains (numbers_in entry) c.args.number) c.args.entries.now c.loop-entry.entry-index (omega (arith, c.loop-entry-test.false)) c.loop-entry.invariant)
      has),
)
