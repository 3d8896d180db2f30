use Rattle.std.proofs.Common.{◌≡◌, ◌∷◌, [], ◌++◌, arith, refl, rules}
use Rattle.duk_config.proofs.EntriesInTurn.{entries_more, first_bad}
use Rattle.duk_config.proofs.read.entries.read_entries.Goals as goal

pub returns-in_default-clause-refused : goal.returns-in_default-clause-refused
returns-in_default-clause-refused g c =
    let bad = rw c.as_slice.ensures.value at c.in_default.ensures in
    (refl, first_bad g.E.Entry.States g.E.Entry.Repeats c.args.values.now c.loop-i.entries.items c.loop-i.i c.index-values-i.result c.loop-i-test.true c.index-values-i.is c.loop-i.invariant.0 bad)

pub loop-i-preserved : goal.loop-i-preserved
loop-i-preserved g c =
    let next = rw c.as_slice.ensures.value at c.in-Some.ensures in
    let pushed : c.push.new.self.items ≡ c.loop-i.entries.items ++ c.in-Some.entry ∷ [] = search rules in (
      rw pushed (entries_more g.E.Entry.States g.E.Entry.Repeats c.args.values.now c.loop-i.entries.items c.loop-i.i c.index-values-i.result c.in-Some.entry c.loop-i-test.true c.index-values-i.is c.loop-i.invariant.0 next),
      grind (arith, pushed),
    )
