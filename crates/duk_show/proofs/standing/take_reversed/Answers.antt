use Rattle.std.proofs.Common.{◌∷◌, [], sym, subst}
use Rattle.duk_journal.specs.Standing.{reversed_in}
use Rattle.duk_show.specs.inner.Journal.{AddsAll}
use Rattle.duk_show.proofs.JournalNumbers.{adds_one}
use Rattle.duk_show.proofs.standing.take_reversed.Goals as goal

pub returns-in-Ok-clause-taken : goal.returns-in-Ok-clause-taken
returns-in-Ok-clause-taken c =
    let number = c.args.entry.now.number in
    let old = c.args.numbers.now in
    let new = c.insert.new.self in
    subst (λ decided. AddsAll (reversed_in number decided) old new) (sym c.in-Reversal.is)
    (subst (λ ksn. AddsAll (ksn ∷ []) old new) c.with_counter.ensures.value (adds_one c.with_counter.result old new c.in-Ok.ensures.added))
