use Rattle.std.proofs.Common.{◌+◌, ◌++◌, ◌∷◌, [], ap, drop, subst, sym, take, ◌∙◌}
use Rattle.std.proofs.lemmas.List.{take_more}
use Rattle.std.proofs.lemmas.Result.{err_from_is_err_and}
use Rattle.duk_store.specs.Visitor.{TakesAll}
use Rattle.duk_journal.specs.Groups.{Entries}
use Rattle.duk_journal.specs.declared.entry.Entry.{Entry}
use Rattle.duk_journal.proofs.MemoryJournalMeaning.{parted_at, takes_more}
use Rattle.duk_journal.proofs.memory_journal.visit.Goals as goal

pub loop-entry-preserved : goal.loop-entry-preserved
loop-entry-preserved g c =
    let entries = c.args.entries.now in
    let index = c.loop-entry.entry-index in
    let entry = c.entry-item.result in
    subst (λ (front : Entries). TakesAll g.V.Visitor.takes front c.args.visitor.now c.take.new.self)
    (sym (take_more entries index entry c.loop-entry-test.true ∙ ap (λ (entry : Entry). take index entries ++ entry ∷ []) (sym c.entry-item.is)))
    (takes_more g.V.Visitor.takes (take index entries) entry c.args.visitor.now c.loop-entry.visitor c.take.new.self c.loop-entry.invariant c.in_ok-take.ensures.taken)

pub returns-in_err-take-clause-refused : goal.returns-in_err-take-clause-refused
returns-in_err-take-clause-refused g c =
    let p = err_from_is_err_and c.from_residual.result c.from_residual.ensures.1 in
    let entries = c.args.entries.now in
    let index = c.loop-entry.entry-index in
    let entry = c.entry-item.result in
    rw (p.1, p.2) (record {
      earlier = take index entries;
      entry = entry;
      rest = drop (index + 1) entries;
      visited = c.loop-entry.visitor;
      taken = c.loop-entry.invariant;
      refused = c.in_err-take.ensures.refused;
      entries_are = parted_at entries index entry c.loop-entry-test.true c.entry-item.is;
    })
