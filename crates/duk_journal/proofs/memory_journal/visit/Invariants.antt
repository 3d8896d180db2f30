use Rattle.std.proofs.Common.{take}
use Rattle.duk_store.specs.Visitor.{TakesAll}
use Rattle.duk_journal.proofs.memory_journal.visit.Given as goal

abbrev pub invariant-loop-entry : goal.invariant-loop-entry
invariant-loop-entry g l = TakesAll g.V.Visitor.takes (take l.entry-index l.entries) l.fn.visitor l.visitor
