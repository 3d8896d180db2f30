use Rattle.std.proofs.Common.{◌≡◌, replicate}
use Rattle.std.specs.List.{All}
use Rattle.duk_net.specs.InMemory.{new_terminal}
use Rattle.duk_script.specs.inner.Opening.{HasNewCell}
use Rattle.duk_store.specs.MemoryCell.{memory_cell_meaning}
use Rattle.duk_script.proofs.terminals.memory_terminals.Given as goal

abbrev pub invariant-loop : goal.invariant-loop
invariant-loop l = (l.terminals.items ≡ replicate l.counter new_terminal) × All (HasNewCell memory_cell_meaning) l.terminals.items
