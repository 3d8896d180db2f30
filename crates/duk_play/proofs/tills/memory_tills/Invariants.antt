use Rattle.std.proofs.Common.{◌≡◌, replicate}
use Rattle.std.specs.List.{All}
use Rattle.duk_store.specs.MemoryCell.{memory_cell_meaning}
use Rattle.duk_play.specs.Opening.{new_memory_till}
use Rattle.duk_play.specs.inner.Opening.{HasNewCells}
use Rattle.duk_play.proofs.tills.memory_tills.Given as goal

abbrev pub invariant-loop : goal.invariant-loop
invariant-loop l = (l.tills.items ≡ replicate l.counter new_memory_till) × All (HasNewCells memory_cell_meaning memory_cell_meaning) l.tills.items
