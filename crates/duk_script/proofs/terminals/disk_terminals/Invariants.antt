use Rattle.std.proofs.Common.{◌≡◌, replicate}
use Rattle.std.specs.List.{All}
use Rattle.duk_script.specs.OnDisk.{disk_cell_meaning, new_disk_terminal}
use Rattle.duk_script.specs.inner.Opening.{HasNewCell}
use Rattle.duk_script.proofs.terminals.disk_terminals.Given as goal

abbrev pub invariant-loop : goal.invariant-loop
invariant-loop l = (l.terminals.items ≡ replicate l.counter new_disk_terminal) × All (HasNewCell disk_cell_meaning) l.terminals.items
