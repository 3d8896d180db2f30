use Rattle.std.proofs.Common.{◌≡◌, replicate}
use Rattle.std.specs.List.{All}
use Rattle.duk_script.specs.OnDisk.{disk_cell_meaning}
use Rattle.duk_play.specs.Opening.{new_disk_till}
use Rattle.duk_play.specs.inner.Opening.{HasNewCells}
use Rattle.duk_play.proofs.tills.disk_tills.Given as goal

abbrev pub invariant-loop : goal.invariant-loop
invariant-loop l = (l.tills.items ≡ replicate l.counter new_disk_till) × All (HasNewCells disk_cell_meaning disk_cell_meaning) l.tills.items
