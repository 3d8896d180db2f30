use Rattle.std.proofs.Common.{◌≡◌, length, map, take}
use Rattle.toml.specs.View.{view}
use Rattle.duk_config.specs.Entries.{AreEntries}
use Rattle.duk_config.proofs.read.entries.read_entries.Given as goal

abbrev pub invariant-loop-i : goal.invariant-loop-i
invariant-loop-i g l =
    AreEntries g.E.Entry.States g.E.Entry.Repeats (map view (take l.i l.values)) l.entries.items × (length l.entries.items ≡ l.i)
