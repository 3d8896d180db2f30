-- The entries that can be answered again: this project's own.
use Rattle.std.specs.Prelude.{◌-◌, ℕ, drop, length}
use Rattle.duk_journal.specs.Groups.{Entries}

-- how many of the kept entries can be answered again
abbrev pub most_latest : ℕ
most_latest = 1048576

-- the last of these entries, as many as can be answered again
abbrev pub latest_entries : Entries → Entries
latest_entries entries = drop (length entries - most_latest) entries
