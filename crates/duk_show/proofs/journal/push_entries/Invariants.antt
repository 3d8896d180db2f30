use Rattle.std.proofs.Common.{◌≡◌, ◌++◌, drop}
use Rattle.duk_show.specs.Journal.{entry_lines}
use Rattle.duk_show.proofs.journal.push_entries.Given as goal

-- the lines so far, and those of what is left, are all lines
abbrev pub invariant-loop-place : goal.invariant-loop-place
invariant-loop-place l =
    l.text.items ++ entry_lines l.bytes l.group l.place (drop l.place l.entries) ≡ l.fn.text.items ++ entry_lines l.bytes 0 0 l.entries
