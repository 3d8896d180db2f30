use Rattle.std.proofs.Common.{◌≡◌, length}
use Rattle.duk_show.specs.Journal.{BeginsJournal}
use Rattle.duk_show.specs.inner.Journal.{AreUsedBy}
use Rattle.duk_show.proofs.journal.read_groups.Given as goal

-- the records so far have these entries, and the used numbers are theirs
abbrev pub invariant-loop-place : goal.invariant-loop-place
invariant-loop-place l =
    BeginsJournal l.place l.left l.entries.items l.stored × AreUsedBy l.entries.items l.used × (length l.entries.items ≡ l.place)
