use Rattle.std.proofs.Common.{◌≡◌, ◌≤◌, ◌+◌, eqb, length, take}
use Rattle.indexmap.specs.IndexMap.{IsUnique, spare}
use Rattle.duk_journal_host.specs.inner.Latest.{IsRing, entries_in}
use Rattle.duk_journal_host.proofs.latest.fill.Given as goal

abbrev pub invariant-loop-entry : goal.invariant-loop-entry
invariant-loop-entry l = record {
  unique : IsUnique eqb l.map;
  ring : IsRing l.oldest (length l.map.entries);
  room : length l.latest ≤ spare l.map + l.entry-index;
  all : entries_in l.oldest l.map.entries ≡ take l.entry-index l.latest;
}
