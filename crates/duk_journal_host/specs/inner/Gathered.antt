-- What holds of what a restart made of entries so far: this project's own.
use Rattle.std.specs.Prelude.{◌≡◌, ◌≤◌, [], ℕ, Contains, length, nat_eq}
use Rattle.std.specs.List.{AllPairs}
use Rattle.indexmap.specs.IndexMap.{IndexMap, IsUnique, spare}
use Rattle.duk_host.specs.Used.{IsUsed}
use Rattle.duk_journal.specs.Groups.{Entries}
use Rattle.duk_journal.specs.declared.entry.Entry.{Entry}
use Rattle.duk_store.specs.Log.{Numbers}
use Rattle.duk_journal_host.specs.Latest.{most_latest}
use Rattle.duk_journal_host.specs.declared.latest.Kept.{Kept}
use Rattle.duk_journal_host.specs.inner.Index.{IsListed}

-- each entry has a number that no other has
abbrev pub HaveOwnNumbers : Entries → Type 0
HaveOwnNumbers entries = AllPairs (λ (earlier later : Entry). ¬ (earlier.number ≡ later.number)) entries

-- the used numbers are those of a list; the entries are few enough, have numbers of their own, each of
-- them used, and fit into the map, which is empty
pub record IsGathered {S : Type 0} (used : Numbers) (map : IndexMap ℕ Kept S) (latest : Entries)
    : Type 0 where
  pub listed : IsListed used
  pub unique : IsUnique nat_eq map
  pub empty : map.entries ≡ []
  pub room : length latest ≤ spare map
  pub most : length latest ≤ most_latest
  pub own : HaveOwnNumbers latest
  pub are_used : (entry : Entry) → Contains latest entry → IsUsed used entry.number
