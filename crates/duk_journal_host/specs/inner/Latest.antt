-- How the entries that can be answered again lie in memory: in a map by their numbers, whose places
-- are a ring once there are as many as can be: this project's own.
use Rattle.std.specs.Prelude.{◌≡◌, ◌<◌, ◌≤◌, ◌*◌, ◌/◌, ◌%◌, ◌^◌, ◌++◌, ◌∷◌, [], ℕ, List, drop, take, map, Contains}
use Rattle.duk_journal.specs.Groups.{Entries}
use Rattle.duk_journal.specs.declared.entry.Decided.{Decided}
use Rattle.duk_journal.specs.declared.entry.Entry.{Entry}
use Rattle.duk_tree.specs.Serial.{Serial}
use Rattle.duk_journal_host.specs.Latest.{latest_entries, most_latest}
use Rattle.duk_journal_host.specs.declared.latest.Kept.{Kept}

-- the key serial number of a number of 80 bits
abbrev pub numbered : ℕ → Serial
numbered number = record { iksn = number / 2 ^ 21 * 2 ^ 21; counter = number % 2 ^ 21 }

-- the entry with this number, of a request with this MAC
abbrev pub entry_under : Serial → List ℕ → Decided → Entry
entry_under number mac decided = record { number = number; decided = decided; mac = mac }

-- the entry at a place of the map
abbrev pub entry_at : ℕ × Kept → Entry
entry_at place = entry_under (numbered place.0) place.1.mac place.1.decided

-- what is kept of an entry beside its number
abbrev pub kept_of : Entry → Kept
kept_of entry = record { decided = entry.decided; mac = entry.mac }

-- the entries at the places of the map, from the oldest on
abbrev pub entries_in : ℕ → List (ℕ × Kept) → Entries
entries_in oldest places = map entry_at (drop oldest places ++ take oldest places)

-- the oldest is the first until there are as many as can be, and then any
pub record IsRing (oldest count : ℕ) : Type 0 where
  pub most : count ≤ most_latest
  pub begins : count < most_latest → oldest ≡ 0
  pub inside : oldest < most_latest

-- one more entry is the latest
abbrev pub with_latest : Entries → Entry → Entries
with_latest latest entry = latest_entries (latest ++ entry ∷ [])

-- none has this number
abbrev pub HasNoNumber : Entries → Serial → Type 0
HasNoNumber latest ksn = (entry : Entry) → Contains latest entry → ¬ (entry.number ≡ ksn)
