-- What only proofs say beside `Groups.antt`: this project's own.
use Rattle.std.specs.Prelude.{ℕ, List}
use Rattle.duk_store.specs.Records as records
use Rattle.duk_journal.specs.Groups.{Entries}
use Rattle.duk_journal.specs.RecordFormat.{entry_format, record_length}

-- all records from this place on are closed
abbrev pub AreClosedFrom : ℕ → List ℕ → Type 0
AreClosedFrom place bytes = records.AreClosedFrom record_length place bytes

-- these entries, and no more, are kept from this place on, where so many of them belong to a group
-- that began before it
abbrev pub AreKeptFrom : Entries → ℕ → ℕ → List ℕ → Type 0
AreKeptFrom entries left place bytes = records.AreKeptFrom entry_format entries left place bytes
