-- Which entries the bytes of a journal keep, in the records of its format: this project's own. Those of
-- version 1 are told beside it.
use Rattle.std.specs.Prelude.{ℕ, List}
use Rattle.duk_store.specs.Records as records
use Rattle.duk_journal.specs.CheckedFormat.{checked_format}
use Rattle.duk_journal.specs.RecordFormat.{SaysEntry, after_gate, entry_format}
use Rattle.duk_journal.specs.declared.entry.Entry.{Entry}

-- what a journal keeps: the entries in the order in which they were appended
abbrev pub Entries : Type 0
Entries = List Entry

-- entries that may be appended together: at least one, and each may be kept
abbrev pub IsGroup : Entries → Type 0
IsGroup group = records.IsGroup checked_format group

-- a record of version 1 with this entry, after which so many of its group follow
abbrev pub HasContents : ℕ → Entry → List ℕ → Type 0
HasContents followers entry record_bytes = SaysEntry followers entry (after_gate record_bytes)

-- the journal of such a disk keeps these entries
abbrev pub KeepsChecked : List ℕ → Entries → Type 0
KeepsChecked bytes entries = records.KeepsItems checked_format bytes entries

-- and one of version 1
abbrev pub KeepsEntries : List ℕ → Entries → Type 0
KeepsEntries bytes entries = records.KeepsItems entry_format bytes entries
