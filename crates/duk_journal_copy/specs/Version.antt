-- The versions of a journal's format: this project's own.
use Rattle.std.specs.Prelude.{ℕ, List}
use Rattle.duk_journal.specs.CheckedFormat.{checked_format}
use Rattle.duk_journal.specs.Groups.{Entries}
use Rattle.duk_journal.specs.RecordFormat.{entry_format}
use Rattle.duk_journal.specs.declared.entry.Entry.{Entry}
use Rattle.duk_journal_copy.specs.declared.version.Version.{Version}
use Rattle.duk_journal_copy.specs.declared.version.Version.TheVariants.{One, Two}
use Rattle.duk_store.specs.Disk.{DiskMeaning}
use Rattle.duk_store.specs.DiskRecords.{RecordsOf, new_records, records_meaning}
use Rattle.duk_store.specs.Format.{FormatMeaning}
use Rattle.duk_store.specs.Records.{KeepsItems}
use Rattle.duk_journal.specs.Journal.{JournalMeaning}

-- what the format of each version means
abbrev pub format_of : Version → FormatMeaning Entry
format_of One = entry_format
format_of Two = checked_format

-- the disk of a journal of a version keeps these entries
abbrev pub KeepsIn : Version → List ℕ → Entries → Type 0
KeepsIn version bytes entries = KeepsItems (format_of version) bytes entries

-- the records of a journal of either version on a disk, and what they mean
abbrev pub JournalRecords : Type 0 → Type 0
JournalRecords D = RecordsOf D Version

abbrev pub journal_records_meaning : {D : Type 0} → DiskMeaning D → JournalMeaning (JournalRecords D)
journal_records_meaning meaning = records_meaning meaning format_of

-- as they are made: stopped
abbrev pub new_journal_records : {D : Type 0} → D → Version → JournalRecords D
new_journal_records disk version = new_records disk version
