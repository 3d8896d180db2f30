-- What a journal of entries means, a list of them that outlives a stop: this project's own.
use Rattle.duk_store.specs.Listed.{ListMeaning}
use Rattle.duk_journal.specs.declared.entry.Entry.{Entry}

-- what the journals of one kind mean
abbrev pub JournalMeaning : Type 0 → Type 1
JournalMeaning J = ListMeaning J Entry
