-- A journal of entries in memory: this project's own. It has no device, so no step of it fails.
use Rattle.std.specs.Prelude.{◌≡◌, ◌++◌, ℕ, Bool, true, false, [], length}
use Rattle.duk_store.specs.StoreState.{StoreState}
use Rattle.duk_journal.specs.Groups.{Entries}
use Rattle.duk_journal.specs.Journal.{JournalMeaning}

-- what a journal in memory is: the entries that it keeps, for how many it has room in all, and
-- whether it runs
pub record MemoryJournal : Type 0 where
  pub entries : Entries
  pub capacity : ℕ
  pub running : Bool

-- a new journal: no entry is kept, and it is stopped
abbrev pub new_journal : ℕ → MemoryJournal
new_journal capacity = record { entries = []; capacity = capacity; running = false }

-- its state: a restart finds the entries that it keeps
abbrev pub memory_journal_state : MemoryJournal → StoreState Entries
memory_journal_state journal = record {
  honest = Unit {0};
  sound = Unit {0};
  calm = Unit {0};
  running = journal.running;
  found = λ entries. entries ≡ journal.entries;
  failures = 0;
}

-- the journal, brought up
abbrev pub restarted_journal : MemoryJournal → MemoryJournal
restarted_journal journal = record journal { running = true }

-- what journals in memory mean: arming changes nothing of them
abbrev pub memory_journal_meaning : JournalMeaning MemoryJournal
memory_journal_meaning = record {
  state_of = memory_journal_state;
  count = λ journal. length journal.entries;
  capacity = λ journal. journal.capacity;
  disarmed = λ journal. Unit {0};
  arms = λ old steps new. new ≡ old;
}

-- a group is appended: the journal keeps it behind what it kept
pub record IsMemoryGroupAppended (old new : MemoryJournal) (group : Entries) : Type 0 where
  pub runs : old.running ≡ true
  pub kept : new ≡ record old { entries = old.entries ++ group }
