-- What only private functions and proofs say beside `MemoryJournal.antt`: this project's own.
use Rattle.std.specs.Prelude.{◌≡◌, false, ◌++◌, ◌∷◌}
use Rattle.duk_store.specs.Visitor.{TakesAll}
use Rattle.duk_store.specs.declared.fault.StoreFault.{StoreFault}
use Rattle.duk_journal.specs.Groups.{Entries}
use Rattle.duk_journal.specs.MemoryJournal.{MemoryJournal}
use Rattle.duk_journal.specs.declared.entry.Entry.{Entry}

-- a call is refused: the journal is stopped
pub record IsJournalStopped (old new : MemoryJournal) : Type 0 where
  pub stopped : old.running ≡ false
  pub same : new ≡ old

-- a visitor refused one of these entries, behind those before it
pub record IsEntryRefused {V : Type 0} (takes : V → Entry → V → Type 0)
    (refuses : V → Entry → StoreFault → Type 0) (entries : Entries) (visitor : V)
    (fault : StoreFault) : Type 0 where
  pub earlier : Entries
  pub entry : Entry
  pub rest : Entries
  pub visited : V
  pub taken : TakesAll takes earlier visitor visited
  pub refused : refuses visited entry fault
  pub entries_are : entries ≡ earlier ++ entry ∷ rest
