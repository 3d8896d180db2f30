-- The tills and the host of a script's configuration, as they are made and brought up: this
-- project's own.
use Rattle.std.specs.Prelude.{◌+◌, ◌*◌, ◌++◌, ◌∷◌, zero, suc, ℕ, List, [], None, All, length, replicate}
use Rattle.duk_books.specs.Books.{BooksOf, Meanings, meanings_of}
use Rattle.duk_books.specs.First.{IsFirst, first_books}
use Rattle.duk_books.specs.Run.{Run}
use Rattle.duk_books.specs.declared.event.Event.{Event}
use Rattle.duk_books.specs.declared.event.Event.TheVariants.{RestartHost, RestartTill}
use Rattle.duk_books.specs.declared.outcome.Outcome.{Outcome}
use Rattle.duk_books.specs.declared.outcome.Outcome.TheVariants.{HostKeeps, TillNext}
use Rattle.duk_config.specs.Opened.{keys_for}
use Rattle.duk_config.specs.Settings.{Settings}
use Rattle.duk_host.specs.Table.{CardTable, table_decision}
use Rattle.duk_journal.specs.DiskJournal.{DiskJournalOf, disk_journal_meaning, new_disk_journal}
use Rattle.duk_journal.specs.Header.{header_of, journal_kind}
use Rattle.duk_journal.specs.Journal.{JournalMeaning}
use Rattle.duk_journal.specs.RecordFormat.{record_length}
use Rattle.duk_journal_host.specs.Host.{HostOf}
use Rattle.duk_script.specs.OnDisk.{DiskCell, disk_cell_meaning, new_disk_cell}
use Rattle.duk_store.specs.MemoryCell.{MemoryCell, memory_cell_meaning, new_cell}
use Rattle.duk_store.specs.MemoryDisk.{MemoryDisk, memory_disk_meaning, new_disk_with}
use Rattle.duk_tdes.specs.KeyBytes.{bytes_of}
use Rattle.duk_term.specs.declared.state.State.TheVariants as terminal
use Rattle.duk_till.specs.Till.{TillOf}
use Rattle.duk_till.specs.declared.state.TillState.TheVariants as till

-- a till as it is made over these cells: stopped
abbrev pub new_till : {C B : Type 0} → C → B → TillOf C B
new_till cell book = record {
  terminal = record { cell = cell; state = terminal.Stopped };
  book = book;
  state = till.Stopped;
}

-- a till as it is made over new cells in memory
abbrev pub new_memory_till : TillOf MemoryCell MemoryCell
new_memory_till = new_till new_cell new_cell

-- a till as it is made over new cells on new disks
abbrev pub new_disk_till : TillOf DiskCell DiskCell
new_disk_till = new_till new_disk_cell new_disk_cell

-- the journal of a host, on a disk in memory
abbrev pub PlayJournal : Type 0
PlayJournal = DiskJournalOf MemoryDisk

-- what it means
abbrev pub journal_meaning : JournalMeaning PlayJournal
journal_meaning = disk_journal_meaning memory_disk_meaning

-- a journal as it is made over a new disk with a header and room for so many entries. Its identity is
-- 0, as there is no other disk.
abbrev pub new_journal : ℕ → PlayJournal
new_journal room =
    new_disk_journal (new_disk_with (header_of journal_kind 0) (record_length * (1 + room)))

-- the host of a configuration over this journal, as it is made: stopped
abbrev pub new_host_over : {J : Type 0} → Settings → J → HostOf J CardTable
new_host_over config journal = record {
  keys = keys_for (bytes_of config.lmk) config;
  issuer = record { zone = bytes_of config.zone; cards = config.cards };
  journal = journal;
  state = None;
}

-- tills over cells in memory or on disks, and a host over such a journal whose issuer decides by a
-- table of cards
abbrev pub MemoryBooks : Type 0
MemoryBooks = BooksOf MemoryCell MemoryCell PlayJournal CardTable

abbrev pub DiskBooks : Type 0
DiskBooks = BooksOf DiskCell DiskCell PlayJournal CardTable

-- what their stores and their issuer mean
abbrev pub in_memory : Meanings MemoryCell MemoryCell PlayJournal CardTable
in_memory = meanings_of memory_cell_meaning memory_cell_meaning journal_meaning table_decision

abbrev pub on_disk : Meanings DiskCell DiskCell PlayJournal CardTable
on_disk = meanings_of disk_cell_meaning disk_cell_meaning journal_meaning table_decision

-- those of a configuration with these tills, as they are made
abbrev pub new_books_of : {C B : Type 0} → Settings → List (TillOf C B)
    → BooksOf C B PlayJournal CardTable
new_books_of config tills =
    first_books (new_host_over config (new_journal config.log)) config.loading tills

-- those of a configuration, over cells in memory
abbrev pub new_memory_books : Settings → MemoryBooks
new_memory_books config = new_books_of config (replicate config.terminals new_memory_till)

-- those of a configuration, over cells on disks
abbrev pub new_disk_books : Settings → DiskBooks
new_disk_books config = new_books_of config (replicate config.terminals new_disk_till)

-- the restarts of the host and of so many tills
abbrev pub opening : ℕ → List Event
opening zero = RestartHost ∷ []
opening (suc count) = opening count ++ RestartTill (count + 1) ∷ []

-- the outcome is that an end was brought up
abbrev pub ReportsBroughtUp : Outcome → Type 0
ReportsBroughtUp (HostKeeps kept) = Unit {0}
ReportsBroughtUp (TillNext t next state) = Unit {0}
ReportsBroughtUp _ = ⊥

-- both cells of a till are sound, and no device step of them is to fail
pub record IsCalmTill {C B J I : Type 0} (m : Meanings C B J I) (one : TillOf C B) : Type 0 where
  pub cell_sound : (m.cell.state_of one.terminal.cell).sound
  pub cell_calm : (m.cell.state_of one.terminal.cell).calm
  pub book_sound : (m.book.state_of one.book).sound
  pub book_calm : (m.book.state_of one.book).calm

-- nothing happened yet, and every store is honest, sound and calm
pub record StartsCalm {C B J I : Type 0} (m : Meanings C B J I) (first : BooksOf C B J I)
    : Type 0 where
  pub is_first : IsFirst m first
  pub journal_sound : (m.host.journal.state_of first.host.journal).sound
  pub journal_calm : (m.host.journal.state_of first.host.journal).calm
  pub tills : All (IsCalmTill m) first.tills

-- all ends are restarted from the first, and each is brought up
pub record AreEndsBroughtUp {C B J I : Type 0} (m : Meanings C B J I)
    (first opened : BooksOf C B J I) : Type 0 where
  pub outcomes : List Outcome
  pub restarted : Run m first (opening (length first.tills)) outcomes opened
  pub brought_up : All ReportsBroughtUp outcomes
