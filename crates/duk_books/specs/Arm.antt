-- The store of an end is armed: this project's own.
use Rattle.std.specs.Prelude.{◌≡◌, ℕ}
use Rattle.duk_journal.specs.Groups.{Entries}
use Rattle.duk_journal_host.specs.Host.{HostOf, JudgesBy}
use Rattle.duk_journal_host.specs.Restart.{PreservesEnds}
use Rattle.duk_store.specs.StoreState.{StaysButCalm}
use Rattle.duk_till.specs.Lifetime.{ArmBook, ArmTerminal, IsCalled}
use Rattle.duk_till.specs.Till.{TillOf}
use Rattle.duk_books.specs.Books.{BooksOf, ChangesTill, Meanings}
use Rattle.duk_stations.specs.Places.{HasNone}
use Rattle.duk_books.specs.declared.event.End.{End}
use Rattle.duk_books.specs.declared.event.End.TheVariants as end
use Rattle.duk_books.specs.declared.outcome.Outcome.{Outcome}
use Rattle.duk_books.specs.declared.outcome.Outcome.TheVariants as outcome

-- the cell of a till's terminal is armed
pub record ArmsTerminalCell
    {C B J I : Type 0} (m : Meanings C B J I) (steps : ℕ) (before after : TillOf C B)
    : Type 0 where
  pub armed : m.cell.arms before.terminal.cell steps after.terminal.cell
  pub called : IsCalled m.cell m.book (ArmTerminal steps) before after

-- the book of a till is armed
pub record ArmsTillBook
    {C B J I : Type 0} (m : Meanings C B J I) (steps : ℕ) (before after : TillOf C B)
    : Type 0 where
  pub armed : m.book.arms before.book steps after.book
  pub called : IsCalled m.cell m.book (ArmBook steps) before after

-- the host's journal is armed
pub record ArmsJournal
    {C B J I : Type 0} (m : Meanings C B J I) (steps : ℕ) (before after : HostOf J I)
    : Type 0 where
  pub armed : m.host.journal.arms before.journal steps after.journal
  pub stays : StaysButCalm
      (m.host.journal.state_of before.journal) (m.host.journal.state_of after.journal)
  pub capacity : m.host.journal.capacity after.journal ≡ m.host.journal.capacity before.journal
  pub ends : PreservesEnds before after
  pub state : after.state ≡ before.state
  pub judges : (m.host.journal.state_of before.journal).honest → (entries : Entries)
      → JudgesBy m.host before entries → JudgesBy m.host after entries

-- what comes of arming the host's journal
abbrev pub ArmsHost : {C B J I : Type 0} → Meanings C B J I → BooksOf C B J I → ℕ → Outcome
    → BooksOf C B J I → Type 0
ArmsHost m old steps (outcome.Armed armed passed) new =
    (armed ≡ end.Host) × (passed ≡ steps) × ArmsJournal m steps old.host new.host
    × (new ≡ record old { host = new.host })
ArmsHost m old steps _ new = ⊥

-- what comes of arming a store of a till
abbrev pub ArmsTill : {C B J I : Type 0} → End → ℕ → (TillOf C B → TillOf C B → Type 0)
    → BooksOf C B J I → ℕ → Outcome → BooksOf C B J I → Type 0
ArmsTill end t change old steps outcome.NoSuchTill new = HasNone old.tills t × (new ≡ old)
ArmsTill end t change old steps (outcome.Armed armed passed) new =
    (armed ≡ end) × (passed ≡ steps) × ChangesTill t change old new
ArmsTill end t change old steps _ new = ⊥

-- what comes of arming the store of an end
abbrev pub Arms : {C B J I : Type 0} → Meanings C B J I → BooksOf C B J I → End → ℕ → Outcome
    → BooksOf C B J I → Type 0
Arms m old end.Host steps outcome new = ArmsHost m old steps outcome new
Arms m old (end.Terminal t) steps outcome new =
    ArmsTill (end.Terminal t) t (ArmsTerminalCell m steps) old steps outcome new
Arms m old (end.Book t) steps outcome new =
    ArmsTill (end.Book t) t (ArmsTillBook m steps) old steps outcome new
