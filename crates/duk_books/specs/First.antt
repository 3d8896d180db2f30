-- Ends over which nothing happened yet: this project's own.
use Rattle.std.specs.Prelude.{◌≡◌, ℕ, List, [], None, All}
use Rattle.duk_journal_host.specs.Host.{HostOf}
use Rattle.duk_store.specs.StoreState.{StoreState, FindsOnly}
use Rattle.duk_term.specs.declared.state.State.TheVariants as terminal
use Rattle.duk_till.specs.Till.{TillOf}
use Rattle.duk_till.specs.declared.state.TillState.TheVariants.{Stopped}
use Rattle.duk_books.specs.Books.{BooksOf, Meanings}

-- a host and tills: nothing was sent, nobody owns anything, and nothing is sold
abbrev pub first_books : {C B J I : Type 0} → HostOf J I → List ℕ → List (TillOf C B)
    → BooksOf C B J I
first_books host loading tills = record {
  host = host;
  loading = loading;
  tills = tills;
  requests = [];
  answers = [];
  owners = [];
  sales = [];
}

-- an honest store in which nothing was ever kept: a restart finds `nothing` alone
pub record IsUnused {V : Type 0} (store : StoreState V) (nothing : V) : Type 0 where
  pub honest : store.honest
  pub finds : FindsOnly store nothing

-- a till, newly made over unused cells
pub record IsNewTill
    {C B J I : Type 0} (m : Meanings C B J I) (till : TillOf C B) : Type 0 where
  pub stopped : till.state ≡ Stopped
  pub terminal_stopped : till.terminal.state ≡ terminal.Stopped
  pub cell : IsUnused (m.cell.state_of till.terminal.cell) None
  pub book : IsUnused (m.book.state_of till.book) None

-- a host, newly made over an unused journal
pub record IsNewHost {C B J I : Type 0} (m : Meanings C B J I) (host : HostOf J I) : Type 0 where
  pub stopped : host.state ≡ None
  pub journal : IsUnused (m.host.journal.state_of host.journal) []

-- all ends are newly made, and nothing was sent
pub record IsFirst {C B J I : Type 0} (m : Meanings C B J I) (books : BooksOf C B J I)
    : Type 0 where
  pub host : IsNewHost m books.host
  pub tills : All (IsNewTill m) books.tills
  pub no_requests : books.requests ≡ []
  pub no_answers : books.answers ≡ []
  pub no_owners : books.owners ≡ []
  pub no_sales : books.sales ≡ []
