-- What is known of the stores of all that is reached: they are honest, and a restart finds in them what
-- it is to find.
use Rattle.std.proofs.Common.{ℕ, Some}
use Rattle.std.proofs.lemmas.List.Elements.{All-contains}
use Rattle.duk_journal.specs.Standing.{UseNewNumbers}
use Rattle.duk_till.specs.Till.{TillOf}
use Rattle.duk_books.specs.Books.{BooksOf, Meanings}
use Rattle.duk_stations.specs.Places.{IsAt}
use Rattle.duk_books.specs.Images.{FindLast, FindsLast}
use Rattle.duk_books.specs.NoUsedKey.{InEachTill, NoUsedKey}
use Rattle.duk_books.specs.Reached.{Reached}
use Rattle.duk_books.specs.inner.Known.{BookLaws}
use Rattle.duk_books.proofs.accepted.EndsOnce.{reached_hold}
use Rattle.duk_stations.proofs.StoreFaults.{FindsBodies}
use Rattle.duk_books.proofs.calm_stores.TillCalls.{FindsLasts}
use Rattle.duk_books.proofs.moves.HostFinds.{HostFinds}
use Rattle.duk_stations.proofs.PlacesInLists.{at_contains}

-- the cells of a till are honest, the terminal's finds only bodies of a terminal, and the book only
-- bodies of last purchases
pub record KnownTill {C B J I : Type 0} (m : Meanings C B J I) (till : TillOf C B) : Type 0 where
  pub cell_honest : (m.cell.state_of till.terminal.cell).honest
  pub book_honest : (m.book.state_of till.book).honest
  pub bodies : FindsBodies m.cell till.terminal.cell
  pub lasts : FindsLasts m.book till.book

-- so are all stores, and each entry that the journal may find used a new number
pub record KnownStores {C B J I : Type 0} (m : Meanings C B J I) (books : BooksOf C B J I) : Type 0 where
  pub host : HostFinds m.host UseNewNumbers books.host
  pub tills : (t : ℕ) (till : TillOf C B) → IsAt books.tills t till → KnownTill m till

-- what is known of calls, and what the laws say of the cells of tills
pub record StoreLaws {C B J I : Type 0} (m : Meanings C B J I) : Type 0 where
  pub books : BookLaws m
  pub images : (books : BooksOf C B J I) → Reached m books → InEachTill m (λ t. NoUsedKey books.host.keys books.requests) books.tills
  pub lasts : (books : BooksOf C B J I) → Reached m books → FindLast m books.tills

module _ {C B J I : Type 0} (m : Meanings C B J I) (laws : StoreLaws m) (books : BooksOf C B J I) (reached : Reached m books) where
  known_till : (t : ℕ) (till : TillOf C B) → IsAt books.tills t till → KnownTill m till
  known_till t till at =
      let holds = (reached_hold m laws.books books reached).holds in
      let here = holds.1.tills t till at in
      record {
        cell_honest = here.terminal.honest;
        book_honest = here.book.honest;
        bodies = λ bytes found. ((laws.images books reached t till at).images (Some bytes) found).is_body;
        lasts = λ bytes found. All-contains (λ (it : TillOf C B). FindsLast m it) books.tills till (laws.lasts books reached) (at_contains books.tills t till at) (Some bytes) found;
      }

  pub reached_stores : KnownStores m books
  reached_stores =
      let host = (reached_hold m laws.books books reached).holds.1.host in
      record {
        host = record { honest = host.honest; entries = λ entries found. (host.entries entries found).new_numbers; runs = host.runs };
        tills = known_till;
      }
