-- That the merchants' book and the host's agree: this project's own.
use Rattle.std.specs.Prelude.{◌≡◌, ◌≢◌, ◌⊎◌, ℕ, List, Option, Some, AllPairs, Contains}
use Rattle.duk_journal.specs.Groups.{Entries}
use Rattle.duk_journal.specs.Standing.{StandsWith}
use Rattle.duk_journal_host.specs.Host.{JudgesBy}
use Rattle.duk_store.specs.Cell.{Kept}
use Rattle.duk_till.specs.Till.{IsAtRest, TillOf}
use Rattle.duk_till.specs.declared.last.Last.{Last}
use Rattle.duk_till.specs.declared.last.Last.TheVariants.{Open}
use Rattle.duk_till.specs.declared.last.Payment.{Payment}
use Rattle.duk_till.specs.declared.state.TillState.TheVariants.{Running}
use Rattle.duk_books.specs.Books.{BooksOf, Meanings}
use Rattle.duk_stations.specs.Places.{IsAt}
use Rattle.duk_stations.specs.Owner.{IsOwner}
use Rattle.duk_books.specs.Sales.{sale_of}
use Rattle.duk_stations.specs.declared.owner.Owner.{Owner}
use Rattle.duk_books.specs.declared.sales.Sale.{Sale}

-- a payment of a till stands: it does at the host, with its amount, and the till owns its initial key
-- serial number
pub record StandsOf (entries : Entries) (owners : List Owner) (t : ℕ) (payment : Payment)
    : Type 0 where
  pub owned : IsOwner owners payment.ksn.iksn t
  pub stands : StandsWith entries payment.ksn payment.amount

-- each payment that a till was told as approved stands, with its amount
abbrev pub ToldStand : Entries → List Owner → List Sale → ℕ → Type 0
ToldStand entries owners sales t =
    (payment : Payment) → Contains sales (sale_of t payment) → StandsOf entries owners t payment

-- each payment of a till that stands was told to it as approved, with its amount; or it is the open
-- one, whose outcome the till does not know
abbrev pub StandingAreTold : Entries → List Owner → List Sale → ℕ → Option Last → Type 0
StandingAreTold entries owners sales t last =
    (payment : Payment) → StandsOf entries owners t payment
    → Contains sales (sale_of t payment) ⊎ (last ≡ Some (Open payment.ksn payment.amount))

-- the payments of a till that stand are exactly those that it was told as approved
pub record Agrees (entries : Entries) (owners : List Owner) (sales : List Sale) (t : ℕ)
    : Type 0 where
  pub told_stand : ToldStand entries owners sales t
  pub standing_told : (payment : Payment) → StandsOf entries owners t payment
      → Contains sales (sale_of t payment)

-- the entries of the host: those by which it judges, while it runs, and each list that a restart of
-- its journal may find
abbrev pub AreEntriesOf : {C B J I : Type 0} → Meanings C B J I → BooksOf C B J I → Entries → Type 0
AreEntriesOf m books entries =
    JudgesBy m.host books.host entries ⊎ (m.host.journal.state_of books.host.journal).found entries

-- two sales are of different numbers
abbrev pub AreOfDifferentNumbers : Sale → Sale → Type 0
AreOfDifferentNumbers one other = one.payment.ksn ≢ other.payment.ksn

-- a payment of a till stands that was not told to it as approved
pub record IsInDoubt
    (entries : Entries) (owners : List Owner) (sales : List Sale) (t : ℕ) (payment : Payment)
    : Type 0 where
  pub stands : StandsOf entries owners t payment
  pub not_told : ¬ Contains sales (sale_of t payment)

-- each number stands once in the merchants' book. Of each till: what it was told as approved stands;
-- while it runs, no other payment of it does, but perhaps the one that is open; at rest the payments
-- that stand are exactly those; and running or stopped, with a book in which a restart may find
-- something, no two are in doubt
pub record BooksAgree {C B J I : Type 0} (m : Meanings C B J I) (books : BooksOf C B J I)
    : Type 0 where
  pub once : AllPairs AreOfDifferentNumbers books.sales
  pub told : (t : ℕ) (entries : Entries) → AreEntriesOf m books entries
      → ToldStand entries books.owners books.sales t
  pub runs : (t : ℕ) (till : TillOf C B) (last : Option Last) (entries : Entries)
      → IsAt books.tills t till → till.state ≡ Running last → AreEntriesOf m books entries
      → StandingAreTold entries books.owners books.sales t last
  pub at_rest : (t : ℕ) (till : TillOf C B) (entries : Entries) → IsAt books.tills t till
      → IsAtRest till.state → AreEntriesOf m books entries
      → Agrees entries books.owners books.sales t
  pub one_in_doubt : (t : ℕ) (till : TillOf C B) (entries : Entries) (kept : Kept) (one other : Payment)
      → IsAt books.tills t till → (m.book.state_of till.book).found kept → AreEntriesOf m books entries
      → IsInDoubt entries books.owners books.sales t one
      → IsInDoubt entries books.owners books.sales t other → one ≡ other
