-- That the totals of the merchants' book and of the host agree: this project's own.
use Rattle.std.specs.Prelude.{◌≡◌, ◌⊎◌, ◌≤◌, ◌+◌, ◌&&◌, if◌then◌else◌, ℕ, Bool, List, Option, Some, All, nat_eq, sum_by}
use Rattle.std.specs.List.{filter}
use Rattle.duk_journal.specs.Groups.{Entries}
use Rattle.duk_journal.specs.Standing.{standing_total, whole_total}
use Rattle.duk_till.specs.Till.{IsAtRest, TillOf}
use Rattle.duk_till.specs.declared.last.Last.{Last}
use Rattle.duk_till.specs.declared.last.Last.TheVariants.{Open}
use Rattle.duk_till.specs.declared.state.TillState.TheVariants.{Running}
use Rattle.duk_books.specs.Agree.{AreEntriesOf}
use Rattle.duk_books.specs.Books.{BooksOf, Meanings}
use Rattle.duk_stations.specs.Places.{IsAt}
use Rattle.duk_stations.specs.Owner.{Owns}
use Rattle.duk_books.specs.declared.sales.Sale.{Sale}

-- a sale of this till, under this initial key serial number
abbrev pub is_sale_of : ℕ → ℕ → Sale → Bool
is_sale_of t iksn sale = nat_eq sale.t t && nat_eq sale.payment.ksn.iksn iksn

-- the total that a till was told as approved under an initial key serial number: the sum of the
-- amounts of these sales
abbrev pub told_total : List Sale → ℕ → ℕ → ℕ
told_total sales t iksn = sum_by (λ sale. sale.payment.amount) (filter (is_sale_of t iksn) sales)

-- the total that all tills were told as approved
abbrev pub whole_told_total : List Sale → ℕ
whole_told_total sales = sum_by (λ sale. sale.payment.amount) sales

-- the amount of the purchase that is open, where one is under this initial key serial number. Or 0
abbrev pub open_amount : ℕ → Option Last → ℕ
open_amount iksn (Some (Open ksn amount)) = if nat_eq ksn.iksn iksn then amount else 0
open_amount iksn _ = 0

-- for each initial key serial number of a till, by any entries of the host: the total that stands is
-- never less than the total that the till was told as approved; while the till runs, the two are
-- equal, or apart by the amount of its open purchase; and at rest they are equal. With all tills at
-- rest all that stands comes to what all of them were told
pub record TotalsAgree {C B J I : Type 0} (m : Meanings C B J I) (books : BooksOf C B J I)
    : Type 0 where
  pub never_less : (t iksn : ℕ) (entries : Entries) → AreEntriesOf m books entries
      → told_total books.sales t iksn ≤ standing_total entries iksn
  pub runs : (t iksn : ℕ) (till : TillOf C B) (last : Option Last) (entries : Entries)
      → IsAt books.tills t till → till.state ≡ Running last → Owns books.owners iksn t
      → AreEntriesOf m books entries
      → (standing_total entries iksn ≡ told_total books.sales t iksn)
      ⊎ (standing_total entries iksn ≡ told_total books.sales t iksn + open_amount iksn last)
  pub at_rest : (t iksn : ℕ) (till : TillOf C B) (entries : Entries) → IsAt books.tills t till
      → IsAtRest till.state → Owns books.owners iksn t → AreEntriesOf m books entries
      → standing_total entries iksn ≡ told_total books.sales t iksn
  pub whole : (entries : Entries) → All (λ till. IsAtRest till.state) books.tills
      → AreEntriesOf m books entries → whole_total entries ≡ whole_told_total books.sales
