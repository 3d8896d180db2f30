-- The merchants' book: this project's own.
use Rattle.std.specs.Prelude.{◌≡◌, ◌⊎◌, ◌++◌, ◌∷◌, [], ℕ, List, Option, Some, None, Contains}
use Rattle.duk_till.specs.declared.last.Payment.{Payment}
use Rattle.duk_books.specs.declared.sales.Sale.{Sale}

-- a payment of a till
abbrev pub sale_of : ℕ → Payment → Sale
sale_of t payment = record { t = t; payment = payment }

-- the sale is entered, after the others, unless it stands there already
abbrev pub EntersSale : List Sale → Sale → List Sale → Type 0
EntersSale old sale new =
    (Contains old sale × (new ≡ old)) ⊎ ((¬ Contains old sale) × (new ≡ old ++ sale ∷ []))

-- what a till has as approved is entered
abbrev pub TakesSale : List Sale → ℕ → Option Payment → List Sale → Type 0
TakesSale old t None new = new ≡ old
TakesSale old t (Some payment) new = EntersSale old (sale_of t payment) new
