-- That the merchants' book has what tills were told: this project's own.
use Rattle.std.specs.Prelude.{◌≡◌, ◌⊎◌, ℕ, List, Some, Contains}
use Rattle.duk_frame.specs.declared.code.Code.TheVariants as code
use Rattle.duk_till.specs.declared.last.Last.TheVariants as last
use Rattle.duk_till.specs.declared.last.Payment.{Payment}
use Rattle.duk_till.specs.declared.state.TillState.TheVariants.{Running}
use Rattle.duk_tree.specs.Serial.{Serial}
use Rattle.duk_books.specs.Sales.{sale_of}
use Rattle.duk_books.specs.declared.outcome.Outcome.{Outcome}
use Rattle.duk_books.specs.declared.outcome.Outcome.TheVariants as outcome
use Rattle.duk_books.specs.declared.sales.Sale.{Sale}

-- by this outcome a till is told that its payment of this number is approved: the host's reply does
-- it, and a restart that finds it
abbrev pub TellsApproved : Outcome → ℕ → Serial → Type 0
TellsApproved (outcome.Done u used why) t ksn = (u ≡ t) × (used ≡ ksn) × (why ≡ code.Approved)
TellsApproved (outcome.TillNext u next state) t ksn =
    (u ≡ t) × ((amount : ℕ) × (state ≡ Running (Some (last.Approved ksn amount))))
TellsApproved _ t ksn = ⊥

-- by this outcome a till is told that this payment is approved, with its amount: a restart that finds
-- it does so
abbrev pub TellsPayment : Outcome → ℕ → Payment → Type 0
TellsPayment (outcome.TillNext u next state) t payment =
    (u ≡ t) × (state ≡ Running (Some (last.Approved payment.ksn payment.amount)))
TellsPayment _ t payment = ⊥

-- so it is by one of these outcomes
pub record IsToldApproved (outcomes : List Outcome) (t : ℕ) (ksn : Serial) : Type 0 where
  pub outcome : Outcome
  pub came : Contains outcomes outcome
  pub tells : TellsApproved outcome t ksn

-- so it is by one of these outcomes, with its amount
pub record IsToldPayment (outcomes : List Outcome) (t : ℕ) (payment : Payment) : Type 0 where
  pub outcome : Outcome
  pub came : Contains outcomes outcome
  pub tells : TellsPayment outcome t payment

-- a payment of this number stands in the book under this till
pub record IsSoldUnder (sales : List Sale) (t : ℕ) (ksn : Serial) : Type 0 where
  pub payment : Payment
  pub ksn_is : payment.ksn ≡ ksn
  pub stands : Contains sales (sale_of t payment)

-- the book after these outcomes: nothing of it is lost, what they tell as approved stands there, with
-- the amount where they tell it, and nothing else came to it
pub record HasWhatWasTold (old : List Sale) (outcomes : List Outcome) (new : List Sale)
    : Type 0 where
  pub stays : (sale : Sale) → Contains old sale → Contains new sale
  pub told : (t : ℕ) (ksn : Serial) → IsToldApproved outcomes t ksn → IsSoldUnder new t ksn
  pub told_amount : (t : ℕ) (payment : Payment) → IsToldPayment outcomes t payment
      → Contains new (sale_of t payment)
  pub only : (sale : Sale) → Contains new sale
      → Contains old sale ⊎ IsToldApproved outcomes sale.t sale.payment.ksn
