-- How a payment comes through: this project's own.
--
-- A payment is three events: a till at rest begins the purchase, the request reaches the host, and the
-- answer reaches the till. The request is the next frame that is sent, and its answer is the next
-- answer. Whatever went before, with any frames lost, repeated or late, these three come through.
--
-- The code of a payment is the issuer's: what the issuer says of the PAN, the amount and the PIN that
-- the customer gave. It is asked by the PIN block of that PIN, enciphered under the host's zone key.
use Rattle.std.specs.Prelude.{◌≡◌, ◌≢◌, ◌<◌, ◌-◌, ◌+◌, ◌++◌, ◌∷◌, [], ℕ, List, Some, None, All, length}
use Rattle.duk_frame.specs.declared.code.Code.{Code}
use Rattle.duk_frame.specs.declared.code.Code.TheVariants as code
use Rattle.duk_journal.specs.Groups.{Entries}
use Rattle.duk_journal.specs.Standing.{payment_entry}
use Rattle.duk_journal_host.specs.Host.{HostMeaning, HostOf, JudgesBy}
use Rattle.duk_journal_host.specs.Judgement.{room_for_payments}
use Rattle.duk_pin.specs.PinBlock.{pin_block}
use Rattle.duk_store.specs.StoreState.{FindsWithin}
use Rattle.duk_tdes.specs.Tdes.{tdes_encrypted}
use Rattle.duk_term.specs.Terminal.{next_of}
use Rattle.duk_term.specs.declared.answer.Next.TheVariants as next
use Rattle.duk_term.specs.declared.purchase.Purchase.{Purchase}
use Rattle.duk_till.specs.Last.{outcome_of}
use Rattle.duk_till.specs.Till.{HasTwoAfter, IsAtRest, TillOf}
use Rattle.duk_till.specs.declared.last.Payment.{Payment}
use Rattle.duk_till.specs.declared.state.TillState.TheVariants.{Running}
use Rattle.duk_tree.specs.Serial.{Serial}
use Rattle.duk_books.specs.Books.{BooksOf, Meanings}
use Rattle.duk_stations.specs.Places.{IsAt}
use Rattle.duk_books.specs.Calm.{IsCalmAt}
use Rattle.duk_books.specs.Reached.{Reached}
use Rattle.duk_books.specs.Run.{Run}
use Rattle.duk_books.specs.Sales.{sale_of}
use Rattle.duk_books.specs.WayOut.{ReportsNoWear}
use Rattle.duk_books.specs.declared.event.End.TheVariants as end
use Rattle.duk_books.specs.declared.event.Event.{Event}
use Rattle.duk_books.specs.declared.event.Event.TheVariants.{Begin, Down, Up}
use Rattle.duk_books.specs.declared.outcome.Outcome.{Outcome}
use Rattle.duk_books.specs.declared.outcome.Outcome.TheVariants.{Accepted, Done, Sent}
use Rattle.duk_books.specs.declared.sales.Sale.{Sale}

-- ---- when a payment may begin

-- the till is at rest, and its terminal runs. It uses this number next, and two more come after that,
-- which are kept for reversals
pub record MayBegin {C B : Type 0} (tills : List (TillOf C B)) (t : ℕ) (ksn : Serial) : Type 0 where
  pub till : TillOf C B
  pub at : IsAt tills t till
  pub rest : IsAtRest till.state
  pub next_is : next_of till.terminal.state ≡ next.At ksn
  pub two_more : HasTwoAfter ksn.counter

-- the stores that a payment is kept in are calm: both cells of the till, and the host's journal
pub record AreCalmFor {C B J I : Type 0} (m : Meanings C B J I) (books : BooksOf C B J I) (t : ℕ)
    : Type 0 where
  pub of_terminal : IsCalmAt m books (end.Terminal t)
  pub of_book : IsCalmAt m books (end.Book t)
  pub of_host : IsCalmAt m books end.Host

-- the host's journal has room for a payment beside the sixteenth that is kept for reversals, whatever
-- a restart finds in it
abbrev pub HasPaymentLeft : {C B J I : Type 0} → Meanings C B J I → BooksOf C B J I → Type 0
HasPaymentLeft m books =
    let capacity = m.host.journal.capacity books.host.journal in
    FindsWithin (m.host.journal.state_of books.host.journal)
    (λ entries. 0 < room_for_payments capacity (capacity - length entries))

-- the till may begin under this number, the host runs and has room, and their stores are calm
pub record HasWayIn
    {C B J I : Type 0} (m : Meanings C B J I) (books : BooksOf C B J I) (t : ℕ) (ksn : Serial)
    : Type 0 where
  pub begins : MayBegin books.tills t ksn
  pub host_runs : books.host.state ≢ None
  pub room : HasPaymentLeft m books
  pub calm : AreCalmFor m books t

-- the three events that are the payment
abbrev pub way_in_of : {C B J I : Type 0} → BooksOf C B J I → ℕ → Purchase → List Event
way_in_of books t purchase =
    Begin t purchase ∷ Up (length books.requests + 1) ∷ Down (length books.answers + 1) t ∷ []

-- the issuer says this code of a purchase: of its PAN, its amount, and the PIN block of its PIN,
-- enciphered under the zone key that the host holds
pub record IssuerSays
    {J I : Type 0} (meaning : HostMeaning J I) (host : HostOf J I) (purchase : Purchase)
    (code : Code) : Type 0 where
  pub zone : List ℕ
  pub zone_is : host.keys.zone ≡ Some zone
  pub code_is : code
      ≡ meaning.decides host.issuer purchase.pan purchase.amount
      (tdes_encrypted zone (pin_block purchase.pin purchase.pan))

-- from all that is reached, where the till has its way in and the issuer says this code, these are the
-- outcomes of the three events, and none says that a store is worn
pub record IsPaymentRun
    {C B J I : Type 0} (m : Meanings C B J I) (old : BooksOf C B J I) (t : ℕ) (purchase : Purchase)
    (ksn : Serial) (code : Code) (outcomes : List Outcome) (new : BooksOf C B J I) : Type 0 where
  pub reached : Reached m old
  pub way : HasWayIn m old t ksn
  pub says : IssuerSays m.host old.host purchase code
  pub run : Run m old (way_in_of old t purchase) outcomes new
  pub unworn : All ReportsNoWear outcomes

-- ---- what comes of it

-- what the three events tell: the request is sent under this number, the host accepts it with this
-- code, and the till is done with the code
abbrev pub told_with : {C B J I : Type 0} → BooksOf C B J I → ℕ → Serial → Code → List Outcome
told_with books t ksn code =
    Sent t (length books.requests + 1) ksn ∷ Accepted (length books.answers + 1) ksn code
    ∷ Done t ksn code ∷ []

-- the till's last purchase is the one of this number and amount, which has become approved or
-- declined by this code. So the till is at rest
pub record IsOverAt
    {C B : Type 0} (tills : List (TillOf C B)) (t : ℕ) (ksn : Serial) (amount : ℕ) (code : Code)
    : Type 0 where
  pub till : TillOf C B
  pub at : IsAt tills t till
  pub state_is : till.state ≡ Running (Some (outcome_of ksn amount code))
  pub rest : IsAtRest till.state

-- the host keeps what it kept, and after it the payment of this number and amount, with this code: a
-- restart would find that and nothing else
pub record KeepsPayment
    {C B J I : Type 0} (m : Meanings C B J I) (old new : BooksOf C B J I) (ksn : Serial)
    (amount : ℕ) (code : Code) : Type 0 where
  pub entries : Entries
  pub mac : List ℕ
  pub before : JudgesBy m.host old.host entries
  pub after : JudgesBy m.host new.host (entries ++ payment_entry ksn amount code mac ∷ [])

-- the merchants' book has this payment of the till more, after the others, where it was approved, and
-- else it stays
abbrev pub sales_with : List Sale → ℕ → Payment → Code → List Sale
sales_with old t payment code.Approved = old ++ sale_of t payment ∷ []
sales_with old t payment _ = old

-- each other till is as it was
abbrev pub OthersStay : {C B : Type 0} → List (TillOf C B) → ℕ → List (TillOf C B) → Type 0
OthersStay {C} {B} old t new =
    (u : ℕ) (till : TillOf C B) → u ≢ t → IsAt old u till → IsAt new u till
