-- How a till comes to rest again: this project's own.
--
-- The way out of a till is five events: the till and the host are restarted, the till reverses the
-- purchase that it may have open, the reversal reaches the host, and the answer reaches the till. The
-- reversal is the next frame that is sent, and its answer is the next answer.
--
-- A till that begins a purchase has two more numbers, since `begin` keeps the last two for reversals;
-- and the host keeps a sixteenth of its journal for reversals, at least a record of a journal of more
-- than 16. So a number, and of such a journal a record, are left until reversals alone have used what
-- is kept for them.
use Rattle.std.specs.Prelude.{◌≡◌, ◌≢◌, ◌<◌, ◌+◌, ◌∷◌, [], ℕ, List, Some, length}
use Rattle.duk_store.specs.StoreState.{FindsWithin}
use Rattle.duk_store.specs.declared.fault.StoreFault.TheVariants.{Worn}
use Rattle.duk_term.specs.Body.{set_of_body}
use Rattle.duk_term.specs.Reversal.{HasUsed}
use Rattle.duk_till.specs.Till.{IsAtRest, IsOpen, TillOf}
use Rattle.duk_till.specs.declared.last.Last.TheVariants.{Undone}
use Rattle.duk_till.specs.declared.state.TillState.TheVariants.{Running}
use Rattle.duk_tree.specs.Next.{spent_counter}
use Rattle.duk_tree.specs.Serial.{Serial}
use Rattle.duk_books.specs.Books.{BooksOf, Meanings}
use Rattle.duk_stations.specs.Places.{IsAt}
use Rattle.duk_books.specs.Calm.{HasSoundStores, IsCalmAt, ReportsFault}
use Rattle.duk_books.specs.Completed.{MayBeOpen}
use Rattle.duk_books.specs.NoUsedKey.{InRegistersAndImages}
use Rattle.duk_books.specs.declared.event.End.{End}
use Rattle.duk_books.specs.declared.event.Event.{Event}
use Rattle.duk_books.specs.declared.event.Event.TheVariants.{Down, RestartHost, RestartTill, Reverse, Up}
use Rattle.duk_books.specs.declared.outcome.Outcome.{Outcome}

-- while a purchase is open at a till, or may be once that is restarted, the till's registers used its
-- number under their present initial key serial number: those in memory, and those of each image that
-- the terminal's cell may find
abbrev pub OpenNumbersAreUsed : {C B J I : Type 0} → Meanings C B J I → List (TillOf C B) → Type 0
OpenNumbersAreUsed m tills =
    (t : ℕ) (till : TillOf _ _) (ksn : Serial) → IsAt tills t till → MayBeOpen m till ksn
    → InRegistersAndImages m (λ set. HasUsed set ksn) till

-- a till is there, and the registers of each image that its terminal's cell may find have a number
-- left
pub record HasNumberLeft
    {C B J I : Type 0} (m : Meanings C B J I) (tills : List (TillOf C B)) (t : ℕ) : Type 0 where
  pub till : TillOf C B
  pub at : IsAt tills t till
  pub left : (body : List ℕ) → (m.cell.state_of till.terminal.cell).found (Some body)
      → (set_of_body body).counter ≢ spent_counter

-- the host's journal has room for a record, whatever a restart finds in it
abbrev pub HasRecordLeft : {C B J I : Type 0} → Meanings C B J I → BooksOf C B J I → Type 0
HasRecordLeft m books = FindsWithin (m.host.journal.state_of books.host.journal)
    (λ entries. length entries < m.host.journal.capacity books.host.journal)

-- all stores are sound and calm, the till has a number left, and the host a record
pub record HasWayOut {C B J I : Type 0} (m : Meanings C B J I) (books : BooksOf C B J I) (t : ℕ)
    : Type 0 where
  pub sound : HasSoundStores m books
  pub calm : (end : End) → IsCalmAt m books end
  pub number : HasNumberLeft m books.tills t
  pub room : HasRecordLeft m books

-- the events that are the way out
abbrev pub way_out_of : {C B J I : Type 0} → BooksOf C B J I → ℕ → List Event
way_out_of books t =
    RestartTill t ∷ RestartHost ∷ Reverse t ∷ Up (length books.requests + 1)
    ∷ Down (length books.answers + 1) t ∷ []

-- an outcome says of no store that it is worn
abbrev pub ReportsNoWear : Outcome → Type 0
ReportsNoWear outcome = (end : End) → ¬ ReportsFault outcome end Worn

-- the till of a number is at rest
pub record IsAtRestAt {C B : Type 0} (tills : List (TillOf C B)) (t : ℕ) : Type 0 where
  pub till : TillOf C B
  pub at : IsAt tills t till
  pub rest : IsAtRest till.state

-- it has the purchase of this number open
pub record IsOpenAt {C B : Type 0} (tills : List (TillOf C B)) (t : ℕ) (ksn : Serial) : Type 0 where
  pub till : TillOf C B
  pub amount : ℕ
  pub at : IsAt tills t till
  pub is_open : IsOpen till.state ksn amount

-- its last purchase is the one of this number, which is undone
pub record IsUndoneAt {C B : Type 0} (tills : List (TillOf C B)) (t : ℕ) (ksn : Serial) : Type 0 where
  pub till : TillOf C B
  pub at : IsAt tills t till
  pub state_is : till.state ≡ Running (Some (Undone ksn))
