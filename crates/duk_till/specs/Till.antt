-- A till: what it is, and when it is at rest: this project's own.
use Rattle.std.specs.Prelude.{◌≡◌, ◌≢◌, ◌⊎◌, ◌<◌, ℕ, Option, Some, None}
use Rattle.duk_store.specs.Cell.{CellMeaning, Kept, PutFailed}
use Rattle.duk_store.specs.StoreState.{FindsOnly, FindsWithin, StoreState}
use Rattle.duk_store.specs.declared.fault.StoreFault.{StoreFault}
use Rattle.duk_term.specs.Terminal.{TerminalOf, next_of}
use Rattle.duk_term.specs.declared.answer.Next.TheVariants as next
use Rattle.duk_term.specs.declared.state.State.{State}
use Rattle.duk_tree.specs.Path.{IsUsable}
use Rattle.duk_tree.specs.Serial.{Serial}
use Rattle.duk_till.specs.Image.{kept_of, last_bytes}
use Rattle.duk_till.specs.declared.last.Last.{Last}
use Rattle.duk_till.specs.declared.last.Last.TheVariants.{Open, Approved}
use Rattle.duk_till.specs.declared.last.Payment.{Payment}
use Rattle.duk_till.specs.declared.state.TillState.{TillState}
use Rattle.duk_till.specs.declared.state.TillState.TheVariants.{Stopped, Running}

-- a till: a terminal over its cell, a second cell, the book, which keeps the state of the last
-- purchase, and what is known of that
pub record TillOf (C J : Type 0) : Type 0 where
  pub terminal : TerminalOf C
  pub book : J
  pub state : TillState

-- a purchase is open: a request of this number may have gone out, and its outcome is not known
abbrev pub IsOpen : TillState → Serial → ℕ → Type 0
IsOpen state ksn amount = state ≡ Running (Some (Open ksn amount))

-- a till in this state is at rest: it runs, and no purchase is open
pub record IsAtRest (state : TillState) : Type 0 where
  pub last : Option Last
  pub runs : state ≡ Running last
  pub closed : (ksn : Serial) (amount : ℕ) → last ≢ Some (Open ksn amount)

-- the payment that a till has as approved, where its last purchase is
abbrev pub approved_in : TillState → Option Payment
approved_in (Running (Some (Approved ksn amount))) = Some (record { ksn = ksn; amount = amount })
approved_in _ = None

-- a restart of the book would find this last purchase alone
abbrev pub KeepsLast : StoreState Kept → Option Last → Type 0
KeepsLast book last = book.honest → FindsOnly book (kept_of last)

-- a usable number comes after this one
pub record HasOneAfter (counter : ℕ) : Type 0 where
  pub later : ℕ
  pub later_is : IsUsable later
  pub after : counter < later

-- two usable numbers come after this one
pub record HasTwoAfter (counter : ℕ) : Type 0 where
  pub later : ℕ
  pub later_is : IsUsable later
  pub after : counter < later
  pub another : HasOneAfter later

-- the next number of a terminal is one of the last two of a life, which are kept for reversals
pub record IsKeptForReversals (state : State) : Type 0 where
  pub ksn : Serial
  pub comes_next : next_of state ≡ next.At ksn
  pub last_two : ¬ HasTwoAfter ksn.counter

-- what is no part of the terminal stays
pub record SameBook {C J : Type 0} (old new : TillOf C J) : Type 0 where
  pub book_is : new.book ≡ old.book
  pub state_is : new.state ≡ old.state

-- the book promises, of the last purchase, what it promises of each body that it has acknowledged
abbrev pub PromisesLast : {C J : Type 0} → CellMeaning J → TillOf C J → Type 0
PromisesLast meaning till =
    (last : Last) × (till.state ≡ Running (Some last))
    × meaning.after_put till.book (last_bytes last)

-- this last purchase was not kept: the till is stopped, and a restart of the book would find what it
-- kept before, or this
pub record IsLastNotKept
    {J : Type 0} (meaning : CellMeaning J) (last : Last) (before : Option Last) (old new : J)
    (state : TillState) (why : StoreFault) : Type 0 where
  pub stopped : state ≡ Stopped
  pub not_kept : PutFailed meaning old new (last_bytes last) why
  pub within : (meaning.state_of old).honest → FindsWithin (meaning.state_of new)
      (λ kept. (kept ≡ kept_of before) ⊎ (kept ≡ Some (last_bytes last)))
