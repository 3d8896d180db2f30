-- A book that many hosts share, and how it settles what they send: this project's own.
use Rattle.std.specs.Prelude.{◌-◌, ◌++◌, ℕ, List, [], ◌∷◌, Contains, length}
use Rattle.duk_frame.specs.declared.code.Code.{Code}
use Rattle.duk_journal.specs.Groups.{Entries}
use Rattle.duk_journal.specs.Standing.{payment_entry, reversed_numbers}
use Rattle.duk_reversal.specs.declared.reversal.Reversal.{Reversal}
use Rattle.duk_reversal.specs.declared.state.ReversalState.{ReversalState}
use Rattle.duk_journal_host.specs.Candidate.{IsItsOwnCode, IsOfCandidate}
use Rattle.duk_journal_host.specs.Judgement.{FindsState, reversal_entry, room_for_payments}
use Rattle.duk_journal_host.specs.Latest.{latest_entries}
use Rattle.duk_journal_host.specs.Steps.{IsSettlement, added_by}
use Rattle.duk_journal_host.specs.declared.authentic.Purchase.{Purchase}
use Rattle.duk_journal_host.specs.declared.candidate.Candidate.{Candidate}
use Rattle.duk_journal_host.specs.declared.settlement.Settled.{Settled}
use Rattle.duk_journal_host.specs.declared.settlement.Settled.TheVariants as settled

-- how many entries a book may keep: so many, as a journal does, or any number, as a table of a
-- database does
pub data Bound : Type 0 where
  AtMost : ℕ → Bound
  NoBound : Bound

-- a book: what it keeps at first, the oldest entry first, and how many entries it may keep
pub record Book : Type 0 where
  pub first : Entries
  pub bound : Bound

-- how many entries it may keep, and for how many more there is room. A book without bound is always
-- as one that may keep one entry, and keeps none
abbrev pub capacity_of : Bound → ℕ
capacity_of (AtMost capacity) = capacity
capacity_of NoBound = 1

abbrev pub room_of : Bound → Entries → ℕ
room_of (AtMost capacity) entries = capacity - length entries
room_of NoBound entries = 1

-- the entries that it answers again: the latest, as a journal does, or all, as a database does
abbrev pub answerable : Bound → Entries → Entries
answerable (AtMost capacity) entries = latest_entries entries
answerable NoBound entries = entries

-- it knows a purchase again, with this code, and the purchase is not undone
pub record KnowsPurchase (bound : Bound) (entries : Entries) (purchase : Purchase) (code : Code)
    : Type 0 where
  pub amount : ℕ
  pub kept : Contains (answerable bound entries)
      (payment_entry purchase.number amount code purchase.mac)
  pub not_undone : ¬ Contains (reversed_numbers entries) purchase.number

-- it knows a reversal again, which found this
abbrev pub KnowsReversal : Bound → Entries → Reversal → ReversalState → Type 0
KnowsReversal bound entries reversal state =
    Contains (answerable bound entries) (reversal_entry reversal state)

-- what was sent to it is settled so, by the entries that it keeps, where this says which code a payment
-- has: it is kept where its number is new; else it is known again, or refused as of a used number
abbrev pub IsSettledOver : Bound → Entries → (Code → Type 0) → Settled → Type 0
IsSettledOver bound entries is_code (settled.Payment purchase settlement) =
    IsSettlement entries purchase.number
    (room_for_payments (capacity_of bound) (room_of bound entries))
    (KnowsPurchase bound entries purchase) is_code settlement
IsSettledOver bound entries is_code (settled.Reversal reversal settlement) =
    IsSettlement entries reversal.numbers.ksn (room_of bound entries)
    (KnowsReversal bound entries reversal) (FindsState entries reversal.numbers.reversed) settlement

-- a candidate is settled so, by the entries that it keeps
abbrev pub IsSettledIn : Bound → Entries → Candidate → Settled → Type 0
IsSettledIn bound entries candidate done =
    IsOfCandidate candidate done × IsSettledOver bound entries (IsItsOwnCode candidate) done

-- candidates are settled so, in turn: each by what is kept with those before it
abbrev pub AreSettledInTurn : Bound → Entries → List Candidate → List Settled → Type 0
AreSettledInTurn bound entries [] [] = Unit {0}
AreSettledInTurn bound entries (candidate ∷ candidates) (done ∷ others) =
    IsSettledIn bound entries candidate done
    × AreSettledInTurn bound (entries ++ added_by done) candidates others
AreSettledInTurn bound entries _ _ = ⊥
