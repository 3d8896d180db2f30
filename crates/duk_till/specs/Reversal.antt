-- Reversing an open purchase at a till: this project's own.
use Rattle.std.specs.Prelude.{◌≡◌, ℕ, List, Some}
use Rattle.duk_reversal.specs.declared.state.ReversalState.{ReversalState}
use Rattle.duk_store.specs.Cell.{CellMeaning, IsPut}
use Rattle.duk_store.specs.declared.fault.StoreFault.{StoreFault}
use Rattle.duk_term.specs.Reversal.{IsReversalBegun, ReportsReversal, ReversalRefused, ReversalReplyRefused}
use Rattle.duk_term.specs.declared.answer.ReversalAnswer.{ReversalAnswer}
use Rattle.duk_term.specs.declared.answer.ReversalAnswer.TheVariants.{Done, Refused}
use Rattle.duk_tree.specs.Serial.{Serial}
use Rattle.duk_till.specs.Image.{last_bytes}
use Rattle.duk_till.specs.Reply.{Completes}
use Rattle.duk_till.specs.Till.{IsAtRest, IsLastNotKept, IsOpen, SameBook, TillOf}
use Rattle.duk_till.specs.declared.fault.TillFault.{TillFault}
use Rattle.duk_till.specs.declared.fault.TillFault.TheVariants as fault
use Rattle.duk_till.specs.declared.last.Last.TheVariants.{Open, Undone}
use Rattle.duk_till.specs.declared.state.TillState.TheVariants.{Stopped, Running}

-- a reversal of the open purchase goes out, which stays open
pub record IsTillReversing
    {C J : Type 0} (cell : CellMeaning C) (ksn : Serial) (frame : List ℕ) (old new : TillOf C J)
    : Type 0 where
  pub reversed : Serial
  pub amount : ℕ
  pub was_open : IsOpen old.state reversed amount
  pub terminal : IsReversalBegun cell reversed ksn frame old.terminal new.terminal
  pub same_book : SameBook old new

-- why no reversal goes out, the first that holds of these, and what that leaves
abbrev pub TillReverseRefused : {C J : Type 0} → CellMeaning C → TillOf C J → TillOf C J
    → TillFault → Type 0
TillReverseRefused cell old new fault.Stopped = (old.state ≡ Stopped) × (new ≡ old)
TillReverseRefused cell old new fault.NothingOpen = IsAtRest old.state × (new ≡ old)
TillReverseRefused cell old new (fault.Terminal why) =
    ((reversed : Serial) × (amount : ℕ) × IsOpen old.state reversed amount
    × ReversalRefused cell reversed old.terminal new.terminal why)
    × SameBook old new
TillReverseRefused cell old new _ = ⊥

-- the purchase is told to be undone: the bytes are the host's reply to its reversal, and the book
-- keeps it as undone
pub record IsUndoneKept
    {C J : Type 0} (book : CellMeaning J) (bytes : List ℕ) (found : ReversalState)
    (old new : TillOf C J) : Type 0 where
  pub reversed : Serial
  pub amount : ℕ
  pub was_open : IsOpen old.state reversed amount
  pub reply : ReportsReversal old.terminal.state reversed bytes (Done found)
  pub terminal : Completes old new
  pub kept : IsPut book old.book new.book (last_bytes (Undone reversed))
  pub state_is : new.state ≡ Running (Some (Undone reversed))

-- a refusal of the reversal is told: it has no MAC, so nothing changes
pub record IsReversalRefused
    {C J : Type 0} (bytes : List ℕ) (reason : ℕ) (old new : TillOf C J) : Type 0 where
  pub reversed : Serial
  pub amount : ℕ
  pub was_open : IsOpen old.state reversed amount
  pub refusal : ReportsReversal old.terminal.state reversed bytes (Refused reason)
  pub same : new ≡ old

-- what a till tells of the bytes, and what that leaves
abbrev pub TellsReversal : {C J : Type 0} → CellMeaning J → List ℕ → TillOf C J → TillOf C J
    → ReversalAnswer → Type 0
TellsReversal book bytes old new (Done found) = IsUndoneKept book bytes found old new
TellsReversal book bytes old new (Refused reason) = IsReversalRefused bytes reason old new

-- a reversal that is not told, since the book did not keep it
pub record IsUndoneLost
    {C J : Type 0} (book : CellMeaning J) (bytes : List ℕ) (old new : TillOf C J)
    (why : StoreFault) : Type 0 where
  pub reversed : Serial
  pub amount : ℕ
  pub was_open : IsOpen old.state reversed amount
  pub found : ReversalState
  pub reply : ReportsReversal old.terminal.state reversed bytes (Done found)
  pub terminal : Completes old new
  pub not_kept : IsLastNotKept
      book (Undone reversed) (Some (Open reversed amount)) old.book new.book new.state why

-- why nothing is told, the first that holds of these, and what that leaves
abbrev pub TillReversalReplyRefused : {C J : Type 0} → CellMeaning J → List ℕ → TillOf C J
    → TillOf C J → TillFault → Type 0
TillReversalReplyRefused book bytes old new fault.Stopped = (old.state ≡ Stopped) × (new ≡ old)
TillReversalReplyRefused book bytes old new fault.Open = ⊥
TillReversalReplyRefused book bytes old new fault.NothingOpen =
    IsAtRest old.state × (new ≡ old)
TillReversalReplyRefused book bytes old new (fault.Terminal why) =
    ((reversed : Serial) × (amount : ℕ) × IsOpen old.state reversed amount
    × ReversalReplyRefused old.terminal.state reversed bytes why)
    × (new ≡ old)
TillReversalReplyRefused book bytes old new (fault.Store why) =
    IsUndoneLost book bytes old new why
