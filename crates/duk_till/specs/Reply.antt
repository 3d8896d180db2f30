-- What a till makes of what comes back to an open purchase: this project's own.
use Rattle.std.specs.Prelude.{◌≡◌, ◌≢◌, ◌⊎◌, ℕ, List, Some}
use Rattle.duk_frame.specs.Answer.{IsRefusal}
use Rattle.duk_frame.specs.declared.code.Code.{Code}
use Rattle.duk_store.specs.Cell.{CellMeaning, IsPut}
use Rattle.duk_store.specs.declared.fault.StoreFault.{StoreFault}
use Rattle.duk_term.specs.Reply.{IsHostReply, IsPending, ReplyRefused, completed}
use Rattle.duk_term.specs.declared.answer.Answer.{Answer}
use Rattle.duk_term.specs.declared.answer.Answer.TheVariants.{Done, Refused}
use Rattle.duk_term.specs.declared.fault.TermFault.TheVariants as term_fault
use Rattle.duk_term.specs.declared.state.Pending.{Pending}
use Rattle.duk_term.specs.declared.state.State.{State}
use Rattle.duk_tree.specs.Serial.{Serial}
use Rattle.duk_till.specs.Image.{last_bytes}
use Rattle.duk_till.specs.Last.{outcome_of}
use Rattle.duk_till.specs.Till.{IsAtRest, IsLastNotKept, IsOpen, TillOf}
use Rattle.duk_till.specs.declared.fault.TillFault.{TillFault}
use Rattle.duk_till.specs.declared.fault.TillFault.TheVariants as fault
use Rattle.duk_till.specs.declared.last.Last.TheVariants.{Open}
use Rattle.duk_till.specs.declared.state.TillState.TheVariants.{Stopped, Running}

-- the bytes are the host's accepted reply to this number, for which the terminal waits
pub record IsReplyTo (state : State) (ksn : Serial) (bytes : List ℕ) (code : Code)
    : Type 0 where
  pub pending : Pending
  pub waits : IsPending state pending
  pub number_is : pending.ksn ≡ ksn
  pub from_host : IsHostReply bytes pending code

-- the terminal has the transaction that it waited for no more
abbrev pub Completes : {C J : Type 0} → TillOf C J → TillOf C J → Type 0
Completes old new =
    new.terminal ≡ record { cell = old.terminal.cell; state = completed old.terminal.state }

-- an outcome is told: the bytes are the host's reply to the open purchase, and the book keeps what
-- became of it
pub record IsOutcomeKept
    {C J : Type 0} (book : CellMeaning J) (bytes : List ℕ) (code : Code) (old new : TillOf C J)
    : Type 0 where
  pub ksn : Serial
  pub amount : ℕ
  pub was_open : IsOpen old.state ksn amount
  pub reply : IsReplyTo old.terminal.state ksn bytes code
  pub terminal : Completes old new
  pub kept : IsPut book old.book new.book (last_bytes (outcome_of ksn amount code))
  pub state_is : new.state ≡ Running (Some (outcome_of ksn amount code))

-- a refusal of the open purchase is told: it has no MAC, so nothing changes
pub record IsPurchaseRefused
    {C J : Type 0} (bytes : List ℕ) (reason : ℕ) (old new : TillOf C J) : Type 0 where
  pub ksn : Serial
  pub amount : ℕ
  pub was_open : IsOpen old.state ksn amount
  pub pending : Pending
  pub waits : IsPending old.terminal.state pending
  pub number_is : pending.ksn ≡ ksn
  pub refusal : IsRefusal bytes ksn reason
  pub same : new ≡ old

-- what a till tells of the bytes, and what that leaves
abbrev pub TellsOutcome : {C J : Type 0} → CellMeaning J → List ℕ → TillOf C J → TillOf C J
    → Answer → Type 0
TellsOutcome book bytes old new (Done code) = IsOutcomeKept book bytes code old new
TellsOutcome book bytes old new (Refused reason) = IsPurchaseRefused bytes reason old new

-- an outcome that is not told, since the book did not keep it
pub record IsOutcomeLost
    {C J : Type 0} (book : CellMeaning J) (bytes : List ℕ) (old new : TillOf C J)
    (why : StoreFault) : Type 0 where
  pub ksn : Serial
  pub amount : ℕ
  pub was_open : IsOpen old.state ksn amount
  pub code : Code
  pub reply : IsReplyTo old.terminal.state ksn bytes code
  pub terminal : Completes old new
  pub not_kept : IsLastNotKept
      book (outcome_of ksn amount code) (Some (Open ksn amount)) old.book new.book new.state why

-- the terminal waits for the reply to another number: to a reversal
pub record IsReversing (state : State) (ksn : Serial) : Type 0 where
  pub pending : Pending
  pub waits : IsPending state pending
  pub other : pending.ksn ≢ ksn

-- the terminal waits for the reply to this number, or for none
abbrev pub WaitsForNoOther : State → Serial → Type 0
WaitsForNoOther state ksn =
    (pending : Pending) → IsPending state pending → pending.ksn ≡ ksn

-- why nothing is told, the first that holds of these, and what that leaves
abbrev pub TillReplyRefused : {C J : Type 0} → CellMeaning J → List ℕ → TillOf C J → TillOf C J
    → TillFault → Type 0
TillReplyRefused book bytes old new fault.Stopped = (old.state ≡ Stopped) × (new ≡ old)
TillReplyRefused book bytes old new fault.Open = ⊥
TillReplyRefused book bytes old new fault.NothingOpen = IsAtRest old.state × (new ≡ old)
TillReplyRefused book bytes old new (fault.Terminal why) =
    ((ksn : Serial) × (amount : ℕ) × IsOpen old.state ksn amount
    × (((why ≡ term_fault.NotPending) × IsReversing old.terminal.state ksn)
    ⊎ (WaitsForNoOther old.terminal.state ksn × ReplyRefused old.terminal.state bytes why)))
    × (new ≡ old)
TillReplyRefused book bytes old new (fault.Store why) = IsOutcomeLost book bytes old new why
