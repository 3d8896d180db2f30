-- The lifetime of a till, through calls and stops: this project's own.
use Rattle.std.specs.Prelude.{◌≡◌, ◌∷◌, ◌++◌, [], ℕ, List, Some, None, Result, Ok, Err}
use Rattle.duk_frame.specs.declared.code.Code.{Code}
use Rattle.duk_store.specs.Cell.{CellMeaning, Kept}
use Rattle.duk_store.specs.StoreState.{FindsWithin, StaysButCalm}
use Rattle.duk_term.specs.Load.{Loading}
use Rattle.duk_term.specs.Terminal.{next_of}
use Rattle.duk_term.specs.declared.answer.Answer.{Answer}
use Rattle.duk_term.specs.declared.answer.Answer.TheVariants as answer
use Rattle.duk_term.specs.declared.answer.Begun.{Begun}
use Rattle.duk_term.specs.declared.answer.Next.{Next}
use Rattle.duk_term.specs.declared.answer.Next.TheVariants as next
use Rattle.duk_term.specs.declared.answer.ReversalAnswer.{ReversalAnswer}
use Rattle.duk_term.specs.declared.answer.ReversalAnswer.TheVariants as reversal
use Rattle.duk_term.specs.declared.purchase.Purchase.{Purchase}
use Rattle.duk_term.specs.declared.state.State.TheVariants as term_state
use Rattle.duk_till.specs.Begin.{IsTillBegun, TillBeginRefused}
use Rattle.duk_till.specs.History.{Began, Entry, Told, payment_of}
use Rattle.duk_till.specs.Last.{outcome_of}
use Rattle.duk_till.specs.Load.{IsTillLoaded, TillLoadRefused}
use Rattle.duk_till.specs.Reply.{TellsOutcome, TillReplyRefused}
use Rattle.duk_till.specs.Restart.{IsTillRestarted, TillRestartRefused}
use Rattle.duk_till.specs.Reversal.{IsTillReversing, TellsReversal, TillReversalReplyRefused, TillReverseRefused}
use Rattle.duk_till.specs.Till.{SameBook, TillOf}
use Rattle.duk_till.specs.declared.fault.TillFault.{TillFault}
use Rattle.duk_till.specs.declared.fault.TillFault.TheVariants as fault
use Rattle.duk_till.specs.declared.last.Last.TheVariants.{Open, Undone}
use Rattle.duk_till.specs.declared.state.TillState.{TillState}
use Rattle.duk_till.specs.declared.state.TillState.TheVariants.{Stopped, Running}

-- a call of a till, with what it was given and what it gave; or its process ends, and a new till is
-- made over what the cells keep. A process that ends within a call leaves what the call leaves where
-- a device step fails
pub data Call : Type 0 where
  Begin : Purchase → Result Begun TillFault → Call
  Reply : List ℕ → Result Answer TillFault → Call
  Reverse : Result Begun TillFault → Call
  ReversalReply : List ℕ → Result ReversalAnswer TillFault → Call
  Restart : Result TillState TillFault → Call
  Load : Loading → Result (Unit {0}) TillFault → Call
  ArmTerminal : ℕ → Call
  ArmBook : ℕ → Call
  Stop : Call

-- a cell of a till that is made: it is honest, and a restart finds nothing in it but these
pub record IsCellLeft {C : Type 0} (meaning : CellMeaning C) (left : Kept → Type 0) (cell : C)
    : Type 0 where
  pub honest : (meaning.state_of cell).honest
  pub within : FindsWithin (meaning.state_of cell) left

-- a till is made over cells in which these were left
pub record IsMadeOver
    {C J : Type 0} (cell : CellMeaning C) (book : CellMeaning J) (in_cell in_book : Kept → Type 0)
    (till : TillOf C J) : Type 0 where
  pub stopped : till.state ≡ Stopped
  pub terminal_stopped : till.terminal.state ≡ term_state.Stopped
  pub cell_is : IsCellLeft cell in_cell till.terminal.cell
  pub book_is : IsCellLeft book in_book till.book

-- the terminal's cell is armed
pub record IsTerminalArmed {C J : Type 0} (cell : CellMeaning C) (old new : TillOf C J)
    : Type 0 where
  pub stays : StaysButCalm (cell.state_of old.terminal.cell) (cell.state_of new.terminal.cell)
  pub terminal : new.terminal.state ≡ old.terminal.state
  pub same_book : SameBook old new

-- the book is armed
pub record IsBookArmed {C J : Type 0} (book : CellMeaning J) (old new : TillOf C J) : Type 0 where
  pub stays : StaysButCalm (book.state_of old.book) (book.state_of new.book)
  pub terminal : new.terminal ≡ old.terminal
  pub state : new.state ≡ old.state

-- what a call does to a till
abbrev pub IsCalled : {C J : Type 0} → CellMeaning C → CellMeaning J → Call → TillOf C J
    → TillOf C J → Type 0
IsCalled cell book (Begin purchase (Ok begun)) old new =
    IsTillBegun cell book purchase begun.ksn begun.frame.items old new
IsCalled cell book (Begin purchase (Err why)) old new =
    TillBeginRefused cell book purchase old new why
IsCalled cell book (Reply bytes (Ok told)) old new = TellsOutcome book bytes old new told
IsCalled cell book (Reply bytes (Err why)) old new = TillReplyRefused book bytes old new why
IsCalled cell book (Reverse (Ok begun)) old new =
    IsTillReversing cell begun.ksn begun.frame.items old new
IsCalled cell book (Reverse (Err why)) old new = TillReverseRefused cell old new why
IsCalled cell book (ReversalReply bytes (Ok told)) old new = TellsReversal book bytes old new told
IsCalled cell book (ReversalReply bytes (Err why)) old new =
    TillReversalReplyRefused book bytes old new why
IsCalled cell book (Restart (Ok told)) old new =
    IsTillRestarted cell book old new × (told ≡ new.state)
IsCalled cell book (Restart (Err why)) old new = TillRestartRefused cell book old new why
IsCalled cell book (Load asked (Ok done)) old new = IsTillLoaded cell asked old new
IsCalled cell book (Load asked (Err why)) old new = TillLoadRefused cell asked old new why
IsCalled cell book (ArmTerminal steps) old new = IsTerminalArmed cell old new
IsCalled cell book (ArmBook steps) old new = IsBookArmed book old new
IsCalled cell book Stop old new =
    IsMadeOver cell book (cell.state_of old.terminal.cell).found (book.state_of old.book).found new

-- ---- what is written of a call

-- a purchase of this amount begins at the next number
abbrev pub begun_at : Next → ℕ → List Entry
begun_at (next.At ksn) amount = Began (payment_of ksn amount) ∷ []
begun_at _ amount = []

-- the purchase that was open has this outcome
abbrev pub outcome_told : TillState → Code → List Entry
outcome_told (Running (Some (Open ksn amount))) code = Told (outcome_of ksn amount code) ∷ []
outcome_told _ code = []

-- the purchase that was open is undone
abbrev pub undone_told : TillState → List Entry
undone_told (Running (Some (Open ksn amount))) = Told (Undone ksn) ∷ []
undone_told _ = []

-- what became of the last purchase, where that is known
abbrev pub last_told : TillState → List Entry
last_told Stopped = []
last_told (Running None) = []
last_told (Running (Some (Open ksn amount))) = []
last_told (Running (Some last)) = Told last ∷ []

-- a begin takes a number, also where the book then fails; a reply and a reversal's reply tell what
-- becomes of the purchase that was open, and a restart what became of the last one
abbrev pub written : {C J : Type 0} → Call → TillOf C J → List Entry
written (Begin purchase (Ok begun)) old = Began (payment_of begun.ksn purchase.amount) ∷ []
written (Begin purchase (Err (fault.Store why))) old =
    begun_at (next_of old.terminal.state) purchase.amount
written (Reply bytes (Ok (answer.Done code))) old = outcome_told old.state code
written (ReversalReply bytes (Ok (reversal.Done found))) old = undone_told old.state
written (Restart (Ok told)) old = last_told told
written _ old = []

-- ---- a lifetime

-- whatever the terminal's cell keeps, and nothing in the book
abbrev pub IsFirst : {C J : Type 0} → CellMeaning C → CellMeaning J → TillOf C J → Type 0
IsFirst cell book till = IsMadeOver cell book (λ kept. Unit {0}) (λ kept. kept ≡ None) till

-- calls, the last of them first, of which the first was of a new till over a book that kept nothing;
-- what is written of them, the newest first; and the till as they leave it
abbrev pub IsLifetime : {C J : Type 0} → CellMeaning C → CellMeaning J → List Call → List Entry
    → TillOf C J → Type 0
IsLifetime cell book [] history till = IsFirst cell book till × (history ≡ [])
IsLifetime {C} {J} cell book (call ∷ before) history till =
    (old : TillOf C J) × (earlier : List Entry) × IsLifetime cell book before earlier old
    × IsCalled cell book call old till × (history ≡ written call old ++ earlier)
