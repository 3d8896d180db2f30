-- What a terminal makes of the bytes that come back: this project's own.
use Rattle.std.specs.Prelude.{◌≡◌, ◌≢◌, ℕ, List, Some, None}
use Rattle.duk_frame.specs.Answer.{IsAnswer, IsRefusal, IsReply, reply_text}
use Rattle.duk_frame.specs.Payment.{authenticated}
use Rattle.duk_frame.specs.declared.answer.AnswerFrame.{AnswerFrame}
use Rattle.duk_frame.specs.declared.answer.AnswerFrame.TheVariants.{Reply, Refusal}
use Rattle.duk_frame.specs.declared.code.Code.{Code}
use Rattle.duk_tree.specs.Serial.{Serial}
use Rattle.duk_regs.specs.Registers.{RegisterSet}
use Rattle.duk_term.specs.declared.answer.Answer.{Answer}
use Rattle.duk_term.specs.declared.answer.Answer.TheVariants.{Done, Refused}
use Rattle.duk_term.specs.declared.fault.TermFault.{TermFault}
use Rattle.duk_term.specs.declared.fault.TermFault.TheVariants as fault
use Rattle.duk_term.specs.declared.state.Pending.{Pending}
use Rattle.duk_term.specs.declared.state.State.{State}
use Rattle.duk_term.specs.declared.state.State.TheVariants.{Stopped, Empty, Loaded}

-- the terminal waits for the reply of this transaction
abbrev pub IsPending : State → Pending → Type 0
IsPending state pending = (set : RegisterSet) × (state ≡ Loaded set (Some pending))

-- it waits for none
abbrev pub IsIdle : State → Type 0
IsIdle state = (pending : Pending) → ¬ IsPending state pending

-- the key serial number in an answer
abbrev pub ksn_in : AnswerFrame → Serial
ksn_in (Reply ksn code mac) = ksn
ksn_in (Refusal ksn reason) = ksn

-- the frame of an accepted reply to this transaction, with the MAC of the host
abbrev pub reply_to : Pending → Code → List ℕ
reply_to pending code = authenticated pending.response_key (reply_text pending.ksn code)

-- the state with nothing pending
abbrev pub completed : State → State
completed Stopped = Stopped
completed Empty = Empty
completed (Loaded set pending) = Loaded set None

-- the bytes are that frame
pub record IsHostReply (bytes : List ℕ) (pending : Pending) (code : Code) : Type 0 where
  pub mac : List ℕ
  pub reply : IsReply bytes pending.ksn code mac
  pub bytes_are : bytes ≡ reply_to pending code

-- what the bytes say to a terminal in this state
abbrev pub ReportsAnswer : State → List ℕ → Answer → Type 0
ReportsAnswer state bytes (Done code) =
    (pending : Pending) × IsPending state pending × IsHostReply bytes pending code
ReportsAnswer state bytes (Refused reason) =
    (pending : Pending) × IsPending state pending × IsRefusal bytes pending.ksn reason

-- the state after that
abbrev pub after_answer : State → Answer → State
after_answer state (Done code) = completed state
after_answer state (Refused reason) = state

-- an accepted reply to this transaction that the host did not make: its MAC is another
pub record HasBadMac (bytes : List ℕ) (pending : Pending) : Type 0 where
  pub code : Code
  pub mac : List ℕ
  pub reply : IsReply bytes pending.ksn code mac
  pub other : bytes ≢ reply_to pending code

-- why the bytes are refused, the first that holds of these
abbrev pub ReplyRefused : State → List ℕ → TermFault → Type 0
ReplyRefused state bytes fault.Stopped = state ≡ Stopped
ReplyRefused state bytes fault.Malformed =
    (state ≢ Stopped) × ((answer : AnswerFrame) → ¬ IsAnswer bytes answer)
ReplyRefused state bytes fault.NotPending =
    (state ≢ Stopped) × ((answer : AnswerFrame) × IsAnswer bytes answer) × IsIdle state
ReplyRefused state bytes fault.NotMine =
    (answer : AnswerFrame) × (pending : Pending) × IsAnswer bytes answer × IsPending state pending
    × (ksn_in answer ≢ pending.ksn)
ReplyRefused state bytes fault.BadMac =
    (pending : Pending) × IsPending state pending × HasBadMac bytes pending
ReplyRefused state bytes _ = ⊥
