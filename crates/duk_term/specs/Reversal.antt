-- A terminal's reversals: this project's own, over the transaction keys of ANSI X9.24-1:2009 annex
-- A.
use Rattle.std.specs.Prelude.{◌≡◌, ◌≢◌, ◌⊎◌, ◌<◌, ℕ, List, Option, Some, None}
use Rattle.duk_frame.specs.Answer.{IsRefusal}
use Rattle.duk_regs.specs.Registers.{HaveSixteenBytes, RegisterSet}
use Rattle.duk_reversal.specs.Answer.{IsReversalAnswer}
use Rattle.duk_reversal.specs.Authentic.{reversal_reply_under, reversal_under}
use Rattle.duk_reversal.specs.Numbers.{Numbers}
use Rattle.duk_reversal.specs.Reply.{IsReversalReply}
use Rattle.duk_reversal.specs.declared.answer.ReversalAnswerFrame.{ReversalAnswerFrame}
use Rattle.duk_reversal.specs.declared.answer.ReversalAnswerFrame.TheVariants as frame
use Rattle.duk_reversal.specs.declared.reply.ReversalReply.{ReversalReply}
use Rattle.duk_reversal.specs.declared.state.ReversalState.{ReversalState}
use Rattle.duk_store.specs.Cell.{CellMeaning, IsPut}
use Rattle.duk_store.specs.declared.fault.StoreFault.{StoreFault}
use Rattle.duk_tree.specs.Next.{spent_counter}
use Rattle.duk_tree.specs.Path.{IsUsable}
use Rattle.duk_tree.specs.Serial.{Serial}
use Rattle.duk_term.specs.Begin.{BeginStopped, IsSpent, TakesFrom, pending_of}
use Rattle.duk_term.specs.Body.{body_bytes}
use Rattle.duk_term.specs.Reply.{IsIdle, IsPending, completed}
use Rattle.duk_term.specs.Terminal.{TerminalOf, serial_of}
use Rattle.duk_term.specs.declared.answer.ReversalAnswer.{ReversalAnswer}
use Rattle.duk_term.specs.declared.answer.ReversalAnswer.TheVariants.{Done, Refused}
use Rattle.duk_term.specs.declared.fault.TermFault.{TermFault}
use Rattle.duk_term.specs.declared.fault.TermFault.TheVariants as fault
use Rattle.duk_term.specs.declared.state.Pending.{Pending}
use Rattle.duk_term.specs.declared.state.State.{State}
use Rattle.duk_term.specs.declared.state.State.TheVariants.{Stopped, Empty, Loaded}

-- ---- a reversal goes out

-- a number is a usable one that comes before another, of the same initial key serial number
pub record ComesBefore (ksn next : Serial) : Type 0 where
  pub same_iksn : ksn.iksn ≡ next.iksn
  pub usable : IsUsable ksn.counter
  pub below : ksn.counter < next.counter

-- a terminal with these registers used this number under its present initial key serial number
abbrev pub HasUsed : RegisterSet → Serial → Type 0
HasUsed set ksn = ComesBefore ksn (serial_of set)

-- the numbers of a reversal by these registers: their next one, and the one that is reversed
abbrev pub numbers_of : RegisterSet → Serial → Numbers
numbers_of set reversed = record { ksn = serial_of set; reversed = reversed }

-- the state has registers with a number left, which used the one that is to be reversed
pub record MayReverse (state : State) (reversed : Serial) : Type 0 where
  pub set : RegisterSet
  pub pending : Option Pending
  pub had : state ≡ Loaded set pending
  pub has_number : set.counter ≢ spent_counter
  pub used : HasUsed set reversed

-- the state has registers with a number left, which did not use the one that is to be reversed
pub record HasNotUsed (state : State) (reversed : Serial) : Type 0 where
  pub set : RegisterSet
  pub pending : Option Pending
  pub had : state ≡ Loaded set pending
  pub has_number : set.counter ≢ spent_counter
  pub unused : ¬ HasUsed set reversed

-- a reversal goes out: it is that of the number taken, and names a number that was used before; the
-- image of the registers that are left is kept
pub record IsReversalBegun
    {C : Type 0} (meaning : CellMeaning C) (reversed ksn : Serial) (frame : List ℕ)
    (old new : TerminalOf C) : Type 0 where
  pub set : RegisterSet
  pub key : List ℕ
  pub left : RegisterSet
  pub takes : TakesFrom old.state set key left
  pub left_are : HaveSixteenBytes left.registers
  pub used : HasUsed set reversed
  pub ksn_is : ksn ≡ serial_of set
  pub frame_is : frame ≡ reversal_under key (numbers_of set reversed)
  pub state_is : new.state ≡ Loaded left (Some (pending_of set key))
  pub kept : IsPut meaning old.cell new.cell (body_bytes left)

-- no reversal goes out, since the image was not kept
pub record ReversalStopped
    {C : Type 0} (meaning : CellMeaning C) (reversed : Serial) (old new : TerminalOf C)
    (why : StoreFault) : Type 0 where
  pub may : MayReverse old.state reversed
  pub stopped : BeginStopped meaning old new why

-- why no reversal goes out, the first that holds of these, and what that leaves
abbrev pub ReversalRefused : {C : Type 0} → CellMeaning C → Serial → TerminalOf C → TerminalOf C
    → TermFault → Type 0
ReversalRefused meaning reversed old new fault.Stopped = (old.state ≡ Stopped) × (new ≡ old)
ReversalRefused meaning reversed old new fault.NotLoaded = (old.state ≡ Empty) × (new ≡ old)
ReversalRefused meaning reversed old new fault.Spent = IsSpent old.state × (new ≡ old)
ReversalRefused meaning reversed old new fault.NotMine =
    HasNotUsed old.state reversed × (new ≡ old)
ReversalRefused meaning reversed old new (fault.Store why) =
    ReversalStopped meaning reversed old new why
ReversalRefused meaning reversed old new _ = ⊥

-- ---- what comes back

-- the number of the transaction or the reversal that is pending
abbrev pub pending_number_of : State → Option Serial
pending_number_of (Loaded set (Some pending)) = Some pending.ksn
pending_number_of _ = None

-- the numbers of the reversal that is pending
abbrev pub numbers_in : Pending → Serial → Numbers
numbers_in pending reversed = record { ksn = pending.ksn; reversed = reversed }

-- the frame of the reply to it, with the MAC of the host
abbrev pub reversal_reply_to : Pending → Serial → ReversalState → List ℕ
reversal_reply_to pending reversed found =
    reversal_reply_under pending.response_key (numbers_in pending reversed) found

-- a reply is to the pending reversal of this number: it has both numbers
pub record IsOfReversal (reply : ReversalReply) (pending : Pending) (reversed : Serial)
    : Type 0 where
  pub ksn_is : reply.numbers.ksn ≡ pending.ksn
  pub reversed_is : reply.numbers.reversed ≡ reversed

-- the bytes are that frame
pub record IsHostReversalReply
    (bytes : List ℕ) (pending : Pending) (reversed : Serial) (found : ReversalState)
    : Type 0 where
  pub reply : ReversalReply
  pub is_reply : IsReversalReply bytes reply
  pub is_of : IsOfReversal reply pending reversed
  pub found_is : reply.state ≡ found
  pub bytes_are : bytes ≡ reversal_reply_to pending reversed found

-- what the bytes say to a terminal in this state, of its reversal of this number
abbrev pub ReportsReversal : State → Serial → List ℕ → ReversalAnswer → Type 0
ReportsReversal state reversed bytes (Done found) =
    (pending : Pending) × IsPending state pending
    × IsHostReversalReply bytes pending reversed found
ReportsReversal state reversed bytes (Refused reason) =
    (pending : Pending) × IsPending state pending × IsRefusal bytes pending.ksn reason

-- the state after that
abbrev pub after_reversal : State → ReversalAnswer → State
after_reversal state (Done found) = completed state
after_reversal state (Refused reason) = state

-- the answer is to another reversal: a reply with other numbers, or a refusal of another number
abbrev pub IsOfOther : Pending → Serial → ReversalAnswerFrame → Type 0
IsOfOther pending reversed (frame.Reply reply) = ¬ IsOfReversal reply pending reversed
IsOfOther pending reversed (frame.Refusal ksn reason) = ksn ≢ pending.ksn

-- a reply to this reversal that the host did not make: its MAC is another
pub record HasBadReversalMac (bytes : List ℕ) (pending : Pending) (reversed : Serial) : Type 0 where
  pub reply : ReversalReply
  pub is_reply : IsReversalReply bytes reply
  pub is_of : IsOfReversal reply pending reversed
  pub other : bytes ≢ reversal_reply_to pending reversed reply.state

-- why the bytes are refused, the first that holds of these
abbrev pub ReversalReplyRefused : State → Serial → List ℕ → TermFault → Type 0
ReversalReplyRefused state reversed bytes fault.Stopped = state ≡ Stopped
ReversalReplyRefused state reversed bytes fault.Malformed =
    (state ≢ Stopped) × ((answer : ReversalAnswerFrame) → ¬ IsReversalAnswer bytes answer)
ReversalReplyRefused state reversed bytes fault.NotPending =
    (state ≢ Stopped) × ((answer : ReversalAnswerFrame) × IsReversalAnswer bytes answer)
    × IsIdle state
ReversalReplyRefused state reversed bytes fault.NotMine =
    (answer : ReversalAnswerFrame) × (pending : Pending) × IsReversalAnswer bytes answer
    × IsPending state pending × IsOfOther pending reversed answer
ReversalReplyRefused state reversed bytes fault.BadMac =
    (pending : Pending) × IsPending state pending × HasBadReversalMac bytes pending reversed
ReversalReplyRefused state reversed bytes _ = ⊥
