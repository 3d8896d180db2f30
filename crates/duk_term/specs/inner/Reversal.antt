-- What only private functions and proofs say beside `Reversal.antt`: this project's own.
use Rattle.std.specs.Prelude.{◌≡◌, ◌≢◌, Option}
use Rattle.duk_regs.specs.Registers.{RegisterSet}
use Rattle.duk_reversal.specs.Numbers.{Numbers}
use Rattle.duk_tree.specs.Next.{spent_counter}
use Rattle.duk_tree.specs.Serial.{Serial}
use Rattle.duk_term.specs.Begin.{IsSpent}
use Rattle.duk_term.specs.Reversal.{HasNotUsed, HasUsed, numbers_of}
use Rattle.duk_term.specs.declared.fault.TermFault.{TermFault}
use Rattle.duk_term.specs.declared.fault.TermFault.TheVariants as fault
use Rattle.duk_term.specs.declared.state.Pending.{Pending}
use Rattle.duk_term.specs.declared.state.State.{State}
use Rattle.duk_term.specs.declared.state.State.TheVariants.{Stopped, Empty, Loaded}

-- the state has registers with a number left, and these are the numbers of a reversal by it
pub record IsReversalFrom (state : State) (reversed : Serial) (numbers : Numbers) : Type 0 where
  pub set : RegisterSet
  pub pending : Option Pending
  pub had : state ≡ Loaded set pending
  pub has_number : set.counter ≢ spent_counter
  pub used : HasUsed set reversed
  pub numbers_are : numbers ≡ numbers_of set reversed

-- why a number may not be reversed by a state
abbrev pub MayNotReverse : State → Serial → TermFault → Type 0
MayNotReverse state reversed fault.Stopped = state ≡ Stopped
MayNotReverse state reversed fault.NotLoaded = state ≡ Empty
MayNotReverse state reversed fault.Spent = IsSpent state
MayNotReverse state reversed fault.NotMine = HasNotUsed state reversed
MayNotReverse state reversed _ = ⊥
