-- What a terminal waits for, by its number.
use Rattle.std.proofs.Common.{◌≡◌, ap, refl, Some, None}
use Rattle.duk_term.specs.Reply.{IsPending}
use Rattle.duk_term.specs.Reversal.{pending_number_of}
use Rattle.duk_term.specs.declared.state.Pending.{Pending}
use Rattle.duk_term.specs.declared.state.State.{State}
use Rattle.duk_term.specs.declared.state.State.TheVariants.{Stopped, Empty, Loaded}
use Rattle.duk_tree.specs.Serial.{Serial}

-- what is pending has the number that is answered
pub number_of_pending : (state : State) (pending : Pending) → IsPending state pending → pending_number_of state ≡ Some pending.ksn
number_of_pending state pending is = ap pending_number_of is.1

-- a number that is answered is that of what is pending
pub pending_of_number : (state : State) (ksn : Serial) → Some ksn ≡ pending_number_of state → (pending : Pending) × IsPending state pending × (pending.ksn ≡ ksn)
pending_of_number Stopped ksn is = absurd (cc)
pending_of_number Empty ksn is = absurd (cc)
pending_of_number (Loaded set None) ksn is = absurd (cc)
pending_of_number (Loaded set (Some pending)) ksn is = (pending, (set, refl), cc)
