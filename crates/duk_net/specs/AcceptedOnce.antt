-- What the host accepts: this project's own.
use Rattle.std.specs.Prelude.{◌≡◌, ℕ, List, AllPairs, Any, Contains}
use Rattle.duk_frame.specs.Answer.{IsReply}
use Rattle.duk_frame.specs.declared.code.Code.{Code}
use Rattle.duk_store.specs.Log.{Numbers}
use Rattle.duk_tree.specs.Serial.{Serial}
use Rattle.duk_net.specs.World.{Frame, Meanings, WorldOf}
use Rattle.duk_net.specs.declared.outcome.Outcome.{Outcome}
use Rattle.duk_net.specs.declared.outcome.Outcome.TheVariants as outcome

-- an accepted reply with this code to the transaction of a number stands among the answers
pub record HasReply (answers : List Frame) (ksn : Serial) (code : Code) : Type 0 where
  pub frame : Frame
  pub mac : List ℕ
  pub sent : Contains answers frame
  pub reply : IsReply frame.items ksn code mac

-- a number was accepted: some accepted reply to its transaction stands among the answers
abbrev pub IsAcceptedNumber : List Frame → Serial → Type 0
IsAcceptedNumber answers ksn = (code : Code) × HasReply answers ksn code

-- the outcome is that the host accepts this number
abbrev pub Accepts : Serial → Outcome → Type 0
Accepts ksn (outcome.Accepted k accepted code) = accepted ≡ ksn
Accepts ksn _ = ⊥

-- two outcomes do not accept one number
abbrev pub AcceptDifferentNumbers : Outcome → Outcome → Type 0
AcceptDifferentNumbers one other = (ksn : Serial) → Accepts ksn one → ¬ Accepts ksn other

-- no number is accepted twice, and none that was accepted before
pub record AcceptedOnce (answers : List Frame) (outcomes : List Outcome) : Type 0 where
  pub once : AllPairs AcceptDifferentNumbers outcomes
  pub afresh : (ksn : Serial) → Any (Accepts ksn) outcomes → ¬ IsAcceptedNumber answers ksn

-- each number that was accepted stands in every list that a restart of the host may find
abbrev pub KeepsAccepted : {C L I : Type 0} → Meanings C L I → WorldOf C L I → Type 0
KeepsAccepted m world =
    (numbers : Numbers) → (m.host.log.state_of world.host.log).found numbers
    → (ksn : Serial) → IsAcceptedNumber world.answers ksn → Contains numbers ksn
