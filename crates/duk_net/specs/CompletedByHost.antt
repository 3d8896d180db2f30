-- How transactions end: this project's own.
use Rattle.std.specs.Prelude.{◌≡◌, ◌⊎◌, ◌++◌, ◌∷◌, ℕ, List, AllPairs, Any}
use Rattle.duk_frame.specs.declared.code.Code.{Code}
use Rattle.duk_term.specs.Reply.{IsPending}
use Rattle.duk_term.specs.Terminal.{TerminalOf}
use Rattle.duk_term.specs.declared.state.Pending.{Pending}
use Rattle.duk_tree.specs.Serial.{Serial}
use Rattle.duk_net.specs.AcceptedOnce.{HasReply}
use Rattle.duk_net.specs.Run.{Run}
use Rattle.duk_net.specs.Step.{Step}
use Rattle.duk_net.specs.World.{Frame, Meanings, WorldOf}
use Rattle.duk_stations.specs.Places.{IsAt}
use Rattle.duk_net.specs.declared.event.Event.{Event}
use Rattle.duk_net.specs.declared.outcome.Outcome.{Outcome}
use Rattle.duk_net.specs.declared.outcome.Outcome.TheVariants as outcome

-- the terminal of this number waits for the reply to the transaction of a key serial number
pub record IsPendingAt
    {C : Type 0} (terminals : List (TerminalOf C)) (t : ℕ) (ksn : Serial) : Type 0 where
  pub terminal : TerminalOf C
  pub pending : Pending
  pub at : IsAt terminals t terminal
  pub is_pending : IsPending terminal.state pending
  pub ksn_is : ksn ≡ pending.ksn

-- some terminal waits for it
abbrev pub IsPendingIn : {C : Type 0} → List (TerminalOf C) → Serial → Type 0
IsPendingIn terminals ksn = (t : ℕ) × IsPendingAt terminals t ksn

-- the outcome is that the transaction of this number is done
abbrev pub Completes : Serial → Outcome → Type 0
Completes ksn (outcome.Done t done code) = done ≡ ksn
Completes ksn _ = ⊥

-- the outcome is that the host accepts this number with this code
abbrev pub AcceptsWith : Serial → Code → Outcome → Type 0
AcceptsWith ksn code (outcome.Accepted k accepted with) = (accepted ≡ ksn) × (with ≡ code)
AcceptsWith ksn code _ = ⊥

-- the outcome is that this terminal's request of this number is sent
abbrev pub Sends : ℕ → Serial → Outcome → Type 0
Sends t ksn (outcome.Sent u k sent) = (u ≡ t) × (sent ≡ ksn)
Sends t ksn _ = ⊥

-- two outcomes do not complete one number
abbrev pub CompleteDifferentNumbers : Outcome → Outcome → Type 0
CompleteDifferentNumbers one other = (ksn : Serial) → Completes ksn one → ¬ Completes ksn other

-- what is pending at a terminal was so before these outcomes, or was sent in them
abbrev pub WasPendingOrSent : {C : Type 0} → List (TerminalOf C) → List Outcome → ℕ → Serial
    → Type 0
WasPendingOrSent terminals outcomes t ksn = IsPendingAt terminals t ksn ⊎ Any (Sends t ksn) outcomes

-- the host's acceptance put a reply with this code among the answers: that reply stood there before
-- these outcomes, or the acceptance is one of them
abbrev pub WasRepliedOrAccepted : List Frame → List Outcome → Serial → Code → Type 0
WasRepliedOrAccepted answers outcomes ksn code =
    HasReply answers ksn code ⊎ Any (AcceptsWith ksn code) outcomes

-- a terminal waits for the reply to the transaction of a key serial number, and an accepted reply
-- with this code stands among the answers
pub record HasItsReply
    {C L I : Type 0} (world : WorldOf C L I) (t : ℕ) (ksn : Serial) (code : Code) : Type 0 where
  pub pending : IsPendingAt world.terminals t ksn
  pub replied : HasReply world.answers ksn code

-- a terminal is done with a code: in the world just before, its pending transaction had this
-- number, and the reply with this code stood among the answers; and the host's acceptance had put
-- it there
pub record IsDoneByHost
    {C L I : Type 0} (m : Meanings C L I) (old : WorldOf C L I) (earlier : List Outcome) (t : ℕ)
    (ksn : Serial) (code : Code) : Type 0 where
  pub just_before : (events : List Event) (event : Event) (before after : WorldOf C L I)
      → Run m old events earlier before → Step m before event (outcome.Done t ksn code) after
      → HasItsReply before t ksn code
  pub accepted : WasRepliedOrAccepted old.answers earlier ksn code

-- a terminal completes only with the host's reply to the number that was pending, whose acceptance
-- came before
abbrev pub AreDoneByHost : {C L I : Type 0} → Meanings C L I → WorldOf C L I → List Outcome
    → Type 0
AreDoneByHost m old outcomes =
    (earlier later : List Outcome) (t : ℕ) (ksn : Serial) (code : Code)
    → outcomes ≡ earlier ++ outcome.Done t ksn code ∷ later
    → IsDoneByHost m old earlier t ksn code

-- how the transactions of a call end: each once and by the host's reply, none of those that are
-- done is pending at its end, and what is pending was so at its start or was sent in it
pub record CompletedByHost
    {C L I : Type 0} (m : Meanings C L I) (old : WorldOf C L I) (after : List (TerminalOf C))
    (outcomes : List Outcome) : Type 0 where
  pub by_host : AreDoneByHost m old outcomes
  pub once : AllPairs CompleteDifferentNumbers outcomes
  pub over : (ksn : Serial) → Any (Completes ksn) outcomes → ¬ IsPendingIn after ksn
  pub pending : (t : ℕ) (ksn : Serial) → IsPendingAt after t ksn
      → WasPendingOrSent old.terminals outcomes t ksn
