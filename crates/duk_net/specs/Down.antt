-- An answer reaches a terminal of a world: this project's own.
use Rattle.std.specs.Prelude.{◌≡◌, ◌⊎◌, ℕ}
use Rattle.duk_term.specs.Reply.{IsPending, ReportsAnswer, ReplyRefused, after_answer}
use Rattle.duk_term.specs.Terminal.{TerminalOf}
use Rattle.duk_term.specs.declared.answer.Answer.{Answer}
use Rattle.duk_term.specs.declared.answer.Answer.TheVariants.{Done, Refused}
use Rattle.duk_term.specs.declared.state.Pending.{Pending}
use Rattle.duk_tree.specs.Serial.{Serial}
use Rattle.duk_net.specs.World.{FindsNoTerminal, Frame, ChangesTerminal, WorldOf}
use Rattle.duk_stations.specs.Places.{HasOne, HasNone, IsAt}
use Rattle.duk_net.specs.declared.outcome.Outcome.{Outcome}
use Rattle.duk_net.specs.declared.outcome.Outcome.TheVariants as came

-- a frame says this to a terminal, of its pending transaction, which has this number
pub record ReportsAnswerOf
    {C : Type 0} (frame : Frame) (ksn : Serial) (answer : Answer)
    (before after : TerminalOf C) : Type 0 where
  pub pending : Pending
  pub was_pending : IsPending before.state pending
  pub ksn_is : ksn ≡ pending.ksn
  pub reported : ReportsAnswer before.state frame.items answer
  pub after_is : after ≡ record { cell = before.cell; state = after_answer before.state answer }

-- what a terminal makes of a frame that comes back
abbrev pub TakesAnswer : {C : Type 0} → ℕ → Frame → Outcome → TerminalOf C → TerminalOf C → Type 0
TakesAnswer t frame (came.Done u ksn code) before after =
    (u ≡ t) × ReportsAnswerOf frame ksn (Done code) before after
TakesAnswer t frame (came.GotRefusal u ksn reason) before after =
    (u ≡ t) × ReportsAnswerOf frame ksn (Refused reason) before after
TakesAnswer t frame (came.TermFaulted u why) before after =
    (u ≡ t) × ReplyRefused before.state frame.items why × (after ≡ before)
TakesAnswer t frame _ before after = ⊥

-- the answer of this number reaches the terminal
pub record IsDelivered
    {C L I : Type 0} (old : WorldOf C L I) (k t : ℕ) (outcome : Outcome)
    (new : WorldOf C L I) : Type 0 where
  pub frame : Frame
  pub sent : IsAt old.answers k frame
  pub change : ChangesTerminal t (TakesAnswer t frame outcome) old new

-- no answer of this number was sent
pub record FindsNoAnswer
    {C L I : Type 0} (old : WorldOf C L I) (k t : ℕ) (outcome : Outcome)
    (new : WorldOf C L I) : Type 0 where
  pub there : HasOne old.terminals t
  pub none : HasNone old.answers k
  pub outcome_is : outcome ≡ came.NoSuchFrame
  pub same : new ≡ old

-- what comes of an answer that is to reach a terminal
abbrev pub ReachesTerminal : {C L I : Type 0} → WorldOf C L I → ℕ → ℕ → Outcome → WorldOf C L I
    → Type 0
ReachesTerminal old k t outcome new =
    FindsNoTerminal old t outcome new
    ⊎ (FindsNoAnswer old k t outcome new ⊎ IsDelivered old k t outcome new)
