-- What came of the events of a call: this project's own.
use Rattle.std.specs.Prelude.{◌≡◌, ◌++◌, List, All}
use Rattle.duk_books.specs.declared.outcome.Outcome.{Outcome}

-- this holds of the outcomes that a call put at the end of a list
pub record GainedMeet (P : List Outcome → Type 0) (before after : List Outcome) : Type 0 where
  pub outcomes : List Outcome
  pub gained : after ≡ before ++ outcomes
  pub holds : P outcomes

-- each of those outcomes is such a one
abbrev pub EachGained : (Outcome → Type 0) → List Outcome → List Outcome → Type 0
EachGained P before after = GainedMeet (All P) before after
