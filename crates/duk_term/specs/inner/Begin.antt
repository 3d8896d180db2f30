-- What only private functions and proofs say beside `Begin.antt`: this project's own.
use Rattle.std.specs.Prelude.{◌≡◌}
use Rattle.duk_term.specs.declared.fault.TermFault.{TermFault}
use Rattle.duk_term.specs.declared.fault.TermFault.TheVariants as fault
use Rattle.duk_term.specs.declared.state.State.{State}
use Rattle.duk_term.specs.declared.state.State.TheVariants.{Stopped, Empty}
use Rattle.duk_term.specs.Begin.{IsSpent}

-- why no number is taken from a state
abbrev pub IsNotTaken : State → TermFault → Type 0
IsNotTaken state fault.Stopped = state ≡ Stopped
IsNotTaken state fault.NotLoaded = state ≡ Empty
IsNotTaken state fault.Spent = IsSpent state
IsNotTaken state _ = ⊥
