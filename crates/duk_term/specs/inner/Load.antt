-- What only private functions and proofs say beside `Load.antt`: this project's own.
use Rattle.std.specs.Prelude.{◌≡◌, ℕ}
use Rattle.duk_term.specs.declared.fault.TermFault.{TermFault}
use Rattle.duk_term.specs.declared.fault.TermFault.TheVariants as fault
use Rattle.duk_term.specs.declared.state.State.{State}
use Rattle.duk_term.specs.declared.state.State.TheVariants.{Stopped}
use Rattle.duk_term.specs.Load.{HasHad, HasEightPast}

-- why a terminal in this state may not be given an initial key serial number, the first that holds
-- of these
abbrev pub MayNotTake : State → ℕ → TermFault → Type 0
MayNotTake state iksn fault.Stopped = state ≡ Stopped
MayNotTake state iksn fault.IksnSpent = HasHad state iksn
MayNotTake state iksn fault.LoadsSpent = (¬ HasHad state iksn) × HasEightPast state
MayNotTake state iksn _ = ⊥
