-- A terminal of a world begins a transaction: this project's own.
use Rattle.std.specs.Prelude.{◌≡◌, ◌+◌, ◌++◌, ◌∷◌, [], ℕ, length}
use Rattle.duk_store.specs.Cell.{CellMeaning}
use Rattle.duk_term.specs.Begin.{BeginRefused, IsBegunUnder}
use Rattle.duk_term.specs.Terminal.{TerminalOf}
use Rattle.duk_term.specs.declared.fault.TermFault.{TermFault}
use Rattle.duk_term.specs.declared.purchase.Purchase.{Purchase}
use Rattle.duk_tree.specs.Serial.{Serial}
use Rattle.duk_net.specs.World.{Frame, Meanings, ChangesTerminal, WorldOf}
use Rattle.duk_stations.specs.Places.{ChangesOnly, HasNone}
use Rattle.duk_net.specs.declared.outcome.Outcome.{Outcome}
use Rattle.duk_net.specs.declared.outcome.Outcome.TheVariants as outcome

-- a request is sent
pub record IsSent
    {C L I : Type 0} (m : Meanings C L I) (old : WorldOf C L I) (t : ℕ) (purchase : Purchase)
    (k : ℕ) (ksn : Serial) (new : WorldOf C L I) : Type 0 where
  pub frame : Frame
  pub terminal : ChangesOnly t (IsBegunUnder m.cell purchase ksn frame.items) old.terminals new.terminals
  pub number : k ≡ length old.requests + 1
  pub rest : new ≡ record old { terminals = new.terminals; requests = old.requests ++ frame ∷ [] }

-- the terminal refuses to begin
abbrev pub RefusesBegin : {C : Type 0} → CellMeaning C → TermFault → TerminalOf C → TerminalOf C
    → Type 0
RefusesBegin meaning why before after = BeginRefused meaning before after why

-- what comes of a begin
abbrev pub Begins : {C L I : Type 0} → Meanings C L I → WorldOf C L I → ℕ → Purchase → Outcome
    → WorldOf C L I → Type 0
Begins m old t purchase outcome.NoSuchTerminal new = HasNone old.terminals t × (new ≡ old)
Begins m old t purchase (outcome.Sent u k ksn) new = (u ≡ t) × IsSent m old t purchase k ksn new
Begins m old t purchase (outcome.TermFaulted u why) new =
    (u ≡ t) × ChangesTerminal t (RefusesBegin m.cell why) old new
Begins m old t purchase _ new = ⊥
