-- Terminals, host and network together: this project's own.
use Rattle.std.specs.Prelude.{◌≡◌, ℕ, List}
use Rattle.arrayvec.specs.ArrayVec.{ArrayVec}
use Rattle.duk_host.specs.Host.{HostMeaning, HostOf, host_meaning_of}
use Rattle.duk_host.specs.Judgement.{Decision}
use Rattle.duk_store.specs.Cell.{CellMeaning}
use Rattle.duk_stations.specs.Places.{ChangesOnly, HasNone}
use Rattle.duk_store.specs.Log.{LogMeaning}
use Rattle.duk_term.specs.Terminal.{TerminalOf}
use Rattle.duk_net.specs.declared.outcome.Outcome.{Outcome}
use Rattle.duk_net.specs.declared.outcome.Outcome.TheVariants.{NoSuchTerminal}
use Rattle.duk_stations.specs.declared.owner.Owner.{Owner}

-- a frame as it was sent, whose bytes are its items
abbrev pub Frame : Type 0
Frame = ArrayVec ℕ

-- what a world is: the host, the key under which terminals are loaded, the terminals, the frames of
-- all requests and of all answers that were ever sent, and which terminal owns which initial key
-- serial number
pub record WorldOf (C L I : Type 0) : Type 0 where
  pub host : HostOf L I
  pub loading : List ℕ
  pub terminals : List (TerminalOf C)
  pub requests : List Frame
  pub answers : List Frame
  pub owners : List Owner

-- what the cells of its terminals, and the log and the issuer of its host mean
pub record Meanings (C L I : Type 0) : Type 1 where
  pub cell : CellMeaning C
  pub host : HostMeaning L I

-- those meanings together
abbrev pub meanings_of : {C L I : Type 0} → CellMeaning C → LogMeaning L → (I → Decision)
    → Meanings C L I
meanings_of cell log decides = record { cell = cell; host = host_meaning_of log decides }

-- a terminal changes in this way, and all else stays
pub record ChangesTerminal
    {C L I : Type 0} (t : ℕ) (change : TerminalOf C → TerminalOf C → Type 0)
    (old new : WorldOf C L I) : Type 0 where
  pub terminal : ChangesOnly t change old.terminals new.terminals
  pub rest : new ≡ record old { terminals = new.terminals }

-- there is no terminal of this number
pub record FindsNoTerminal
    {C L I : Type 0} (old : WorldOf C L I) (t : ℕ) (outcome : Outcome)
    (new : WorldOf C L I) : Type 0 where
  pub none : HasNone old.terminals t
  pub outcome_is : outcome ≡ NoSuchTerminal
  pub same : new ≡ old
