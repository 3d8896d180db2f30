-- A terminal of a world is loaded: this project's own.
use Rattle.std.specs.Prelude.{◌≡◌, ◌⊎◌, ℕ, List, None, replicate}
use Rattle.duk_hsm.specs.Commands.{IsIssued}
use Rattle.duk_hsm.specs.Keys.{key_set_of}
use Rattle.duk_tdes.specs.Tdes.{IsTdesKey}
use Rattle.duk_tree.specs.Serial.{iksn_prefix_of}
use Rattle.duk_store.specs.Cell.{CellMeaning}
use Rattle.duk_term.specs.Load.{IsTerminalLoaded, LoadRefused, Loading, loading_of}
use Rattle.duk_term.specs.Terminal.{TerminalOf}
use Rattle.duk_term.specs.declared.fault.TermFault.TheVariants.{Store}
use Rattle.duk_stations.specs.Owner.{BecomesOwner, IsElsewhere}
use Rattle.duk_net.specs.World.{FindsNoTerminal, Meanings, WorldOf}
use Rattle.duk_stations.specs.Places.{ChangesOnly, HasOne}
use Rattle.duk_stations.specs.declared.owner.Owner.{Owner}
use Rattle.duk_net.specs.declared.outcome.Outcome.{Outcome}
use Rattle.duk_net.specs.declared.outcome.Outcome.TheVariants as came

-- the terminal is there, and no other one owns the initial key serial number
pub record MayLoad {C L I : Type 0} (old : WorldOf C L I) (t iksn : ℕ) : Type 0 where
  pub there : HasOne old.terminals t
  pub not_elsewhere : ¬ IsElsewhere old.owners iksn t

-- what the terminal is given: the key block that the host's security module issues under the
-- loading key, a TDES key, with six zero bytes of padding
pub record IsIssuedFor
    {C L I : Type 0} (old : WorldOf C L I) (iksn : ℕ) (asked : Loading) : Type 0 where
  pub block : List ℕ
  pub loading_is : IsTdesKey old.loading
  pub issued : IsIssued old.host.keys iksn old.loading (replicate 6 0) block
  pub asked_is : asked ≡ loading_of old.loading block iksn

-- what the terminal makes of it
abbrev pub TakesLoad : {C : Type 0} → CellMeaning C → ℕ → Loading → Outcome → TerminalOf C
    → TerminalOf C → Type 0
TakesLoad meaning t asked (came.Loaded u iksn) before after =
    (u ≡ t) × (iksn ≡ asked.iksn) × IsTerminalLoaded meaning asked before after
TakesLoad meaning t asked (came.TermFaulted u why) before after =
    (u ≡ t) × LoadRefused meaning asked before after why
TakesLoad meaning t asked _ before after = ⊥

-- how the owners change: the terminal becomes one where it was loaded, or where its store failed,
-- since that may have kept the image
abbrev pub ChangesOwners : Outcome → List Owner → ℕ → ℕ → List Owner → Type 0
ChangesOwners (came.Loaded u loaded) old iksn t new = BecomesOwner old iksn t new
ChangesOwners (came.TermFaulted u (Store why)) old iksn t new = BecomesOwner old iksn t new
ChangesOwners _ old iksn t new = new ≡ old

-- the terminal is given what was issued for it
pub record IsGiven
    {C L I : Type 0} (m : Meanings C L I) (old : WorldOf C L I) (t iksn : ℕ) (outcome : Outcome)
    (new : WorldOf C L I) : Type 0 where
  pub asked : Loading
  pub may : MayLoad old t iksn
  pub issued : IsIssuedFor old iksn asked
  pub terminal : ChangesOnly t (TakesLoad m.cell t asked outcome) old.terminals new.terminals
  pub owners : ChangesOwners outcome old.owners iksn t new.owners
  pub rest : new ≡ record old { terminals = new.terminals; owners = new.owners }

-- another terminal owns the initial key serial number
pub record IsOwnedByOther
    {C L I : Type 0} (old : WorldOf C L I) (t iksn : ℕ) (outcome : Outcome)
    (new : WorldOf C L I) : Type 0 where
  pub there : HasOne old.terminals t
  pub elsewhere : IsElsewhere old.owners iksn t
  pub outcome_is : outcome ≡ came.IksnElsewhere t
  pub same : new ≡ old

-- the host's security module has no key set for the initial key serial number
pub record HasNoKeySet
    {C L I : Type 0} (old : WorldOf C L I) (t iksn : ℕ) (outcome : Outcome)
    (new : WorldOf C L I) : Type 0 where
  pub may : MayLoad old t iksn
  pub no_key_set : key_set_of old.host.keys (iksn_prefix_of iksn) ≡ None
  pub outcome_is : outcome ≡ came.NoKeySet t
  pub same : new ≡ old

-- what comes of a load
abbrev pub Loads : {C L I : Type 0} → Meanings C L I → WorldOf C L I → ℕ → ℕ → Outcome
    → WorldOf C L I → Type 0
Loads m old t iksn outcome new =
    FindsNoTerminal old t outcome new
    ⊎ (IsOwnedByOther old t iksn outcome new
    ⊎ (HasNoKeySet old t iksn outcome new ⊎ IsGiven m old t iksn outcome new))
