-- A till is loaded: this project's own.
use Rattle.std.specs.Prelude.{◌≡◌, ◌⊎◌, ℕ, List, None, Ok, Err, replicate}
use Rattle.duk_hsm.specs.Commands.{IsIssued}
use Rattle.duk_hsm.specs.Keys.{key_set_of}
use Rattle.duk_tdes.specs.Tdes.{IsTdesKey}
use Rattle.duk_term.specs.Load.{Loading, loading_of}
use Rattle.duk_term.specs.declared.fault.TermFault.TheVariants as term_fault
use Rattle.duk_store.specs.Cell.{CellMeaning}
use Rattle.duk_till.specs.Lifetime.{IsCalled, Load}
use Rattle.duk_till.specs.Till.{TillOf}
use Rattle.duk_till.specs.declared.fault.TillFault.TheVariants as till_fault
use Rattle.duk_tree.specs.Serial.{iksn_prefix_of}
use Rattle.duk_books.specs.Books.{BooksOf, FindsNoTill, Meanings}
use Rattle.duk_stations.specs.Places.{ChangesOnly, HasOne}
use Rattle.duk_stations.specs.Owner.{BecomesOwner, IsElsewhere}
use Rattle.duk_books.specs.declared.outcome.Outcome.{Outcome}
use Rattle.duk_books.specs.declared.outcome.Outcome.TheVariants as came
use Rattle.duk_stations.specs.declared.owner.Owner.{Owner}

-- the till is there, and no other one owns the initial key serial number
pub record MayLoad {C B J I : Type 0} (old : BooksOf C B J I) (t iksn : ℕ) : Type 0 where
  pub there : HasOne old.tills t
  pub not_elsewhere : ¬ IsElsewhere old.owners iksn t

-- what the till is given: the key block that the host's security module issues under the loading
-- key, a TDES key, with six zero bytes of padding
pub record IsIssuedFor
    {C B J I : Type 0} (old : BooksOf C B J I) (iksn : ℕ) (asked : Loading) : Type 0 where
  pub block : List ℕ
  pub loading_is : IsTdesKey old.loading
  pub issued : IsIssued old.host.keys iksn old.loading (replicate 6 0) block
  pub asked_is : asked ≡ loading_of old.loading block iksn

-- what the till makes of it
abbrev pub TakesLoad : {C B : Type 0} → CellMeaning C → CellMeaning B → ℕ → Loading
    → Outcome → TillOf C B → TillOf C B → Type 0
TakesLoad cell book t asked (came.Loaded u iksn) before after =
    (u ≡ t) × (iksn ≡ asked.iksn) × IsCalled cell book (Load asked (Ok tt)) before after
TakesLoad cell book t asked (came.TillFaulted u why) before after =
    (u ≡ t) × IsCalled cell book (Load asked (Err why)) before after
TakesLoad cell book t asked _ before after = ⊥

-- how the owners change: the till becomes one where it was loaded, or where its terminal's cell
-- failed, since that may have kept the image
abbrev pub ChangesOwners : Outcome → List Owner → ℕ → ℕ → List Owner → Type 0
ChangesOwners (came.Loaded u loaded) old iksn t new = BecomesOwner old iksn t new
ChangesOwners (came.TillFaulted u (till_fault.Terminal (term_fault.Store why))) old iksn t new =
    BecomesOwner old iksn t new
ChangesOwners _ old iksn t new = new ≡ old

-- the till is given what was issued for it
pub record IsGiven
    {C B J I : Type 0} (m : Meanings C B J I) (old : BooksOf C B J I) (t iksn : ℕ)
    (outcome : Outcome) (new : BooksOf C B J I) : Type 0 where
  pub asked : Loading
  pub may : MayLoad old t iksn
  pub issued : IsIssuedFor old iksn asked
  pub till : ChangesOnly t (TakesLoad m.cell m.book t asked outcome) old.tills new.tills
  pub owners : ChangesOwners outcome old.owners iksn t new.owners
  pub rest : new ≡ record old { tills = new.tills; owners = new.owners }

-- another till owns the initial key serial number
pub record IsOwnedByOther
    {C B J I : Type 0} (old : BooksOf C B J I) (t iksn : ℕ) (outcome : Outcome)
    (new : BooksOf C B J I) : Type 0 where
  pub there : HasOne old.tills t
  pub elsewhere : IsElsewhere old.owners iksn t
  pub outcome_is : outcome ≡ came.IksnElsewhere t
  pub same : new ≡ old

-- the host's security module has no key set for the initial key serial number
pub record HasNoKeySet
    {C B J I : Type 0} (old : BooksOf C B J I) (t iksn : ℕ) (outcome : Outcome)
    (new : BooksOf C B J I) : Type 0 where
  pub may : MayLoad old t iksn
  pub no_key_set : key_set_of old.host.keys (iksn_prefix_of iksn) ≡ None
  pub outcome_is : outcome ≡ came.NoKeySet t
  pub same : new ≡ old

-- what comes of a load
abbrev pub Loads : {C B J I : Type 0} → Meanings C B J I → BooksOf C B J I → ℕ → ℕ → Outcome
    → BooksOf C B J I → Type 0
Loads m old t iksn outcome new =
    FindsNoTill old t outcome new
    ⊎ (IsOwnedByOther old t iksn outcome new
    ⊎ (HasNoKeySet old t iksn outcome new ⊎ IsGiven m old t iksn outcome new))
