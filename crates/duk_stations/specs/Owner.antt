-- Who owns an initial key serial number: this project's own.
use Rattle.std.specs.Prelude.{◌≡◌, ◌≢◌, ◌⊎◌, ◌++◌, ◌∷◌, [], ℕ, List, Contains}
use Rattle.duk_stations.specs.declared.owner.Owner.{Owner}

-- a station owns an initial key serial number: the owners list it with that number
abbrev pub Owns : List Owner → ℕ → ℕ → Type 0
Owns owners iksn t = Contains owners (record { iksn = iksn; t = t })

-- a station owns it, and no other does
pub record IsOwner (owners : List Owner) (iksn t : ℕ) : Type 0 where
  pub owns : Owns owners iksn t
  pub alone : (other : ℕ) → Owns owners iksn other → other ≡ t

-- a station other than this one owns it
pub record IsElsewhere (owners : List Owner) (iksn t : ℕ) : Type 0 where
  pub owner : ℕ
  pub owns : Owns owners iksn owner
  pub other : owner ≢ t

-- no station owned it, and this one joins the owners, after them
pub record JoinsOwners (old : List Owner) (iksn t : ℕ) (new : List Owner) : Type 0 where
  pub free : (owner : ℕ) → ¬ Owns old iksn owner
  pub joins : new ≡ old ++ record { iksn = iksn; t = t } ∷ []

-- some station owned it, and the owners stay
pub record KeepsOwners (old : List Owner) (iksn : ℕ) (new : List Owner) : Type 0 where
  pub owner : ℕ
  pub owns : Owns old iksn owner
  pub same : new ≡ old

-- how the owners change where a station was loaded with an initial key serial number
abbrev pub BecomesOwner : List Owner → ℕ → ℕ → List Owner → Type 0
BecomesOwner old iksn t new = JoinsOwners old iksn t new ⊎ KeepsOwners old iksn new
