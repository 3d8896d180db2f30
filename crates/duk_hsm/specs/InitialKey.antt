-- The initial key of a terminal (ANSI X9.24-1:2009 annex A), from the keys that a host security
-- module holds.
use Rattle.std.specs.Prelude.{◌≡◌, ℕ, List, Some}
use Rattle.duk_hsm.specs.Keys.{HsmKeys, key_set_of}
use Rattle.duk_tree.specs.Serial.{iksn_prefix_of}
use Rattle.duk_tdes.specs.Key.{IsKey}
use Rattle.duk_tree.specs.Derivation.{initial_key_of}

-- the initial key that the held base derivation key gives a terminal
pub record IsInitialKeyOf (keys : HsmKeys) (iksn : ℕ) (initial : List ℕ) : Type 0 where
  pub bdk : List ℕ
  pub held : key_set_of keys (iksn_prefix_of iksn) ≡ Some bdk
  pub initial_is : initial ≡ initial_key_of bdk iksn
  pub is_key : IsKey 16 initial
