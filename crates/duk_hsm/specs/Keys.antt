-- The keys that a host security module holds: this project's own, over the key serial numbers of
-- ANSI X9.24-1:2009 annex A.
use Rattle.std.specs.Prelude.{◌≡◌, ◌≢◌, ◌≤◌, ℕ, List, Option, Some, AllPairs, find, length}
use Rattle.std.specs.Option.{option_map}
use Rattle.std.specs.Str.{bytes_eq}
use Rattle.duk_tdes.specs.Key.{IsKey}
use Rattle.duk_tdes.specs.Tdes.{IsTdesKey}
use Rattle.duk_hsm.specs.declared.key_set.KeySet.{KeySet}

-- what a host security module holds: its local master key, perhaps a zone key, and key sets, each
-- of which is a base derivation key and the first five bytes of the key serial numbers that it is
-- for
pub record HsmKeys : Type 0 where
  pub lmk : List ℕ
  pub zone : Option (List ℕ)
  pub key_sets : List KeySet

-- the base derivation key of the key set with this prefix, if there is one
abbrev pub bdk_with : List ℕ → List KeySet → Option (List ℕ)
bdk_with prefix key_sets =
    option_map (λ set. set.bdk) (find (λ set. bytes_eq set.prefix prefix) key_sets)

-- the base derivation key that is held for this prefix, if one is
abbrev pub key_set_of : HsmKeys → List ℕ → Option (List ℕ)
key_set_of keys prefix = bdk_with prefix keys.key_sets

-- what holds of the keys at all times: there are at most eight key sets, no two of them have one
-- prefix, and each key has its length
pub record AreHsmKeys (keys : HsmKeys) : Type 0 where
  pub eight_at_most : length keys.key_sets ≤ 8
  pub different : AllPairs (λ a b. a.prefix ≢ b.prefix) keys.key_sets
  pub bdks : (prefix bdk : List ℕ) → key_set_of keys prefix ≡ Some bdk → IsKey 16 bdk
  pub zone_key : (zone : List ℕ) → keys.zone ≡ Some zone → IsTdesKey zone
