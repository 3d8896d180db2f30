-- The keys of a configuration: this project's own.
use Rattle.std.specs.Prelude.{ℕ, Bool, List, [], ◌∷◌, codes}
use Rattle.std.specs.List.{list_any}
use Rattle.std.specs.Str.{bytes_eq}
use Rattle.duk_config.specs.declared.fault.ConfigKey.{ConfigKey}
use Rattle.duk_config.specs.declared.fault.ConfigKey.TheVariants as key

-- a key as it stands in the file
abbrev pub key_name : ConfigKey → List ℕ
key_name key.Lmk = codes "lmk"
key_name key.Zone = codes "zone"
key_name key.Loading = codes "loading"
key_name key.Terminals = codes "terminals"
key_name key.Log = codes "log"
key_name key.Stores = codes "stores"
key_name key.Bdk = codes "bdk"
key_name key.Card = codes "card"

-- one of these names
abbrev pub is_one_of : List (List ℕ) → List ℕ → Bool
is_one_of names name = list_any (bytes_eq name) names

-- a key of a configuration
abbrev pub is_config_key : List ℕ → Bool
is_config_key =
    is_one_of (
    codes "lmk"
    ∷ codes "zone"
    ∷ codes "loading"
    ∷ codes "terminals"
    ∷ codes "log"
    ∷ codes "stores"
    ∷ codes "bdk"
    ∷ codes "card"
    ∷ [])

-- a key of an entry of bdk
abbrev pub is_bdk_key : List ℕ → Bool
is_bdk_key = is_one_of (codes "prefix" ∷ codes "key" ∷ [])

-- a key of an entry of card
abbrev pub is_card_key : List ℕ → Bool
is_card_key = is_one_of (codes "pan" ∷ codes "pin" ∷ codes "limit" ∷ [])
