-- The keys that a host security module holds for a configuration: this project's own.
use Rattle.std.specs.Prelude.{ℕ, List, Some, map}
use Rattle.duk_tdes.specs.KeyBytes.{bytes_of}
use Rattle.duk_hsm.specs.Keys.{HsmKeys}
use Rattle.duk_hsm.specs.Load.{key_set}
use Rattle.duk_hsm.specs.declared.key_set.KeySet.{KeySet}
use Rattle.duk_config.specs.BaseKeys.{BaseKey, bdk_key_of, bdk_prefix_of}
use Rattle.duk_config.specs.Settings.{Settings}

-- the key sets of base derivation keys, in their order
abbrev pub key_sets_of : List BaseKey → List KeySet
key_sets_of bdks = map (λ bdk. key_set (bdk_prefix_of bdk) (bdk_key_of bdk)) bdks

-- the local master key, the configuration's zone key, and the key sets of its base derivation keys
abbrev pub keys_for : List ℕ → Settings → HsmKeys
keys_for lmk config =
    record { lmk = lmk; zone = Some (bytes_of config.zone); key_sets = key_sets_of config.bdks }
