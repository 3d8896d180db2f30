-- What only private functions and proofs say beside `Keys.antt`: this project's own.
use Rattle.std.specs.Prelude.{ℕ, List, Option}
use Rattle.std.specs.Option.{option_map}
use Rattle.duk_tdes.specs.KeyBytes.{bytes_of}
use Rattle.duk_tdes.specs.declared.key.KeyBytes.{KeyBytes}
use Rattle.duk_hsm.specs.declared.key_set.KeySet.{KeySet}
use Rattle.duk_hsm.specs.Keys.{HsmKeys}

-- the keys held, where the zone key is one of either length
abbrev pub held_keys : List ℕ → Option KeyBytes → List KeySet → HsmKeys
held_keys lmk zone key_sets =
    record { lmk = lmk; zone = option_map bytes_of zone; key_sets = key_sets }
