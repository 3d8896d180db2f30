-- What contracts see of the fields of a security module: this project's own.
use Rattle.std.specs.Prelude.{◌≡◌, ℕ, Option}
use Rattle.std.specs.Option.{option_map}
use Rattle.duk_tdes.specs.KeyBytes.{bytes_of, key_from}
use Rattle.duk_tdes.specs.declared.key.KeyBytes.{KeyBytes}
use Rattle.duk_hsm.specs.declared.hsm.Hsm.TheInside as hsm

-- a zone key has the length that it says, so that its bytes alone determine it
abbrev pub HasItsLength : Option KeyBytes → Type 0
HasItsLength zone = option_map key_from (option_map bytes_of zone) ≡ zone

-- the zone key of these fields has
abbrev pub HsmHasZone : {N : ℕ} → hsm.Inside N → Type 0
HsmHasZone fields = HasItsLength fields.zone
