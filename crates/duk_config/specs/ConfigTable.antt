-- The configuration that a table of TOML states: this project's own.
use Rattle.std.specs.Prelude.{◌≡◌, ◌&&◌, nat_le, ℕ, Bool, true, false, List, [], Option, Some, None, codes, length, if◌then◌else◌}
use Rattle.std.specs.Option.{option_and_then, option_map}
use Rattle.std.specs.Str.{bytes_eq}
use Rattle.duk_pin.specs.declared.card.Card.{Card}
use Rattle.toml.specs.Data.{Data, Members, as_array, as_str, get_member}
use Rattle.duk_config.specs.BaseKeys.{BaseKey}
use Rattle.duk_config.specs.ConfigKeys.{is_config_key}
use Rattle.duk_config.specs.Entries.{AreEntries, HaveOnePan, HaveOnePrefix, StatesBaseKey, StatesCard, values_of}
use Rattle.duk_config.specs.Names.{has_only}
use Rattle.duk_config.specs.Settings.{Settings}
use Rattle.duk_config.specs.Values.{double_key_at, number_at, tdes_key_at}

-- the values of an array, and none where there is nothing
abbrev pub values_or_none : Option Data → Option (List Data)
values_or_none None = Some []
values_or_none (Some value) = option_map values_of (as_array value)

-- the values, if there are at least and at most so many
abbrev pub counted : ℕ → ℕ → List Data → Option (List Data)
counted least most values =
    if nat_le least (length values) && nat_le (length values) most then Some values else None

-- the values of the array at a key, or none where the key is not there, if they are at least and at
-- most so many
abbrev pub values_at : ℕ → ℕ → List ℕ → Members → Option (List Data)
values_at least most name document =
    option_and_then (counted least most) (values_or_none (get_member name document))

-- whether stores of this name are disks, or memory
abbrev pub disk_of_text : List ℕ → Option Bool
disk_of_text text =
    if bytes_eq text (codes "disk") then Some true
    else (if bytes_eq text (codes "memory") then Some false else None)

-- whether the stores are disks: where nothing is said of them they are not
abbrev pub disk_of : Option Data → Option Bool
disk_of None = Some false
disk_of (Some value) = option_and_then disk_of_text (as_str value)

-- what is said of the stores
abbrev pub disk_in : Members → Option Bool
disk_in document = disk_of (get_member (codes "stores") document)

-- the values at bdk: 1 to 8
abbrev pub bdk_values : Members → Option (List Data)
bdk_values = values_at 1 8 (codes "bdk")

-- the values at card: at most 1000, and none where it is not there
abbrev pub card_values : Members → Option (List Data)
card_values = values_at 0 1000 (codes "card")

-- at bdk stand these base derivation keys, in this order, with prefixes that differ
pub record HasBaseKeys (document : Members) (bdks : List BaseKey) : Type 0 where
  pub values : List Data
  pub values_are : bdk_values document ≡ Some values
  pub entries : AreEntries StatesBaseKey HaveOnePrefix values bdks

-- at card stand these cards, in this order, with account numbers that differ
pub record HasCards (document : Members) (cards : List Card) : Type 0 where
  pub values : List Data
  pub values_are : card_values document ≡ Some values
  pub entries : AreEntries StatesCard HaveOnePan values cards

-- the table states this configuration: it has no other keys, and each says what it has to
pub record IsConfigOf (document : Members) (config : Settings) : Type 0 where
  pub no_other_key : has_only is_config_key document ≡ true
  pub lmk : tdes_key_at (codes "lmk") document ≡ Some config.lmk
  pub zone : tdes_key_at (codes "zone") document ≡ Some config.zone
  pub loading : double_key_at (codes "loading") document ≡ Some config.loading
  pub terminals : number_at 1 16 (codes "terminals") document ≡ Some config.terminals
  pub log : number_at 1 100000 (codes "log") document ≡ Some config.log
  pub stores : disk_in document ≡ Some config.disk
  pub bdk : HasBaseKeys document config.bdks
  pub card : HasCards document config.cards
