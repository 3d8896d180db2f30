-- Why a table of TOML is no configuration: this project's own.
use Rattle.std.specs.Prelude.{◌≡◌, ℕ, true, List, Some, None, IsSome, codes, string_bytes}
use Rattle.duk_pin.specs.declared.card.Card.{Card}
use Rattle.toml.specs.Data.{Data, Members}
use Rattle.duk_config.specs.BaseKeys.{BaseKey}
use Rattle.duk_config.specs.declared.fault.ConfigKey.{ConfigKey}
use Rattle.duk_config.specs.declared.fault.ConfigKey.TheVariants as key
use Rattle.duk_config.specs.declared.fault.ScriptFault.{ScriptFault}
use Rattle.duk_config.specs.declared.fault.ScriptFault.TheVariants as fault
use Rattle.duk_config.specs.ConfigKeys.{is_config_key}
use Rattle.duk_config.specs.ConfigTable.{HasBaseKeys, HasCards, bdk_values, card_values, disk_in}
use Rattle.duk_config.specs.Entries.{HaveOnePan, HaveOnePrefix, IsFirstBadEntry, StatesBaseKey, StatesCard}
use Rattle.duk_io.specs.FirstFault.{AllBefore}
use Rattle.duk_config.specs.Names.{has_only}
use Rattle.duk_config.specs.ShownKey.{ShowsUnknown}
use Rattle.duk_config.specs.Values.{double_key_at, number_at, tdes_key_at}

-- the key has a right value, and right entries
abbrev pub IsRight : Members → ConfigKey → Type 0
IsRight document key.Lmk = IsSome (tdes_key_at (codes "lmk") document)
IsRight document key.Zone = IsSome (tdes_key_at (codes "zone") document)
IsRight document key.Loading = IsSome (double_key_at (codes "loading") document)
IsRight document key.Terminals = IsSome (number_at 1 16 (codes "terminals") document)
IsRight document key.Log = IsSome (number_at 1 100000 (codes "log") document)
IsRight document key.Stores = IsSome (disk_in document)
IsRight document key.Bdk = (bdks : List BaseKey) × HasBaseKeys document bdks
IsRight document key.Card = (cards : List Card) × HasCards document cards

-- the key is missing, or its value is wrong or has a wrong number of entries
abbrev pub IsWrong : Members → ConfigKey → Type 0
IsWrong document key.Lmk = tdes_key_at (codes "lmk") document ≡ None
IsWrong document key.Zone = tdes_key_at (codes "zone") document ≡ None
IsWrong document key.Loading = double_key_at (codes "loading") document ≡ None
IsWrong document key.Terminals = number_at 1 16 (codes "terminals") document ≡ None
IsWrong document key.Log = number_at 1 100000 (codes "log") document ≡ None
IsWrong document key.Stores = disk_in document ≡ None
IsWrong document key.Bdk = bdk_values document ≡ None
IsWrong document key.Card = card_values document ≡ None

-- the key has values, and this one of them, counted from 1, is the first that states no entry or a
-- repeated one
abbrev pub HasBadEntry : Members → ConfigKey → ℕ → Type 0
HasBadEntry document key.Bdk place =
    (values : List Data) × (bdk_values document ≡ Some values)
    × IsFirstBadEntry StatesBaseKey HaveOnePrefix values place
HasBadEntry document key.Card place =
    (values : List Data) × (card_values document ≡ Some values)
    × IsFirstBadEntry StatesCard HaveOnePan values place
HasBadEntry document _ place = ⊥

-- the order in which the keys are reported
abbrev pub key_rank : ConfigKey → ℕ
key_rank key.Lmk = 0
key_rank key.Zone = 1
key_rank key.Loading = 2
key_rank key.Terminals = 3
key_rank key.Log = 4
key_rank key.Stores = 5
key_rank key.Bdk = 6
key_rank key.Card = 7

-- there is no unknown key, and each key that is reported before this one is right
pub record IsRightBefore (document : Members) (key : ConfigKey) : Type 0 where
  pub no_other_key : has_only is_config_key document ≡ true
  pub earlier_right : AllBefore key_rank (IsRight document) key

-- the first fault of a table; any may be refused as out of memory
abbrev pub IsFirstTableFault : Members → ScriptFault → Type 0
IsFirstTableFault document (fault.UnknownKey text) = ShowsUnknown document (string_bytes text)
IsFirstTableFault document (fault.BadKey key) = IsRightBefore document key × IsWrong document key
IsFirstTableFault document (fault.BadEntry key place) =
    IsRightBefore document key × HasBadEntry document key place
IsFirstTableFault document fault.NoMemory = Unit {0}
IsFirstTableFault document _ = ⊥

-- the two are one fault; of the text of an unknown key only its bytes count
abbrev pub AreOneFault : ScriptFault → ScriptFault → Type 0
AreOneFault (fault.UnknownKey a) (fault.UnknownKey b) = string_bytes a ≡ string_bytes b
AreOneFault a b = a ≡ b
