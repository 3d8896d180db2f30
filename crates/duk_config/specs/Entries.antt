-- The entries that an array of TOML states, one for each of its values: this project's own.
use Rattle.std.specs.Prelude.{◌≡◌, ◌⊎◌, ℕ, List, [], ◌∷◌, Some, true, codes, Any, AllPairs}
use Rattle.std.specs.List.{AllZip}
use Rattle.duk_pin.specs.Pan.{IsPan}
use Rattle.duk_pin.specs.Pin.{IsPin}
use Rattle.duk_pin.specs.declared.card.Card.{Card}
use Rattle.toml.specs.Data.{Data, Members, table, Items, no_items, item}
use Rattle.duk_config.specs.BaseKeys.{BaseKey, bdk_key_of, bdk_prefix_of}
use Rattle.duk_config.specs.ConfigKeys.{is_bdk_key, is_card_key}
use Rattle.duk_io.specs.FirstFault.{IsFirstItem}
use Rattle.duk_config.specs.Names.{has_only}
use Rattle.duk_config.specs.Values.{double_key_at, number_at, prefix_at, text_at}

-- the values of an array
abbrev pub values_of : Items → List Data
values_of no_items = []
values_of (item value values) = value ∷ values_of values

-- the value is a table that states this base derivation key, and nothing else: a prefix of ten
-- hexadecimal digits, and a key of 32
pub record StatesBaseKey (value : Data) (bdk : BaseKey) : Type 0 where
  pub members : Members
  pub is_table : value ≡ table members
  pub nothing_else : has_only is_bdk_key members ≡ true
  pub prefix : prefix_at (codes "prefix") members ≡ Some (bdk_prefix_of bdk)
  pub key : double_key_at (codes "key") members ≡ Some (bdk_key_of bdk)

-- the value is a table that states this card, and nothing else: its account number, its PIN, and a
-- limit
pub record StatesCard (value : Data) (card : Card) : Type 0 where
  pub members : Members
  pub is_table : value ≡ table members
  pub nothing_else : has_only is_card_key members ≡ true
  pub pan : text_at (codes "pan") members ≡ Some card.pan
  pub pan_is : IsPan card.pan
  pub pin : text_at (codes "pin") members ≡ Some card.pin
  pub pin_is : IsPin card.pin
  pub limit : number_at 0 4294967295 (codes "limit") members ≡ Some card.limit

-- two base derivation keys for one prefix
abbrev pub HaveOnePrefix : BaseKey → BaseKey → Type 0
HaveOnePrefix a b = bdk_prefix_of a ≡ bdk_prefix_of b

-- two cards with one account number
abbrev pub HaveOnePan : Card → Card → Type 0
HaveOnePan a b = a.pan ≡ b.pan

module _ {Entry : Type 0} (States : Data → Entry → Type 0) (Repeats : Entry → Entry → Type 0) where
  -- the values state these entries, place by place, and none repeats another
  pub record AreEntries (values : List Data) (entries : List Entry) : Type 0 where
    pub each : AllZip States values entries
    pub distinct : AllPairs (λ a b. ¬ Repeats a b) entries

  -- the value states this entry, and the entry repeats one of these
  pub record StatesRepeated (earlier : List Entry) (value : Data) : Type 0 where
    pub entry : Entry
    pub stated : States value entry
    pub repeated : Any (λ other. Repeats other entry) earlier

  -- the value states no entry, or one that repeats one of these
  abbrev pub IsBadAfter : List Entry → Data → Type 0
  IsBadAfter earlier value = ((entry : Entry) → ¬ States value entry) ⊎ StatesRepeated earlier value

  -- the values state entries
  abbrev pub StateEntries : List Data → Type 0
  StateEntries values = (entries : List Entry) × AreEntries values entries

  -- these values state entries, after which this value is bad
  abbrev pub IsBadEntryAfter : List Data → Data → Type 0
  IsBadEntryAfter values value =
      (earlier : List Entry) × AreEntries values earlier × IsBadAfter earlier value

  -- the value at this place, counted from 1, is the first that is bad
  abbrev pub IsFirstBadEntry : List Data → ℕ → Type 0
  IsFirstBadEntry = IsFirstItem StateEntries IsBadEntryAfter
