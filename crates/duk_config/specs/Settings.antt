-- What a configuration says: this project's own.
use Rattle.std.specs.Prelude.{◌≢◌, ◌≤◌, ℕ, Bool, List, AllPairs, length}
use Rattle.duk_pin.specs.declared.card.Card.{Card}
use Rattle.duk_tdes.specs.declared.key.KeyBytes.{KeyBytes}
use Rattle.duk_config.specs.BaseKeys.{BaseKey, bdk_prefix_of}

-- the local master key, the loading key, the zone key, the number of terminals, the room of the
-- log, whether the stores are disks, the base derivation keys and the cards
pub record Settings : Type 0 where
  pub lmk : KeyBytes
  pub loading : List ℕ
  pub zone : KeyBytes
  pub terminals : ℕ
  pub log : ℕ
  pub disk : Bool
  pub bdks : List BaseKey
  pub cards : List Card

abbrev pub settings : KeyBytes → List ℕ → KeyBytes → ℕ → ℕ → Bool → List BaseKey → List Card
    → Settings
settings lmk loading zone terminals log disk bdks cards =
    record {
      lmk = lmk;
      loading = loading;
      zone = zone;
      terminals = terminals;
      log = log;
      disk = disk;
      bdks = bdks;
      cards = cards;
    }

-- no two of the base derivation keys have one prefix
abbrev pub HaveDistinctPrefixes : List BaseKey → Type 0
HaveDistinctPrefixes = AllPairs (λ a b. bdk_prefix_of a ≢ bdk_prefix_of b)

-- no two of the cards have one account number
abbrev pub HaveDistinctPans : List Card → Type 0
HaveDistinctPans = AllPairs (λ a b. a.pan ≢ b.pan)

-- what holds of every configuration
pub record AreSettings (config : Settings) : Type 0 where
  pub a_terminal : 1 ≤ config.terminals
  pub sixteen_terminals_at_most : config.terminals ≤ 16
  pub some_room : 1 ≤ config.log
  pub room_at_most : config.log ≤ 100000
  pub a_base_key : 1 ≤ length config.bdks
  pub eight_base_keys_at_most : length config.bdks ≤ 8
  pub distinct_prefixes : HaveDistinctPrefixes config.bdks
  pub thousand_cards_at_most : length config.cards ≤ 1000
  pub distinct_pans : HaveDistinctPans config.cards
