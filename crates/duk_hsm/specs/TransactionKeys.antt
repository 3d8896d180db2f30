-- Key serial numbers that were opened: this project's own, over the transaction keys of ANSI
-- X9.24-1:2009 annex A.
use Rattle.std.specs.Prelude.{◌≡◌, ℕ, List, Option}
use Rattle.std.specs.Option.{option_map}
use Rattle.duk_tdes.specs.KeyBytes.{bytes_of}
use Rattle.duk_tdes.specs.declared.key.KeyBytes.{KeyBytes}
use Rattle.duk_tree.specs.Serial.{Serial}
use Rattle.duk_hsm.specs.Keys.{HsmKeys}
use Rattle.duk_hsm.specs.Commands.{IsTransactionKey}
use Rattle.duk_hsm.specs.declared.known.Known.{Known}

-- what the commands of a transaction need: its key, perhaps a zone key, and perhaps a MAC and a
-- translated PIN block that were made beforehand with these
pub record TransactionKeys : Type 0 where
  pub key : List ℕ
  pub zone : Option KeyBytes
  pub known : Option Known

-- a key serial number is opened under the held keys: with its transaction key and the zone key
pub record AreTransactionKeys (keys : HsmKeys) (ksn : Serial) (opened : TransactionKeys) : Type 0 where
  pub key_is : IsTransactionKey keys ksn opened.key
  pub zone_is : option_map bytes_of opened.zone ≡ keys.zone
