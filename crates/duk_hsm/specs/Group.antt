-- Key serial numbers that are opened together: this project's own, over the transaction keys of
-- ANSI X9.24-1:2009 annex A.
use Rattle.std.specs.Prelude.{◌≡◌, ◌<◌, ◌≤◌, ℕ, List, Option, Result, Ok, Err, length, map, slice_index_or}
use Rattle.duk_group.specs.Numbers.{number_at}
use Rattle.duk_tree.specs.Serial.{Serial}
use Rattle.duk_hsm.specs.Keys.{HsmKeys}
use Rattle.duk_hsm.specs.Commands.{NoTransactionKey}
use Rattle.duk_hsm.specs.TransactionKeys.{AreTransactionKeys, TransactionKeys}
use Rattle.duk_hsm.specs.declared.fault.HsmFault.{HsmFault}
use Rattle.duk_hsm.specs.declared.fault.HsmFault.TheVariants.{NoKeySet}
use Rattle.duk_hsm.specs.declared.pin_block.PinBlock.{PinBlock}

-- a key serial number, and what its transaction is going to be asked first: to verify the MAC of a
-- text, and perhaps to translate a PIN block
pub record AskedNumber : Type 0 where
  pub ksn : Serial
  pub text : List ℕ
  pub pin : Option PinBlock

-- the key serial numbers, in their order
abbrev pub numbers_of : List AskedNumber → List Serial
numbers_of asked = map (λ one. one.ksn) asked

-- what was opened at each place
pub record OpenedPlaces : Type 0 where
  pub places : List (Result TransactionKeys HsmFault)

-- what stands at a place; past the last nothing is opened
abbrev pub place_at : List (Result TransactionKeys HsmFault) → ℕ → Result TransactionKeys HsmFault
place_at places place = slice_index_or places place (Err NoKeySet)

-- a key serial number is opened under the held keys, or refused: with its transaction key and the
-- zone key, or with the cause why it has none
abbrev pub IsOpened : HsmKeys → Serial → Result TransactionKeys HsmFault → Type 0
IsOpened keys ksn (Ok opened) = AreTransactionKeys keys ksn opened
IsOpened keys ksn (Err why) = NoTransactionKey keys ksn why

-- each of the numbers is, at its place, and behind the last of them nothing is opened
pub record AreOpened (keys : HsmKeys) (numbers : List Serial) (group : OpenedPlaces) : Type 0 where
  pub places_are : (place : ℕ) → place < length numbers → IsOpened keys (number_at numbers place) (place_at group.places place)
  pub past : (place : ℕ) → length numbers ≤ place → place_at group.places place ≡ Err NoKeySet
