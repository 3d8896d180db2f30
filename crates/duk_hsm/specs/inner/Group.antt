-- What only private functions and proofs say beside `Group.antt`: this project's own.
use Rattle.std.specs.Prelude.{◌≡◌, ℕ, List, [], Option, Result, Ok, Err, None, Some, slice_index_or}
use Rattle.duk_tdes.specs.declared.key.KeyBytes.{KeyBytes}
use Rattle.duk_tree.specs.Derivation.{derived_key_of}
use Rattle.duk_tree.specs.Path.{IsUsable}
use Rattle.duk_tree.specs.Serial.{Serial, prefix_of}
use Rattle.duk_hsm.specs.Keys.{HsmKeys, key_set_of}
use Rattle.duk_hsm.specs.Commands.{NoTransactionKey}
use Rattle.duk_hsm.specs.Group.{AskedNumber}
use Rattle.duk_hsm.specs.TransactionKeys.{TransactionKeys}
use Rattle.duk_hsm.specs.declared.fault.HsmFault.{HsmFault}
use Rattle.duk_hsm.specs.declared.fault.HsmFault.TheVariants.{NoKeySet}

-- what is asked at a place
abbrev pub asked_at : List AskedNumber → ℕ → AskedNumber
asked_at asked place =
    slice_index_or asked place (record { ksn = record { iksn = 0; counter = 0 }; text = []; pin = None })

-- the base derivation key at a place, or why there is none
abbrev pub base_at : List (Result (List ℕ) HsmFault) → ℕ → Result (List ℕ) HsmFault
base_at bases place = slice_index_or bases place (Err NoKeySet)

-- the prepared key at a place
abbrev pub prepared_at : List TransactionKeys → ℕ → TransactionKeys
prepared_at prepared place = slice_index_or prepared place (record { key = []; zone = None; known = None })

-- the base derivation key from which the transaction key of a key serial number is derived
pub record IsBaseKey (keys : HsmKeys) (ksn : Serial) (bdk : List ℕ) : Type 0 where
  pub held : key_set_of keys (prefix_of ksn) ≡ Some bdk
  pub usable : IsUsable ksn.counter

-- that, or why there is none
abbrev pub IsBase : HsmKeys → Serial → Result (List ℕ) HsmFault → Type 0
IsBase keys ksn (Ok bdk) = IsBaseKey keys ksn bdk
IsBase keys ksn (Err why) = NoTransactionKey keys ksn why

-- the key that is derived from a base derivation key, beside a zone key
pub record IsDerivedKey (ksn : Serial) (zone : Option KeyBytes) (bdk : List ℕ) (opened : TransactionKeys) : Type 0 where
  pub key_is : opened.key ≡ derived_key_of bdk ksn
  pub zone_is : opened.zone ≡ zone

-- that, or the same refusal
abbrev pub IsDerived : Serial → Option KeyBytes → Result (List ℕ) HsmFault → Result TransactionKeys HsmFault → Type 0
IsDerived ksn held (Ok bdk) (Ok opened) = IsDerivedKey ksn held bdk opened
IsDerived ksn _ (Err why) (Err also) = why ≡ also
IsDerived ksn _ _ _ = ⊥
