-- The commands of a host security module: this project's own, over the keys of ANSI X9.24-1:2009
-- annex A.
use Rattle.std.specs.Prelude.{◌≡◌, ◌≢◌, ℕ, List, Some, None, IsSome, length}
use Rattle.duk_block.specs.KeyBlock.{FitsKeyBlock, IsWithinLimits, IsWrittenKeyBlock}
use Rattle.duk_block.specs.KeyUse.{header_for}
use Rattle.duk_block.specs.declared.key_use.KeyUse.TheVariants.{InitialKey}
use Rattle.duk_block.specs.declared.fault.BlockFault.{BlockFault}
use Rattle.duk_block.specs.declared.fault.BlockFault.TheVariants as block_fault
use Rattle.duk_mac.specs.Retail.{retail_of}
use Rattle.duk_pin.specs.PinBlock.{IsPinBlock, pin_block}
use Rattle.duk_tdes.specs.Tdes.{tdes_decrypted, tdes_encrypted}
use Rattle.duk_tree.specs.Derivation.{derived_key_of, initial_key_of, pin_key_of, request_key_of, response_key_of}
use Rattle.duk_tree.specs.Path.{IsUsable}
use Rattle.duk_tree.specs.Serial.{Serial, iksn_prefix_of, prefix_of}
use Rattle.duk_hsm.specs.Keys.{HsmKeys, key_set_of}
use Rattle.duk_hsm.specs.declared.fault.HsmFault.{HsmFault}
use Rattle.duk_hsm.specs.declared.fault.HsmFault.TheVariants as fault

-- the text is a key block, under the loading key, of the initial key that the held base derivation
-- key gives this terminal
pub record IsIssued (keys : HsmKeys) (iksn : ℕ) (loading padding text : List ℕ) : Type 0 where
  pub bdk : List ℕ
  pub held : key_set_of keys (iksn_prefix_of iksn) ≡ Some bdk
  pub fits : FitsKeyBlock 16 (length padding)
  pub limits : IsWithinLimits text
  pub written :
      IsWrittenKeyBlock text loading (header_for InitialKey) (initial_key_of bdk iksn) padding

-- the padding does not fit, and that is what is reported
pub record IsPadFault (padding : List ℕ) (why : BlockFault) : Type 0 where
  pub why_is : why ≡ block_fault.PadLength
  pub does_not_fit : ¬ FitsKeyBlock 16 (length padding)

-- why no initial key is issued
abbrev pub IssueRefused : HsmKeys → ℕ → List ℕ → HsmFault → Type 0
IssueRefused keys iksn padding fault.NoKeySet = key_set_of keys (iksn_prefix_of iksn) ≡ None
IssueRefused keys iksn padding (fault.Block why) =
    IsSome (key_set_of keys (iksn_prefix_of iksn)) × IsPadFault padding why
IssueRefused keys iksn padding _ = ⊥

-- the transaction key of a key serial number under the held keys: its key set is held, and its
-- counter numbers a transaction
pub record IsTransactionKey (keys : HsmKeys) (ksn : Serial) (key : List ℕ) : Type 0 where
  pub bdk : List ℕ
  pub held : key_set_of keys (prefix_of ksn) ≡ Some bdk
  pub usable : IsUsable ksn.counter
  pub key_is : key ≡ derived_key_of bdk ksn

-- there is one
abbrev pub HasTransactionKey : HsmKeys → Serial → Type 0
HasTransactionKey keys ksn = (key : List ℕ) × IsTransactionKey keys ksn key

-- its key set is held, and its counter numbers no transaction
pub record HasBadCounter (keys : HsmKeys) (ksn : Serial) : Type 0 where
  pub held : IsSome (key_set_of keys (prefix_of ksn))
  pub unusable : ¬ IsUsable ksn.counter

-- why a key serial number has no transaction key
abbrev pub NoTransactionKey : HsmKeys → Serial → HsmFault → Type 0
NoTransactionKey keys ksn fault.NoKeySet = key_set_of keys (prefix_of ksn) ≡ None
NoTransactionKey keys ksn fault.BadCounter = HasBadCounter keys ksn
NoTransactionKey keys ksn _ = ⊥

-- the retail MAC of a text under the transaction key's variant for requests
pub record IsRequestMac (keys : HsmKeys) (ksn : Serial) (text mac : List ℕ) : Type 0 where
  pub key : List ℕ
  pub key_is : IsTransactionKey keys ksn key
  pub mac_is : mac ≡ retail_of (request_key_of key) text

-- the retail MAC of a text under the transaction key's variant for responses
pub record IsReplyMac (keys : HsmKeys) (ksn : Serial) (text mac : List ℕ) : Type 0 where
  pub key : List ℕ
  pub key_is : IsTransactionKey keys ksn key
  pub mac_is : mac ≡ retail_of (response_key_of key) text

-- the transaction key makes another MAC
pub record IsOtherMac (keys : HsmKeys) (ksn : Serial) (text mac : List ℕ) : Type 0 where
  pub key : List ℕ
  pub key_is : IsTransactionKey keys ksn key
  pub mac_is_other : mac ≢ retail_of (request_key_of key) text

-- why a MAC is not verified
abbrev pub VerifyRefused : HsmKeys → Serial → List ℕ → List ℕ → HsmFault → Type 0
VerifyRefused keys ksn text mac fault.NoKeySet = key_set_of keys (prefix_of ksn) ≡ None
VerifyRefused keys ksn text mac fault.BadCounter = HasBadCounter keys ksn
VerifyRefused keys ksn text mac fault.BadMac = IsOtherMac keys ksn text mac
VerifyRefused keys ksn text mac _ = ⊥

-- the PIN in a block that is enciphered under the transaction key's variant for PINs
abbrev pub IsPinOf : List ℕ → List ℕ → List ℕ → List ℕ → Type 0
IsPinOf transaction_key block pan pin =
    IsPinBlock pin pan (tdes_decrypted (pin_key_of transaction_key) block)

-- the PIN block of the PIN in a block, enciphered under the zone key
pub record IsTranslated (keys : HsmKeys) (ksn : Serial) (block pan translated : List ℕ)
    : Type 0 where
  pub key : List ℕ
  pub zone : List ℕ
  pub pin : List ℕ
  pub key_is : IsTransactionKey keys ksn key
  pub zone_is : keys.zone ≡ Some zone
  pub pin_is : IsPinOf key block pan pin
  pub translated_is : translated ≡ tdes_encrypted zone (pin_block pin pan)

-- the block, deciphered, is that of no PIN under the PAN
pub record HasNoPin (keys : HsmKeys) (ksn : Serial) (block pan : List ℕ) : Type 0 where
  pub key : List ℕ
  pub key_is : IsTransactionKey keys ksn key
  pub zone_held : IsSome keys.zone
  pub no_pin : (pin : List ℕ) → ¬ IsPinOf key block pan pin

-- why a block is not translated
abbrev pub TranslateRefused : HsmKeys → Serial → List ℕ → List ℕ → HsmFault → Type 0
TranslateRefused keys ksn block pan fault.NoKeySet = key_set_of keys (prefix_of ksn) ≡ None
TranslateRefused keys ksn block pan fault.BadCounter = HasBadCounter keys ksn
TranslateRefused keys ksn block pan fault.NoZone = HasTransactionKey keys ksn × (keys.zone ≡ None)
TranslateRefused keys ksn block pan fault.BadPinBlock = HasNoPin keys ksn block pan
TranslateRefused keys ksn block pan _ = ⊥
