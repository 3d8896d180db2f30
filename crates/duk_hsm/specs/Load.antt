-- Loading a host security module: this project's own.
use Rattle.std.specs.Prelude.{◌≡◌, ◌<◌, ℕ, List, [], ◌∷◌, ◌++◌, Some, None, IsSome, length}
use Rattle.duk_block.specs.Faults.{IsFirstFault}
use Rattle.duk_hsm.specs.Keys.{HsmKeys, key_set_of}
use Rattle.duk_block.specs.KeyBlock.{WrapsFor, WrapsOther}
use Rattle.duk_block.specs.KeyUse.{IsDoubleKeyFor, IsKeyFor}
use Rattle.duk_block.specs.declared.fault.KeyFault.{KeyFault}
use Rattle.duk_block.specs.declared.fault.KeyFault.TheVariants as key_fault
use Rattle.duk_block.specs.declared.key_use.KeyUse.TheVariants.{BaseDerivationKey, PinEncryption}
use Rattle.duk_hsm.specs.declared.fault.HsmFault.{HsmFault}
use Rattle.duk_hsm.specs.declared.fault.HsmFault.TheVariants as fault
use Rattle.duk_hsm.specs.declared.key_set.KeySet.{KeySet}

-- the key set of a prefix and a base derivation key
abbrev pub key_set : List ℕ → List ℕ → KeySet
key_set prefix bdk = record { prefix = prefix; bdk = bdk }

-- the keys, and one key set more
abbrev pub with_key_set : HsmKeys → List ℕ → List ℕ → HsmKeys
with_key_set keys prefix bdk = record keys { key_sets = keys.key_sets ++ key_set prefix bdk ∷ [] }

-- the text is a key block, under the local master key, of a base derivation key
abbrev pub HasBaseKey : HsmKeys → List ℕ → Type 0
HasBaseKey keys text =
    (bdk : List ℕ) × WrapsFor (IsDoubleKeyFor BaseDerivationKey) keys.lmk text bdk

-- the text is a key block, under the local master key, of a zone key
abbrev pub HasZoneKey : HsmKeys → List ℕ → Type 0
HasZoneKey keys text = (zone : List ℕ) × WrapsFor (IsKeyFor PinEncryption) keys.lmk text zone

-- the base derivation key of the text is added for a prefix that had none
pub record IsBdkLoaded (old : HsmKeys) (prefix text : List ℕ) (new : HsmKeys) : Type 0 where
  pub bdk : List ℕ
  pub wrapped : WrapsFor (IsDoubleKeyFor BaseDerivationKey) old.lmk text bdk
  pub prefix_was_free : key_set_of old prefix ≡ None
  pub slot_was_free : length old.key_sets < 8
  pub keys_are : new ≡ with_key_set old prefix bdk

-- the zone key of the text is held, where none was
pub record IsZoneLoaded (old : HsmKeys) (text : List ℕ) (new : HsmKeys) : Type 0 where
  pub zone : List ℕ
  pub wrapped : WrapsFor (IsKeyFor PinEncryption) old.lmk text zone
  pub had_none : old.zone ≡ None
  pub keys_are : new ≡ record old { zone = Some zone }

-- the fault of a module where a key block has no key for it
abbrev pub hsm_fault_of : KeyFault → HsmFault
hsm_fault_of (key_fault.Block why) = fault.Block why
hsm_fault_of key_fault.WrongUse = fault.WrongUse

-- why no base derivation key is added
abbrev pub LoadBdkRefused : HsmKeys → List ℕ → List ℕ → HsmFault → Type 0
LoadBdkRefused keys prefix text (fault.Block why) = IsFirstFault text keys.lmk why
LoadBdkRefused keys prefix text fault.WrongUse =
    WrapsOther (IsDoubleKeyFor BaseDerivationKey) keys.lmk text
LoadBdkRefused keys prefix text fault.PrefixTaken =
    HasBaseKey keys text × IsSome (key_set_of keys prefix)
LoadBdkRefused keys prefix text fault.SlotsFull =
    HasBaseKey keys text × (key_set_of keys prefix ≡ None) × (length keys.key_sets ≡ 8)
LoadBdkRefused keys prefix text _ = ⊥

-- why no zone key is held
abbrev pub LoadZoneRefused : HsmKeys → List ℕ → HsmFault → Type 0
LoadZoneRefused keys text (fault.Block why) = IsFirstFault text keys.lmk why
LoadZoneRefused keys text fault.WrongUse = WrapsOther (IsKeyFor PinEncryption) keys.lmk text
LoadZoneRefused keys text fault.ZoneTaken = HasZoneKey keys text × IsSome keys.zone
LoadZoneRefused keys text _ = ⊥
