-- The keys of a module: entries are loaded in one way at most, or in none.
use Rattle.std.proofs.Common.{◌≡◌, ◌<◌, ◌∙◌, ℕ, zero, suc, List, Some, None, Option, ap, arith, inl, inr, refl, subst, sym}
use Rattle.std.specs.Option.{IsSome}
use Rattle.std.proofs.lemmas.Bool.{cases_lt, false≢true}
use Rattle.duk_block.specs.Faults.{IsFirstFault}
use Rattle.duk_block.specs.KeyBlock.{IsKeyBlock, Wraps, WrapsFor}
use Rattle.duk_block.specs.KeyUse.{HasNoKeyFor, IsDoubleKeyFor, IsKeyFor}
use Rattle.duk_block.specs.declared.fault.BlockFault.{BlockFault}
use Rattle.duk_block.specs.declared.fault.KeyFault.{KeyFault}
use Rattle.duk_block.specs.declared.fault.KeyFault.TheVariants as key_fault
use Rattle.duk_block.specs.declared.header.Header.{Header}
use Rattle.duk_block.specs.declared.key_use.KeyUse.TheVariants.{BaseDerivationKey, PinEncryption}
use Rattle.duk_hsm.specs.Keys.{HsmKeys, key_set_of}
use Rattle.duk_hsm.specs.Load.{IsBdkLoaded, IsZoneLoaded, LoadBdkRefused, LoadZoneRefused, with_key_set}
use Rattle.duk_hsm.specs.declared.fault.HsmFault.{HsmFault}
use Rattle.duk_hsm.specs.declared.fault.HsmFault.TheVariants as hsm
use Rattle.duk_tdes.specs.Tdes.{IsTdesKey}
use Rattle.duk_calls.specs.Modules.{AreLoaded, IsEntryLoaded, IsLoadRefused, IsModule, block_in, entry_at, fault_of_hsm, lmk_in, prefix_in}
use Rattle.duk_calls.specs.inner.Modules.{MayNotBeLoaded}
use Rattle.duk_calls.specs.declared.fault.Fault.{Fault}

-- a text has one reading at most, and none where it has a fault
pub record Readings : Type 0 where
  pub one : (text protection_key : List ℕ) (header other_header : Header) (key other_key : List ℕ)
      → IsTdesKey protection_key → IsKeyBlock text protection_key header key
      → IsKeyBlock text protection_key other_header other_key
      → (header ≡ other_header) × (key ≡ other_key)
  pub none : (protection_key text : List ℕ) (header : Header) (key : List ℕ) (fault : BlockFault)
      → IsTdesKey protection_key → Wraps protection_key text header key
      → ¬ IsFirstFault text protection_key fault

-- a text has one key for a use
pub one_key : (readings : Readings) (IsForUse : Header → List ℕ → Type 0) (lmk text key other : List ℕ) → IsTdesKey lmk
    → WrapsFor IsForUse lmk text key → WrapsFor IsForUse lmk text other → key ≡ other
one_key readings IsForUse lmk text key other tdes one two =
    (readings.one text lmk one.header two.header key other tdes one.wraps.block two.wraps.block).1

-- and is not refused for that use
pub no_refusal : (readings : Readings) (IsForUse : Header → List ℕ → Type 0) (lmk text key : List ℕ) (why : KeyFault) → IsTdesKey lmk
    → WrapsFor IsForUse lmk text key → ¬ HasNoKeyFor IsForUse lmk text why
no_refusal readings IsForUse lmk text key (key_fault.Block fault) tdes one refused =
    readings.none lmk text one.header key fault tdes one.wraps refused
no_refusal readings IsForUse lmk text key key_fault.WrongUse tdes one refused =
    let same = readings.one text lmk one.header refused.header key refused.key tdes one.wraps.block refused.wraps.block in
    refused.use_is_other (subst (λ header. IsForUse header refused.key) same.0 (subst (λ key. IsForUse one.header key) same.1 one.use_is))

-- none is not some
not_some : {T : Type 0} (option : Option T) → option ≡ None → ¬ IsSome option
not_some option none some = false≢true (subst IsSome none some)

-- what is loaded is not refused
pub bdk_not_refused : (readings : Readings) (keys after : HsmKeys) (prefix text : List ℕ) (why : HsmFault) → IsTdesKey keys.lmk
    → IsBdkLoaded keys prefix text after → ¬ LoadBdkRefused keys prefix text why
bdk_not_refused readings keys after prefix text (hsm.Block fault) tdes loaded refused =
    no_refusal readings (IsDoubleKeyFor BaseDerivationKey) keys.lmk text loaded.bdk (key_fault.Block fault) tdes loaded.wrapped refused
bdk_not_refused readings keys after prefix text hsm.WrongUse tdes loaded refused =
    no_refusal readings (IsDoubleKeyFor BaseDerivationKey) keys.lmk text loaded.bdk key_fault.WrongUse tdes loaded.wrapped refused
bdk_not_refused readings keys after prefix text hsm.PrefixTaken tdes loaded refused =
    not_some (key_set_of keys prefix) loaded.prefix_was_free refused.1
bdk_not_refused readings keys after prefix text hsm.SlotsFull tdes loaded refused =
    absurd (omega (arith, loaded.slot_was_free, refused.2))
bdk_not_refused readings keys after prefix text hsm.ZoneTaken tdes loaded refused = refused
bdk_not_refused readings keys after prefix text hsm.NoKeySet tdes loaded refused = refused
bdk_not_refused readings keys after prefix text hsm.NoZone tdes loaded refused = refused
bdk_not_refused readings keys after prefix text hsm.BadCounter tdes loaded refused = refused
bdk_not_refused readings keys after prefix text hsm.BadMac tdes loaded refused = refused
bdk_not_refused readings keys after prefix text hsm.BadPinBlock tdes loaded refused = refused

pub zone_not_refused : (readings : Readings) (keys after : HsmKeys) (text : List ℕ) (why : HsmFault) → IsTdesKey keys.lmk
    → IsZoneLoaded keys text after → ¬ LoadZoneRefused keys text why
zone_not_refused readings keys after text (hsm.Block fault) tdes loaded refused =
    no_refusal readings (IsKeyFor PinEncryption) keys.lmk text loaded.zone (key_fault.Block fault) tdes loaded.wrapped refused
zone_not_refused readings keys after text hsm.WrongUse tdes loaded refused =
    no_refusal readings (IsKeyFor PinEncryption) keys.lmk text loaded.zone key_fault.WrongUse tdes loaded.wrapped refused
zone_not_refused readings keys after text hsm.PrefixTaken tdes loaded refused = refused
zone_not_refused readings keys after text hsm.SlotsFull tdes loaded refused = refused
zone_not_refused readings keys after text hsm.ZoneTaken tdes loaded refused =
    not_some keys.zone loaded.had_none refused.1
zone_not_refused readings keys after text hsm.NoKeySet tdes loaded refused = refused
zone_not_refused readings keys after text hsm.NoZone tdes loaded refused = refused
zone_not_refused readings keys after text hsm.BadCounter tdes loaded refused = refused
zone_not_refused readings keys after text hsm.BadMac tdes loaded refused = refused
zone_not_refused readings keys after text hsm.BadPinBlock tdes loaded refused = refused

-- loading an entry leaves one set of keys
pub entry_one : (readings : Readings) (entry : List ℕ) (keys one other : HsmKeys) → IsTdesKey keys.lmk
    → IsEntryLoaded entry keys one → IsEntryLoaded entry keys other → one ≡ other
entry_one readings entry keys one other tdes (inl a) (inl b) =
    a.1.keys_are
    ∙ ap (λ bdk. with_key_set keys (prefix_in entry) bdk) (one_key readings (IsDoubleKeyFor BaseDerivationKey) keys.lmk (block_in entry) a.1.bdk b.1.bdk tdes a.1.wrapped b.1.wrapped)
    ∙ sym b.1.keys_are
entry_one readings entry keys one other tdes (inr a) (inr b) =
    a.1.keys_are
    ∙ ap (λ zone. record keys { zone = Some zone }) (one_key readings (IsKeyFor PinEncryption) keys.lmk (block_in entry) a.1.zone b.1.zone tdes a.1.wrapped b.1.wrapped)
    ∙ sym b.1.keys_are
entry_one readings entry keys one other tdes (inl a) (inr b) = absurd (omega (arith, a.0, b.0))
entry_one readings entry keys one other tdes (inr a) (inl b) = absurd (omega (arith, a.0, b.0))

-- and the local master key
pub entry_lmk : (entry : List ℕ) (keys after : HsmKeys) → IsEntryLoaded entry keys after → after.lmk ≡ keys.lmk
entry_lmk entry keys after (inl a) = ap (λ (keys : HsmKeys). keys.lmk) a.1.keys_are
entry_lmk entry keys after (inr a) = ap (λ (keys : HsmKeys). keys.lmk) a.1.keys_are

pub loaded_lmk : (image : List ℕ) (count : ℕ) (keys : HsmKeys) → AreLoaded image count keys → keys.lmk ≡ lmk_in image
loaded_lmk image zero keys are = ap (λ (keys : HsmKeys). keys.lmk) are
loaded_lmk image (suc count) keys are =
    entry_lmk (entry_at image count) are.0 keys are.2 ∙ loaded_lmk image count are.0 are.1

-- so many entries leave one set of keys
pub loaded_one : (readings : Readings) (image : List ℕ) (count : ℕ) (one other : HsmKeys) → IsTdesKey (lmk_in image)
    → AreLoaded image count one → AreLoaded image count other → one ≡ other
loaded_one readings image zero one other tdes a b = a ∙ sym b
loaded_one readings image (suc count) one other tdes a b =
    let same : a.0 ≡ b.0 = loaded_one readings image count a.0 b.0 tdes a.1 b.1 in
    entry_one readings (entry_at image count) b.0 one other (subst IsTdesKey (sym (loaded_lmk image count b.0 b.1)) tdes)
    (subst (λ keys. IsEntryLoaded (entry_at image count) keys one) same a.2) b.2

-- an entry among those that were loaded
pub record IsStep (image : List ℕ) (place : ℕ) : Type 0 where
  pub before : HsmKeys
  pub after : HsmKeys
  pub are_loaded : AreLoaded image place before
  pub is_loaded : IsEntryLoaded (entry_at image place) before after

pub loaded_step : (image : List ℕ) (count place : ℕ) (keys : HsmKeys) → place < count → AreLoaded image count keys → IsStep image place
loaded_step image zero place keys within are = absurd (omega (arith, within))
loaded_step image (suc count) place keys within are =
    elim (cases_lt place count) [
      | inl before ↦ loaded_step image count place are.0 before are.1
      | inr last ↦
          let same : count ≡ place = omega (arith, last, within) in
          subst (IsStep image) same (record { before = are.0; after = keys; are_loaded = are.1; is_loaded = are.2 })
    ]

-- an entry that cannot be loaded is none of those that were
pub not_loaded : (readings : Readings) (image : List ℕ) (count place : ℕ) (keys before : HsmKeys) → IsTdesKey (lmk_in image) → place < count
    → AreLoaded image place before → ((after : HsmKeys) → ¬ IsEntryLoaded (entry_at image place) before after)
    → ¬ AreLoaded image count keys
not_loaded readings image count place keys before tdes within are none loaded =
    let step = loaded_step image count place keys within loaded in
    none step.after (subst (λ keys. IsEntryLoaded (entry_at image place) keys step.after)
    (loaded_one readings image place step.before before tdes step.are_loaded are) step.is_loaded)

-- the reason of a module is that of a call
pub reason_in : (Refuses : HsmKeys → HsmFault → Type 0) (image : List ℕ) (keys : HsmKeys) (why : HsmFault) → IsModule image keys → Refuses keys why
    → MayNotBeLoaded Refuses image (fault_of_hsm why)
reason_in Refuses image keys why is refuses =
    inr (record { keys = keys; is_module = is; reason = why; refuses = refuses; why_is = refl })

pub refused_so : (Fit : Type 0) (Refuses : HsmKeys → HsmFault → Type 0) (image : List ℕ) (why : Fault) → Fit → MayNotBeLoaded Refuses image why
    → IsLoadRefused Fit Refuses image why
refused_so Fit Refuses image why fit (inl none) = inr (inl (none.0, fit, none.1))
refused_so Fit Refuses image why fit (inr reason) = inr (inr (fit, reason))
