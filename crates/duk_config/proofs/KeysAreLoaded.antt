-- Loading the keys of a configuration.
use Rattle.std.proofs.Common.{false, ◌≡◌, ◌≢◌, ℕ, suc, ◌+◌, ◌<◌, ◌≤◌, List, [], ◌∷◌, ◌++◌, Some, None, IsOk, IfOk, IfErr, Result, Ok, Err, length, take, get_or, refl, ap, sym, subst, ◌∙◌, arith}
use Rattle.duk_block.specs.Faults.{IsFirstFault}
use Rattle.duk_block.specs.KeyBlock.{Wraps}
use Rattle.duk_block.specs.declared.header.Header.{Header}
use Rattle.duk_hsm.specs.Keys.{HsmKeys, key_set_of}
use Rattle.duk_hsm.specs.Load.{IsBdkLoaded, IsZoneLoaded, LoadBdkRefused, LoadZoneRefused, with_key_set}
use Rattle.duk_block.specs.KeyUse.{IsDoubleKeyFor, IsKeyFor}
use Rattle.duk_block.specs.declared.key_use.KeyUse.TheVariants.{BaseDerivationKey, PinEncryption}
use Rattle.duk_hsm.specs.declared.fault.HsmFault.{HsmFault}
use Rattle.duk_hsm.specs.declared.fault.HsmFault.TheVariants as fault
use Rattle.std.specs.Str.{bytes_eq}
use Rattle.std.proofs.lemmas.List.{get_or-take, length-map, length-take, map-append, take_more}
use Rattle.std.proofs.lemmas.Slice.Eq.{bytes_eq-Decides}
use Rattle.duk_hsm.specs.Keys.{bdk_with}
use Rattle.duk_hsm.specs.Load.{key_set}
use Rattle.duk_config.specs.BaseKeys.{BaseKey, bdk_key_of, bdk_prefix_of}
use Rattle.duk_config.specs.Opened.{key_sets_of}
use Rattle.duk_config.specs.inner.Opened.{WrapsAlone}
use Rattle.duk_config.specs.Settings.{HaveDistinctPrefixes}

-- the key of a base derivation key's block is loaded
pub bdk_loaded : (keys new : HsmKeys) (lmk prefix text : List ℕ) (header : Header) (bdk : List ℕ) (answer : Result (Unit {0}) HsmFault)
    → keys.lmk ≡ lmk → key_set_of keys prefix ≡ None → length keys.key_sets < 8 → WrapsAlone lmk text header bdk → IsDoubleKeyFor BaseDerivationKey header bdk
    → IfOk answer (λ _. IsBdkLoaded keys prefix text new) → IfErr answer (LoadBdkRefused keys prefix text)
    → IsOk answer × (new ≡ with_key_set keys prefix bdk)
bdk_loaded keys new lmk prefix text header bdk (Ok done) same free room wrapped fit loaded refused =
    let read = wrapped.alone loaded.wrapped.header loaded.bdk (subst (λ k. Wraps k text loaded.wrapped.header loaded.bdk) same loaded.wrapped.wraps) in
    (refl, loaded.keys_are ∙ ap (with_key_set keys prefix) (sym read.1))
bdk_loaded keys new lmk prefix text header bdk (Err (fault.Block why)) same free room wrapped fit loaded refused =
    absurd (wrapped.has_no_fault why (subst (λ k. IsFirstFault text k why) same refused))
bdk_loaded keys new lmk prefix text header bdk (Err fault.WrongUse) same free room wrapped fit loaded refused =
    let read = wrapped.alone refused.header refused.key (subst (λ k. Wraps k text refused.header refused.key) same refused.wraps) in
    absurd (refused.use_is_other (subst (λ h. IsDoubleKeyFor BaseDerivationKey h refused.key) read.0 (subst (λ k. IsDoubleKeyFor BaseDerivationKey header k) read.1 fit)))
bdk_loaded keys new lmk prefix text header bdk (Err fault.PrefixTaken) same free room wrapped fit loaded refused =
    let taken = rw free at refused.1 in cc
bdk_loaded keys new lmk prefix text header bdk (Err fault.SlotsFull) same free room wrapped fit loaded refused = absurd (omega arith)
bdk_loaded keys new lmk prefix text header bdk (Err fault.ZoneTaken) same free room wrapped fit loaded refused = absurd refused
bdk_loaded keys new lmk prefix text header bdk (Err fault.NoKeySet) same free room wrapped fit loaded refused = absurd refused
bdk_loaded keys new lmk prefix text header bdk (Err fault.NoZone) same free room wrapped fit loaded refused = absurd refused
bdk_loaded keys new lmk prefix text header bdk (Err fault.BadCounter) same free room wrapped fit loaded refused = absurd refused
bdk_loaded keys new lmk prefix text header bdk (Err fault.BadMac) same free room wrapped fit loaded refused = absurd refused
bdk_loaded keys new lmk prefix text header bdk (Err fault.BadPinBlock) same free room wrapped fit loaded refused = absurd refused

-- the key of a zone key's block is loaded
pub zone_loaded : (keys new : HsmKeys) (lmk text : List ℕ) (header : Header) (zone : List ℕ) (answer : Result (Unit {0}) HsmFault)
    → keys.lmk ≡ lmk → keys.zone ≡ None → WrapsAlone lmk text header zone → IsKeyFor PinEncryption header zone
    → IfOk answer (λ _. IsZoneLoaded keys text new) → IfErr answer (LoadZoneRefused keys text)
    → IsOk answer × (new ≡ record keys { zone = Some zone })
zone_loaded keys new lmk text header zone (Ok done) same free wrapped fit loaded refused =
    let read = wrapped.alone loaded.wrapped.header loaded.zone (subst (λ k. Wraps k text loaded.wrapped.header loaded.zone) same loaded.wrapped.wraps) in
    (refl, loaded.keys_are ∙ ap (λ z. record keys { zone = Some z }) (sym read.1))
zone_loaded keys new lmk text header zone (Err (fault.Block why)) same free wrapped fit loaded refused =
    absurd (wrapped.has_no_fault why (subst (λ k. IsFirstFault text k why) same refused))
zone_loaded keys new lmk text header zone (Err fault.WrongUse) same free wrapped fit loaded refused =
    let read = wrapped.alone refused.header refused.key (subst (λ k. Wraps k text refused.header refused.key) same refused.wraps) in
    absurd (refused.use_is_other (subst (λ h. IsKeyFor PinEncryption h refused.key) read.0 (subst (λ k. IsKeyFor PinEncryption header k) read.1 fit)))
zone_loaded keys new lmk text header zone (Err fault.ZoneTaken) same free wrapped fit loaded refused =
    let taken = rw free at refused.1 in cc
zone_loaded keys new lmk text header zone (Err fault.PrefixTaken) same free wrapped fit loaded refused = absurd refused
zone_loaded keys new lmk text header zone (Err fault.SlotsFull) same free wrapped fit loaded refused = absurd refused
zone_loaded keys new lmk text header zone (Err fault.NoKeySet) same free wrapped fit loaded refused = absurd refused
zone_loaded keys new lmk text header zone (Err fault.NoZone) same free wrapped fit loaded refused = absurd refused
zone_loaded keys new lmk text header zone (Err fault.BadCounter) same free wrapped fit loaded refused = absurd refused
zone_loaded keys new lmk text header zone (Err fault.BadMac) same free wrapped fit loaded refused = absurd refused
zone_loaded keys new lmk text header zone (Err fault.BadPinBlock) same free wrapped fit loaded refused = absurd refused

-- the key sets of the first base derivation keys, and of one more
pub key_sets_more : (bdks : List BaseKey) (i : ℕ) (bdk : BaseKey) → i < length bdks → bdk ≡ get_or bdks i bdk
    → key_sets_of (take (i + 1) bdks) ≡ key_sets_of (take i bdks) ++ key_set (bdk_prefix_of bdk) (bdk_key_of bdk) ∷ []
key_sets_more bdks i bdk within at =
    ap key_sets_of (take_more bdks i bdk within)
    ∙ (map-append (λ b. key_set (bdk_prefix_of b) (bdk_key_of b)) (take i bdks) (get_or bdks i bdk ∷ [])
    ∙ ap (λ b. key_sets_of (take i bdks) ++ key_set (bdk_prefix_of b) (bdk_key_of b) ∷ []) (sym at))

-- a prefix that no base derivation key has, has no key set
none_with : (prefix : List ℕ) (d : BaseKey) (bdks : List BaseKey) → ((k : ℕ) → k < length bdks → bdk_prefix_of (get_or bdks k d) ≢ prefix)
    → bdk_with prefix (key_sets_of bdks) ≡ None
none_with prefix d [] differ = refl
none_with prefix d (bdk ∷ bdks) differ =
    let head : bdk_prefix_of bdk ≢ prefix = differ 0 (omega arith) in
    let tail : bdk_with prefix (key_sets_of bdks) ≡ None = none_with prefix d bdks (λ k within. differ (suc k) (omega arith)) in
    let other : bytes_eq (bdk_prefix_of bdk) prefix ≡ false = grind (arith, bytes_eq-Decides (bdk_prefix_of bdk) prefix) in
    rw other tail

-- each prefix is free as its base derivation key is loaded
pub prefix_free : (bdks : List BaseKey) (i : ℕ) (bdk : BaseKey) → HaveDistinctPrefixes bdks → i < length bdks → bdk ≡ get_or bdks i bdk
    → bdk_with (bdk_prefix_of bdk) (key_sets_of (take i bdks)) ≡ None
prefix_free bdks i bdk distinct within at =
    none_with (bdk_prefix_of bdk) bdk (take i bdks)
    (λ k below same.
    let shorter : k < i = omega (arith, length-take i bdks) in
    distinct k i bdk shorter within (ap bdk_prefix_of (sym (get_or-take i bdks k bdk shorter)) ∙ (same ∙ ap bdk_prefix_of at)))

-- as many key sets are held as base derivation keys were loaded
pub slots_left : (bdks : List BaseKey) (i : ℕ) → i < length bdks → length bdks ≤ 8 → length (key_sets_of (take i bdks)) < 8
slots_left bdks i within most = omega (arith, length-map (take i bdks) (λ b. key_set (bdk_prefix_of b) (bdk_key_of b)), length-take i bdks)
