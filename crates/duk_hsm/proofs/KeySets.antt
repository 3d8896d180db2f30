-- Key sets, and one more after them.
use Rattle.std.proofs.Common.{◌≡◌, ◌≢◌, ◌⊎◌, inl, inr, ℕ, zero, suc, ◌<◌, List, [], ◌∷◌, ◌++◌, Some, None, length, get_or, arith, length-append}
use Rattle.std.proofs.lemmas.Slice.Eq.{bytes_eq-Decides}
use Rattle.std.proofs.lemmas.List.Quantifiers.{all_pairs_push}
use Rattle.duk_tdes.specs.Key.{IsKey}
use Rattle.duk_hsm.specs.Keys.{AreHsmKeys, HsmKeys, bdk_with, key_set_of}
use Rattle.duk_hsm.specs.Load.{key_set, with_key_set}
use Rattle.duk_block.specs.KeyBlock.{WrapsFor}
use Rattle.duk_block.specs.KeyUse.{IsDoubleKeyFor}
use Rattle.duk_block.specs.declared.key_use.KeyUse.TheVariants.{BaseDerivationKey}
use Rattle.duk_hsm.specs.declared.key_set.KeySet.{KeySet}

-- where a prefix has no key set, the first has another prefix, and the prefix has none among the
-- others
pub first_differs : (prefix : List ℕ) (set : KeySet) (sets : List KeySet) → bdk_with prefix (set ∷ sets) ≡ None
    → (set.prefix ≢ prefix) × (bdk_with prefix sets ≡ None)
first_differs prefix set sets none = grind (arith, bytes_eq-Decides set.prefix prefix)

-- where a prefix has no key set, each has another prefix
pub each_differs : (prefix : List ℕ) (sets : List KeySet) → bdk_with prefix sets ≡ None
    → (k : ℕ) (d : KeySet) → k < length sets → (get_or sets k d).prefix ≢ prefix
each_differs prefix [] none k d within = absurd (omega arith)
each_differs prefix (set ∷ sets) none zero d within = (first_differs prefix set sets none).0
each_differs prefix (set ∷ sets) none (suc k) d within = each_differs prefix sets (first_differs prefix set sets none).1 k d (omega arith)

-- what is found with one key set more was there before, or is the new one
pub found_before : (sought prefix bdk : List ℕ) (sets : List KeySet) (found : List ℕ)
    → bdk_with sought (sets ++ key_set prefix bdk ∷ []) ≡ Some found → (bdk_with sought sets ≡ Some found) ⊎ (found ≡ bdk)
found_before sought prefix bdk [] found h = grind arith
found_before sought prefix bdk (set ∷ sets) found h = grind (arith, found_before sought prefix bdk sets found)

-- a base derivation key has sixteen bytes
pub sixteen_bytes : (protection_key text bdk : List ℕ) → WrapsFor (IsDoubleKeyFor BaseDerivationKey) protection_key text bdk → IsKey 16 bdk
sixteen_bytes protection_key text bdk wrapped = record { size_is = wrapped.use_is.length_is; bytes_fit = wrapped.wraps.block.key_is.bytes_fit }

-- the keys stay lawful with one key set more
pub one_more : (keys : HsmKeys) (prefix bdk : List ℕ) → AreHsmKeys keys → length keys.key_sets < 8 → key_set_of keys prefix ≡ None → IsKey 16 bdk
    → AreHsmKeys (with_key_set keys prefix bdk)
one_more keys prefix bdk lawful room free is_key = record {
  eight_at_most = omega (arith, length-append keys.key_sets (key_set prefix bdk ∷ []), room);
  different =
      all_pairs_push (λ a b. a.prefix ≢ b.prefix) keys.key_sets (key_set prefix bdk) lawful.different (each_differs prefix keys.key_sets free);
  bdks = λ sought found h.
      elim (found_before sought prefix bdk keys.key_sets found h) [
        | inl before ↦ lawful.bdks sought found before
        | inr new ↦ rw new is_key
      ];
  zone_key = lawful.zone_key;
}
