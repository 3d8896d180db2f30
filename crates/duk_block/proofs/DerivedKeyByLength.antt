-- A derived key, for each length of the protection key.
use Rattle.std.proofs.Common.{◌≡◌, ℕ, List, ◌++◌, length, ap, sym, ◌∙◌, append-nil}
use Rattle.std.proofs.lemmas.List.{append_assoc}
use Rattle.std.specs.List.{flat_map}
use Rattle.duk_block.specs.Derived.{counters, derivation_step, derived_key}

pub derived_key-double : (usage protection_key : List ℕ) → length protection_key ≡ 16
    → derived_key usage protection_key ≡ derivation_step usage protection_key 1 ++ derivation_step usage protection_key 2
unfolding derived_key
derived_key-double usage protection_key size =
    ap (λ n. flat_map (derivation_step usage protection_key) (counters n)) size
    ∙ ap (λ rest. derivation_step usage protection_key 1 ++ rest) (append-nil (derivation_step usage protection_key 2))

pub derived_key-triple : (usage protection_key : List ℕ) → length protection_key ≡ 24
    → derived_key usage protection_key ≡ derivation_step usage protection_key 1 ++ derivation_step usage protection_key 2 ++ derivation_step usage protection_key 3
unfolding derived_key
derived_key-triple usage protection_key size =
    ap (λ n. flat_map (derivation_step usage protection_key) (counters n)) size
    ∙ ap (λ rest. derivation_step usage protection_key 1 ++ (derivation_step usage protection_key 2 ++ rest)) (append-nil (derivation_step usage protection_key 3))
    ∙ sym (append_assoc (derivation_step usage protection_key 1) (derivation_step usage protection_key 2) (derivation_step usage protection_key 3))
