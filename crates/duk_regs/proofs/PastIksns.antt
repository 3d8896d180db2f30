-- One past initial key serial number more.
use Rattle.std.proofs.Common.{◌≢◌, ℕ, List, [], ◌∷◌, ◌++◌, AllPairs, Contains, ◌∙◌}
use Rattle.std.proofs.lemmas.List.{get_or_default}
use Rattle.std.proofs.lemmas.List.Quantifiers.{all_pairs_push}

-- numbers that are different, and one that is not among them
pub different_push : (past : List ℕ) (iksn : ℕ) → AllPairs (λ one other. one ≢ other) past → ¬ Contains past iksn
    → AllPairs (λ one other. one ≢ other) (past ++ iksn ∷ [])
different_push past iksn different absent =
    all_pairs_push (λ one other. one ≢ other) past iksn different (λ place default within same. absent (place, within, get_or_default past place iksn default within ∙ same))
