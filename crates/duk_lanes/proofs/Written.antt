-- A list of known length, written out in its elements, on which definitions compute.
use Rattle.std.proofs.Common.{◌≡◌, ℕ, zero, suc, ◌+◌, List, [], ◌∷◌, length, drop, get_or, ap, ◌∙◌, arith}
use Rattle.std.proofs.lemmas.List.{drop_all}
use Rattle.std.proofs.Math.Seq.{drop-cons}

-- the `count` elements of a list from a place on
abbrev pub written : {X : Type 0} → X → ℕ → ℕ → List X → List X
written default zero place xs = []
written default (suc count) place xs = get_or xs place default ∷ written default count (suc place) xs

is_written_from : {X : Type 0} (default : X) (count place : ℕ) (xs : List X) → length xs ≡ place + count → drop place xs ≡ written default count place xs
is_written_from default zero place xs h = drop_all place xs (omega arith)
is_written_from default (suc count) place xs h =
    drop-cons xs place default (omega arith) ∙ ap (λ rest. get_or xs place default ∷ rest) (is_written_from default count (suc place) xs (omega arith))

pub is_written : {X : Type 0} (default : X) (count : ℕ) (xs : List X) → length xs ≡ count → xs ≡ written default count 0 xs
is_written default count xs h = is_written_from default count 0 xs (omega arith)
