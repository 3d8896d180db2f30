-- What holds of each place of a list that is written place by place.
use Rattle.std.proofs.Common.{◌≡◌, ◌<◌, ◌≢◌, ◌+◌, inl, inr, ℕ, List, length, get_or, set, replicate, sym, subst, below_more, get_or-set_same, get_or-set_other, arith}
use Rattle.std.proofs.lemmas.Bool.{cases_lt}
use Rattle.std.proofs.lemmas.List.{get_or-replicate, get_or_past, length-replicate}

pub written_below : {X : Type 0} (P : ℕ → X → Type 0) (xs : List X) (i : ℕ) (x d : X) → i < length xs
    → ((p : ℕ) → p < i → P p (get_or xs p d)) → P i x
    → (p : ℕ) → p < i + 1 → P p (get_or (set xs i x) p d)
written_below P xs i x d room below here =
    below_more (λ p. P p (get_or (set xs i x) p d)) i
    (λ p h. let other : p ≢ i = omega arith in subst (P p) (sym (get_or-set_other xs i p x d other)) (below p h))
    (subst (P i) (sym (get_or-set_same xs i x d room)) here)

-- before any place is written, each has what stands behind the last
pub unwritten : {X : Type 0} (n p : ℕ) (x : X) → get_or (replicate n x) p x ≡ x
unwritten n p x = elim (cases_lt p n) [
  | inl within ↦ get_or-replicate n p x x within
  | inr past ↦ get_or_past (replicate n x) p x (omega (arith, length-replicate n x, past))
]
