-- What holds of each place of a list that is written place by place.
use Rattle.std.proofs.Common.{◌≡◌, ◌<◌, ◌≤◌, ◌≢◌, ◌+◌, ℕ, List, length, get_or, map, set, take, sym, subst, ◌∙◌, arith}
use borrow.Author.Count.{below_more}
use Rattle.std.proofs.lemmas.List.{get_or-set_same, get_or-set_other, ext_get_or, get_or-map, get_or-take, length-map, length-take-le}

pub written_below : {X : Type 0} (P : ℕ → X → Type 0) (xs : List X) (i : ℕ) (x d : X) → i < length xs
    → ((p : ℕ) → p < i → P p (get_or xs p d)) → P i x
    → (p : ℕ) → p < i + 1 → P p (get_or (set xs i x) p d)
written_below P xs i x d room below here =
    below_more (λ p. P p (get_or (set xs i x) p d)) i
    (λ p h. let other : p ≢ i = omega arith in subst (P p) (sym (get_or-set_other xs i p x d other)) (below p h))
    (subst (P i) (sym (get_or-set_same xs i x d room)) here)

-- what is written at each place is what a function gives of another list's element there
pub map_of_places : {X Y : Type 0} (f : X → Y) (xs : List X) (ys : List Y) (e : X) (d : Y) → length xs ≤ length ys
    → ((i : ℕ) → i < length xs → get_or ys i d ≡ f (get_or xs i e))
    → take (length xs) ys ≡ map f xs
map_of_places f xs ys e d room each =
    let long : length (take (length xs) ys) ≡ length xs = length-take-le (length xs) ys room in
    ext_get_or d (take (length xs) ys) (map f xs) (long ∙ sym (length-map xs f))
    (λ i h. let below : i < length xs = omega arith in
    get_or-take (length xs) ys i d below ∙ each i below ∙ sym (get_or-map f xs i e d below))

-- the same of two lists that are written side by side
pub written_below_both : {X Y : Type 0} (P : ℕ → X → Y → Type 0) (xs : List X) (ys : List Y) (i : ℕ) (x d : X) (y e : Y) → i < length xs → i < length ys
    → ((p : ℕ) → p < i → P p (get_or xs p d) (get_or ys p e)) → P i x y
    → (p : ℕ) → p < i + 1 → P p (get_or (set xs i x) p d) (get_or (set ys i y) p e)
written_below_both P xs ys i x d y e room room' below here =
    below_more (λ p. P p (get_or (set xs i x) p d) (get_or (set ys i y) p e)) i
    (λ p h. let other : p ≢ i = omega arith in
    subst (λ found. P p found (get_or (set ys i y) p e)) (sym (get_or-set_other xs i p x d other))
    (subst (P p (get_or xs p d)) (sym (get_or-set_other ys i p y e other)) (below p h)))
    (subst (λ found. P i found (get_or (set ys i y) i e)) (sym (get_or-set_same xs i x d room))
    (subst (P i x) (sym (get_or-set_same ys i y e room')) here))
