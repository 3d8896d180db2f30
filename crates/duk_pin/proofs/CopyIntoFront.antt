-- A copy into the front of an array.
use Rattle.std.proofs.Common.{◌≡◌, ℕ, suc, ◌+◌, ◌-◌, ◌<◌, ◌≤◌, List, [], ◌∷◌, ◌++◌, length, get_or, set, take, replicate, sym, ap, ◌∙◌, arith}
use Rattle.std.proofs.lemmas.List.{set_at, append_assoc, take_more, length-take-le}

-- a loop that copies a list over zeros: what it has written, then zeros
pub copied_next : (text : List ℕ) (size i : ℕ) → i < length text → length text ≤ size → set (take i text ++ replicate (size - i) 0) i (get_or text i 0) ≡ take (i + 1) text ++ replicate (size - (i + 1)) 0
copied_next text size i within fits =
    let one_more : size - i ≡ suc (size - (i + 1)) = omega arith in
    ap (λ left. set (take i text ++ replicate left 0) i (get_or text i 0)) one_more
    ∙ set_at (take i text) 0 (replicate (size - (i + 1)) 0) (get_or text i 0) i (length-take-le i text (omega arith))
    ∙ sym (append_assoc (take i text) (get_or text i 0 ∷ []) (replicate (size - (i + 1)) 0))
    ∙ ap (λ front. front ++ replicate (size - (i + 1)) 0) (sym (take_more text i 0 within))
