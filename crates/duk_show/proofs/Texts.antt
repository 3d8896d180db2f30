-- Texts, from their front.
use Rattle.std.proofs.Common.{◌≡◌, ◌+◌, ◌<◌, ℕ, Bool, true, List, length, take, get_or}
use Rattle.std.specs.List.{AllPass}
use Rattle.std.proofs.lemmas.List.{take_more}
use Rattle.std.proofs.lemmas.List.Elements.{All-push}

-- one more that passes
pub passes_more : (test : ℕ → Bool) (text : List ℕ) (i : ℕ) → i < length text → AllPass test (take i text) → test (get_or text i 0) ≡ true
    → AllPass test (take (i + 1) text)
passes_more test text i inside before now =
    rw (take_more text i 0 inside) (All-push (λ x. test x ≡ true) (take i text) (get_or text i 0) before now)
