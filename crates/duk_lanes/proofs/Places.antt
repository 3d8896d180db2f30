-- Tables of places, and lists made element by element.
use Rattle.std.proofs.Common.{◌≡◌, ℕ, zero, suc, ◌+◌, ◌-◌, ◌<◌, ◌≤◌, Bool, false, List, [], ◌∷◌, ◌++◌, IsTrue, length, get_or, inl, inr, sym, ap, ◌∙◌, length-append, arith}
use Rattle.std.proofs.lemmas.Bool.{cases_lt}
use Rattle.std.proofs.lemmas.Bool.Decides.{nat_tests}
use Rattle.std.proofs.lemmas.List.{ext_get_or, get_or_append_left, get_or-append-add}
use Rattle.duk_lanes.specs.inner.Wiring.{are_places}

-- each entry of a table of places is the number of a word
pub place_at : (count : ℕ) (places : List ℕ) (k : ℕ) → IsTrue (are_places count places) → k < length places
    → (0 < get_or places k 0) × (get_or places k 0 ≤ count)
place_at count [] k h below = absurd (omega arith)
place_at count (place ∷ places) zero h below = grind (arith, nat_tests)
place_at count (place ∷ places) (suc k) h below = place_at count places k (grind (arith, nat_tests)) (omega arith)

-- bits of two lists of one length are both, one after the other
pub both_lists : (count : ℕ) (bits first second : List Bool) → length first ≡ count → length second ≡ count → length bits ≡ count + count
    → ((k : ℕ) → k < count → get_or bits k false ≡ get_or first k false) → ((k : ℕ) → k < count → get_or bits (count + k) false ≡ get_or second k false)
    → bits ≡ first ++ second
both_lists count bits first second h1 h2 h from_first from_second =
    ext_get_or false bits (first ++ second) (omega (arith, h1, h2, h, length-append first second))
    (λ k below. elim (cases_lt k count) [
      | inl l ↦ from_first k l ∙ sym (get_or_append_left first second false k (omega arith))
      | inr l ↦
          let shifted : k ≡ count + (k - count) = omega arith in
          let placed : k ≡ length first + (k - count) = omega arith in
          ap (λ n. get_or bits n false) shifted ∙ from_second (k - count) (omega arith)
          ∙ sym (ap (λ n. get_or (first ++ second) n false) placed ∙ get_or-append-add first second (k - count) false)
    ])
