-- Bits that are xored in turn into others.
use Rattle.std.proofs.Common.{◌≡◌, ℕ, ◌+◌, ◌-◌, ◌<◌, ◌≤◌, Bool, false, List, length, drop, get_or, set, sym, ap, ◌∙◌}
use Rattle.std.specs.Bool.{xor}
use Rattle.std.proofs.lemmas.List.{drop_all, drop_more}
use Rattle.duk_des.specs.Bits.{bit}
use Rattle.duk_lanes.specs.inner.Wiring.{xored_at}
use Rattle.duk_lanes.proofs.BitsOfWords.{both}

-- one more bit is in its place
pub one_bit_more : (places : List ℕ) (bits sums : List Bool) (k : ℕ) {sum : Bool} → k < length places → k < length bits
    → sum ≡ xor (bit sums (get_or places k 0)) (get_or bits k false)
    → xored_at (drop (k + 1) places) (drop (k + 1) bits) (set sums (get_or places k 0 - 1) sum) ≡ xored_at (drop k places) (drop k bits) sums
one_bit_more places bits sums k {sum} within long by_sum =
    ap (λ b. xored_at (drop (k + 1) places) (drop (k + 1) bits) (set sums (get_or places k 0 - 1) b)) by_sum
    ∙ sym (both (λ x y. xored_at x y sums) (drop_more places k 0 within) (drop_more bits k false long))

pub no_bit_more : (places : List ℕ) (bits sums : List Bool) (k : ℕ) → length places ≤ k → xored_at (drop k places) (drop k bits) sums ≡ sums
no_bit_more places bits sums k past = ap (λ rest. xored_at rest (drop k bits) sums) (drop_all k places past)
