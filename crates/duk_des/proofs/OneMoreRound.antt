-- A round after the rounds before it.
use Rattle.std.proofs.Common.{◌≡◌, ℕ, ◌+◌, ◌<◌, ◌≤◌, Bool, List, [], length, drop, get_or, sym, ap, ◌∙◌}
use Rattle.std.proofs.lemmas.List.{drop_all, drop_more}
use Rattle.duk_des.specs.Bits.{xor_bits}
use Rattle.duk_des.specs.Des.{Halves, cipher_function, round, rounds}

-- the rounds from place i on are the round with that key, and the rounds after it
pub one_round : (keys : List (List Bool)) (i : ℕ) (left right : List Bool) {chosen next : List Bool} → i < length keys
    → chosen ≡ cipher_function right (get_or keys i []) → next ≡ xor_bits left chosen
    → rounds (drop (i + 1) keys) (record { left = right; right = next }) ≡ rounds (drop i keys) (record { left = left; right = right })
unfolding rounds round
one_round keys i left right {chosen} {next} within by_function by_xor =
    ap (λ half. rounds (drop (i + 1) keys) (record { left = right; right = half })) (by_xor ∙ ap (xor_bits left) by_function)
    ∙ sym (ap (λ order. rounds order (record { left = left; right = right })) (drop_more keys i [] within))

-- no rounds are left past the last key
pub no_round : (keys : List (List Bool)) (i : ℕ) (halves : Halves) → length keys ≤ i → rounds (drop i keys) halves ≡ halves
unfolding rounds
no_round keys i halves past = ap (λ order. rounds order halves) (drop_all i keys past)
