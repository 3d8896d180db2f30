-- Two rounds after the rounds before them, each by the round key at a rotation of the key's halves.
use Rattle.std.proofs.Common.{◌≡◌, ℕ, zero, suc, ◌+◌, ◌*◌, ◌<◌, ◌≤◌, Bool, List, [], ◌∷◌, IsTrue, nat_le, length, map, drop, get_or, sym, ap, ◌∙◌, arith}
use Rattle.std.specs.List.{list_all}
use Rattle.std.proofs.lemmas.Bool.Decides.{nat_tests}
use Rattle.std.proofs.lemmas.List.{drop_all, drop_more, get_or-map, length-map}
use Rattle.duk_des.specs.Bits.{xor_bits}
use Rattle.duk_des.specs.Des.{Halves, cipher_function, round, rounds}
use Rattle.duk_lanes.specs.inner.Schedule.{round_key_at}

-- each number of rotations is one of a window
pub total_fits : (totals : List ℕ) → IsTrue (list_all (λ total. nat_le total 28) totals) → (k : ℕ) → get_or totals k 0 ≤ 28
total_fits [] h k = omega arith
total_fits (total ∷ totals) h zero = grind (arith, nat_tests)
total_fits (total ∷ totals) h (suc k) = total_fits totals (grind (arith, nat_tests)) k

-- the rounds from place k on are the round with that key, and the rounds after it
one_more : (keys : List (List Bool)) (k : ℕ) (left right : List Bool) {next : List Bool} → k < length keys
    → next ≡ xor_bits left (cipher_function right (get_or keys k []))
    → rounds (drop (k + 1) keys) (record { left = right; right = next }) ≡ rounds (drop k keys) (record { left = left; right = right })
unfolding rounds round
one_more keys k left right {next} within by_round =
    ap (λ half. rounds (drop (k + 1) keys) (record { left = right; right = half })) by_round
    ∙ sym (ap (λ order. rounds order (record { left = left; right = right })) (drop_more keys k [] within))

module _ (c d : List Bool) (totals : List ℕ) where
  keys : List (List Bool)
  keys = map (round_key_at c d) totals

  key_at : (k : ℕ) → k < length totals → get_or keys k [] ≡ round_key_at c d (get_or totals k 0)
  unfolding keys
  key_at k within = get_or-map (round_key_at c d) totals k 0 [] within

  by_total : (k : ℕ) (left right : List Bool) {next : List Bool} → k < length totals
      → next ≡ xor_bits left (cipher_function right (round_key_at c d (get_or totals k 0)))
      → rounds (drop (k + 1) keys) (record { left = right; right = next }) ≡ rounds (drop k keys) (record { left = left; right = right })
  unfolding keys
  by_total k left right {next} within by_round =
      one_more keys k left right (omega (arith, within, length-map totals (round_key_at c d)))
      (by_round ∙ ap (λ key. xor_bits left (cipher_function right key)) (sym (key_at k within)))

-- the half that is not changed in one round is changed in the next
pub two_rounds : (c d : List Bool) (totals : List ℕ) (k : ℕ) (left right : List Bool) {new_left new_right : List Bool} → 2 * k + 1 < length totals
    → new_left ≡ xor_bits left (cipher_function right (round_key_at c d (get_or totals (2 * k) 0)))
    → new_right ≡ xor_bits right (cipher_function new_left (round_key_at c d (get_or totals (2 * k + 1) 0)))
    → rounds (drop (2 * (k + 1)) (map (round_key_at c d) totals)) (record { left = new_left; right = new_right })
    ≡ rounds (drop (2 * k) (map (round_key_at c d) totals)) (record { left = left; right = right })
unfolding keys
two_rounds c d totals k left right {new_left} {new_right} within first second =
    let place : 2 * (k + 1) ≡ 2 * k + 1 + 1 = omega arith in
    ap (λ n. rounds (drop n (map (round_key_at c d) totals)) (record { left = new_left; right = new_right })) place
    ∙ by_total c d totals (2 * k + 1) right new_left within second
    ∙ by_total c d totals (2 * k) left right (omega arith) first

-- no rounds are left past the last
pub no_rounds : (c d : List Bool) (totals : List ℕ) (k : ℕ) (halves : Halves) → length totals ≤ k → rounds (drop k (map (round_key_at c d) totals)) halves ≡ halves
unfolding rounds
no_rounds c d totals k halves past =
    ap (λ order. rounds order halves) (drop_all k (map (round_key_at c d) totals) (omega (arith, past, length-map totals (round_key_at c d))))
