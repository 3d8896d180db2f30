-- The path of a counter from a place up, one place further down.
use Rattle.std.proofs.Common.{◌≡◌, ℕ, zero, suc, ◌+◌, ◌-◌, ◌*◌, ◌/◌, ◌%◌, ◌^◌, ◌<◌, ◌≤◌, ◌∷◌, inl, inr, refl, ap, ◌∙◌, arith}
use Rattle.std.proofs.Math.Nat.{pow-suc}
use Rattle.std.proofs.lemmas.Bool.{cases_lt}
use Rattle.std.proofs.lemmas.Nat.{shr-shr}
use Rattle.std.proofs.Math.Nat.{div-mul-le_self, mod-eq_of_lt}
use Rattle.std.specs.List.{filter}
use Rattle.duk_tree.specs.Path.{value_of, path_of, places_from, has_one}
use Rattle.duk_group.specs.inner.Walk.{ones_from}

even_part : (q h power above : ℕ) → q ≡ 2 * h → above ≡ power + power → h * above ≡ q * power
even_part q h power above twice doubled = rw (twice, doubled) (omega arith)

odd_part : (q h power above : ℕ) → q ≡ 2 * h + 1 → above ≡ power + power → power + h * above ≡ q * power
odd_part q h power above twice doubled = rw (twice, doubled) (omega arith)

pub ones_from-taken : (counter place : ℕ) → 0 < place → place ≤ 21 → counter / 2 ^ (place - 1) % 2 ≡ 1
    → ones_from (place - 1) counter ≡ (place - 1) ∷ ones_from place counter
ones_from-taken counter place some within odd =
    let more : 21 - (place - 1) ≡ suc (21 - place) = omega arith in
    let above : suc (place - 1) ≡ place = omega arith in
    let split : filter (has_one counter) (places_from (place - 1) (suc (21 - place))) ≡ (place - 1) ∷ filter (has_one counter) (places_from (suc (place - 1)) (21 - place)) = rw odd refl in
    ap (λ n. filter (has_one counter) (places_from (place - 1) n)) more
    ∙ split
    ∙ ap (λ n. (place - 1) ∷ filter (has_one counter) (places_from n (21 - place))) above

pub ones_from-skipped : (counter place : ℕ) → 0 < place → place ≤ 21 → counter / 2 ^ (place - 1) % 2 ≡ 0
    → ones_from (place - 1) counter ≡ ones_from place counter
ones_from-skipped counter place some within even =
    let more : 21 - (place - 1) ≡ suc (21 - place) = omega arith in
    let above : suc (place - 1) ≡ place = omega arith in
    let split : filter (has_one counter) (places_from (place - 1) (suc (21 - place))) ≡ filter (has_one counter) (places_from (suc (place - 1)) (21 - place)) = rw even refl in
    ap (λ n. filter (has_one counter) (places_from (place - 1) n)) more
    ∙ split
    ∙ ap (λ n. filter (has_one counter) (places_from n (21 - place))) above

-- the powers of two at the one bits from a place up come to the counter without the bits below
value_of-from : (count place counter : ℕ) → place + count ≡ 21 → counter < 2 ^ 21
    → value_of (filter (has_one counter) (places_from place count)) ≡ counter / 2 ^ place * 2 ^ place
value_of-from zero place counter end fits = let top : place ≡ 21 = omega arith in rw top (omega arith)
value_of-from (suc count) place counter end fits =
    let above = value_of-from count (suc place) counter (omega arith) fits in
    let half : counter / 2 ^ place / 2 ≡ counter / 2 ^ suc place = shr-shr counter place 1 ∙ ap (λ n. counter / 2 ^ n) (omega arith) in
    let power : 2 ^ suc place ≡ 2 ^ place + 2 ^ place = pow-suc 2 place ∙ omega arith in
    elim (cases_lt (counter / 2 ^ place % 2) 1) [
      | inl low ↦
          let even : counter / 2 ^ place % 2 ≡ 0 = omega arith in
          let twice : counter / 2 ^ place ≡ 2 * (counter / 2 ^ suc place) = omega arith in
          rw even (above ∙ even_part (counter / 2 ^ place) (counter / 2 ^ suc place) (2 ^ place) (2 ^ suc place) twice power)
      | inr high ↦
          let odd : counter / 2 ^ place % 2 ≡ 1 = omega arith in
          let twice : counter / 2 ^ place ≡ 2 * (counter / 2 ^ suc place) + 1 = omega arith in
          rw odd (ap (λ n. 2 ^ place + n) above ∙ odd_part (counter / 2 ^ place) (counter / 2 ^ suc place) (2 ^ place) (2 ^ suc place) twice power)
    ]

pub value_of-ones_from : (counter place : ℕ) → place ≤ 21 → counter < 2 ^ 21 → value_of (ones_from place counter) ≡ counter / 2 ^ place * 2 ^ place
value_of-ones_from counter place within fits = value_of-from (21 - place) place counter (omega arith) fits

pub ones_from-all : (counter : ℕ) → ones_from 0 counter ≡ path_of counter
unfolding path_of
ones_from-all counter = refl

-- a counter shifted right and left again is what stands from that place up
pub shifted_back : (counter place : ℕ) → counter < 2 ^ 21 → counter / 2 ^ place * 2 ^ place % 2 ^ 32 ≡ counter / 2 ^ place * 2 ^ place
shifted_back counter place fits = let below = div-mul-le_self counter (2 ^ place) in mod-eq_of_lt (omega arith)
