-- How many numbers below a bound have few ones. Below a power of two it is a sum of a row of
-- Pascal's triangle.
use Rattle.std.proofs.Common.{◌≡◌, ℕ, zero, suc, ◌+◌, ◌^◌, ◌<◌, ◌≤◌, cond, ltb, refl, ap, ◌∙◌, arith, inl, inr, lt-ltb, le-ltb}
use Rattle.std.proofs.lemmas.Nat.{ones-le, ones_cat}
use Rattle.std.proofs.lemmas.Bool.{cases_lt}
use lib.Count.{ones-ones}
use Rattle.std.specs.Int.RustNames.{count_ones}
use Rattle.duk_tree.proofs.PathsOfCounters.{power_above}

-- how many of the numbers below a bound have fewer than so many ones
pub count_of_fewer : ℕ → ℕ → ℕ
count_of_fewer ones zero = 0
count_of_fewer ones (suc number) = cond (ltb (count_ones number) ones) 1 0 + count_of_fewer ones number

-- below zero there is none
pub count_of_fewer-zero : (ones : ℕ) → count_of_fewer ones 0 ≡ 0
unfolding count_of_fewer
count_of_fewer-zero ones = refl

-- a number of fewer ones counts
pub count_of_fewer-few : (ones number : ℕ) → count_ones number < ones → count_of_fewer ones (suc number) ≡ suc (count_of_fewer ones number)
unfolding count_of_fewer
count_of_fewer-few ones number few = rw (lt-ltb (count_ones number) ones few) (omega arith)

-- a number of so many ones or more does not
pub count_of_fewer-many : (ones number : ℕ) → ones ≤ count_ones number → count_of_fewer ones (suc number) ≡ count_of_fewer ones number
unfolding count_of_fewer
count_of_fewer-many ones number many = rw (le-ltb (count_ones number) ones many) (omega arith)

-- nor do all those between two bounds
pub count_of_fewer-all_many : (bound ones start : ℕ) → start ≤ bound → ((number : ℕ) → start ≤ number → number < bound → ones ≤ count_ones number)
    → count_of_fewer ones bound ≡ count_of_fewer ones start
count_of_fewer-all_many zero ones start within many = ap (count_of_fewer ones) (omega arith)
count_of_fewer-all_many (suc bound) ones start within many =
    elim (cases_lt bound start) [
      | inl end ↦ ap (count_of_fewer ones) (omega arith)
      | inr more ↦
          count_of_fewer-many ones bound (many bound more (omega arith))
          ∙ count_of_fewer-all_many bound ones start more (λ number from below. many number from (omega arith))
    ]

-- where all numbers below a bound have fewer ones, all count
count_of_fewer-all_few : (bound ones : ℕ) → ((number : ℕ) → number < bound → count_ones number < ones) → count_of_fewer ones bound ≡ bound
count_of_fewer-all_few zero ones few = count_of_fewer-zero ones
count_of_fewer-all_few (suc bound) ones few =
    count_of_fewer-few ones bound (few bound (omega arith))
    ∙ ap suc (count_of_fewer-all_few bound ones (λ number below. few number (omega arith)))

-- a power of two above a smaller number is one more one
count_ones-above : (width low : ℕ) → low < 2 ^ width → count_ones (2 ^ width + low) ≡ suc (count_ones low)
count_ones-above width low below =
    let one : count_ones 1 ≡ 1 = ones-ones 1 in
    ap count_ones (omega arith) ∙ ones_cat width 1 low below ∙ omega arith

-- so the numbers from a power of two on count as those from zero on do for one one less
count_of_fewer-above : (more width ones : ℕ) → more ≤ 2 ^ width
    → count_of_fewer (suc ones) (2 ^ width + more) ≡ count_of_fewer (suc ones) (2 ^ width) + count_of_fewer ones more
count_of_fewer-above zero width ones within =
    let start : count_of_fewer (suc ones) (2 ^ width + 0) ≡ count_of_fewer (suc ones) (2 ^ width) = ap (count_of_fewer (suc ones)) (omega arith) in
    omega (arith, count_of_fewer-zero ones)
count_of_fewer-above (suc more) width ones within =
    let number = 2 ^ width + more in
    let before = count_of_fewer-above more width ones (omega arith) in
    let one_more = count_ones-above width more (omega arith) in
    let last : count_of_fewer (suc ones) (2 ^ width + suc more) ≡ count_of_fewer (suc ones) (suc number) = ap (count_of_fewer (suc ones)) (omega arith) in
    elim (cases_lt (count_ones more) ones) [
      | inl few ↦ omega (arith, count_of_fewer-few ones more few, count_of_fewer-few (suc ones) number (omega arith))
      | inr many ↦ omega (arith, count_of_fewer-many ones more many, count_of_fewer-many (suc ones) number (omega arith))
    ]

-- Pascal's rule
pascal : (width ones : ℕ) → count_of_fewer (suc ones) (2 ^ suc width) ≡ count_of_fewer (suc ones) (2 ^ width) + count_of_fewer ones (2 ^ width)
pascal width ones = ap (count_of_fewer (suc ones)) (power_above width) ∙ count_of_fewer-above (2 ^ width) width ones (omega arith)

-- no number has fewer than no ones
no_ones : (width : ℕ) → count_of_fewer 0 (2 ^ width) ≡ 0
no_ones width = count_of_fewer-all_many (2 ^ width) 0 0 (omega arith) (λ number from below. omega arith) ∙ count_of_fewer-zero 0

-- no number has more ones than bits
enough_ones : (width ones : ℕ) → width < ones → count_of_fewer ones (2 ^ width) ≡ 2 ^ width
enough_ones width ones enough = count_of_fewer-all_few (2 ^ width) ones (λ number below. omega (arith, ones-le width number below))

-- the triangle is symmetric: as many numbers have fewer than b ones as have a ones or more
pub count_of_fewer-both : (width a b : ℕ) → a + b ≡ suc width → count_of_fewer a (2 ^ width) + count_of_fewer b (2 ^ width) ≡ 2 ^ width
count_of_fewer-both width zero b sum = omega (arith, no_ones width, enough_ones width b (omega arith))
count_of_fewer-both width (suc a) zero sum = omega (arith, no_ones width, enough_ones width (suc a) (omega arith))
count_of_fewer-both zero (suc a) (suc b) sum = absurd (omega arith)
count_of_fewer-both (suc width) (suc a) (suc b) sum =
    let left = count_of_fewer-both width (suc a) b (omega arith) in
    let right = count_of_fewer-both width a (suc b) (omega arith) in
    omega (arith, pascal width a, pascal width b, power_above width)
