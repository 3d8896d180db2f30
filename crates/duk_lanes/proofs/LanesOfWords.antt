-- The lanes of words that gates, complements and shifts make.
use Rattle.std.proofs.Common.{◌≡◌, ℕ, zero, suc, ◌+◌, ◌-◌, ◌*◌, ◌/◌, ◌%◌, ◌^◌, ◌<◌, ◌==◌, min, max, false, not, ◌&&◌, ◌||◌, refl, sym, ap, ◌∙◌, arith}
use mathlib.Core.Bool.{xor}
use lib.Bits.{bit_and, bit_or, bit_xor}
use Rattle.std.specs.Int.{w64, bit_at}
use Rattle.std.proofs.lemmas.Nat.{pow_pos, shr-shr, shr_split}
use Rattle.std.proofs.lemmas.Nat.Bits.{bit_at_and, bit_at_or, bit_at_xor, bit_at_not, bit_at-lt, bit_at-zero, bit_at_ones, bit_at_cat_low, bit_at_cat_high}
use Rattle.duk_lanes.specs.Words.{word_lane}

-- two bits, zero or one
least : (p q : ℕ) → p < 2 → q < 2 → (min p q == 1) ≡ ((p == 1) && (q == 1))
least zero zero h k = refl
least zero (suc zero) h k = refl
least (suc zero) zero h k = refl
least (suc zero) (suc zero) h k = refl
least zero (suc (suc q)) h k = absurd (omega arith)
least (suc zero) (suc (suc q)) h k = absurd (omega arith)
least (suc (suc p)) q h k = absurd (omega arith)

greatest : (p q : ℕ) → p < 2 → q < 2 → (max p q == 1) ≡ ((p == 1) || (q == 1))
greatest zero zero h k = refl
greatest zero (suc zero) h k = refl
greatest (suc zero) zero h k = refl
greatest (suc zero) (suc zero) h k = refl
greatest zero (suc (suc q)) h k = absurd (omega arith)
greatest (suc zero) (suc (suc q)) h k = absurd (omega arith)
greatest (suc (suc p)) q h k = absurd (omega arith)

sum : (p q : ℕ) → p < 2 → q < 2 → ((p + q) % 2 == 1) ≡ xor (p == 1) (q == 1)
unfolding xor
sum zero zero h k = refl
sum zero (suc zero) h k = refl
sum (suc zero) zero h k = refl
sum (suc zero) (suc zero) h k = refl
sum zero (suc (suc q)) h k = absurd (omega arith)
sum (suc zero) (suc (suc q)) h k = absurd (omega arith)
sum (suc (suc p)) q h k = absurd (omega arith)

complement : (p : ℕ) → p < 2 → (1 - p == 1) ≡ not (p == 1)
complement zero h = refl
complement (suc zero) h = refl
complement (suc (suc p)) h = absurd (omega arith)

pub lane-and : (a b i : ℕ) → word_lane (bit_and a b) i ≡ word_lane a i && word_lane b i
unfolding word_lane
lane-and a b i = ap (λ n. n == 1) (bit_at_and a b i) ∙ least _ _ (bit_at-lt a i) (bit_at-lt b i)

pub lane-or : (a b i : ℕ) → word_lane (bit_or a b) i ≡ word_lane a i || word_lane b i
unfolding word_lane
lane-or a b i = ap (λ n. n == 1) (bit_at_or a b i) ∙ greatest _ _ (bit_at-lt a i) (bit_at-lt b i)

pub lane-xor : (a b i : ℕ) → word_lane (bit_xor a b) i ≡ xor (word_lane a i) (word_lane b i)
unfolding word_lane
lane-xor a b i = ap (λ n. n == 1) (bit_at_xor a b i) ∙ sum _ _ (bit_at-lt a i) (bit_at-lt b i)

pub lane-not : (a i : ℕ) → a < 2 ^ 64 → i < 64 → word_lane (2 ^ 64 - 1 - a) i ≡ not (word_lane a i)
unfolding word_lane
lane-not a i fits within = ap (λ n. n == 1) (bit_at_not w64 a i fits within) ∙ complement _ (bit_at-lt a i)

pub lane-and_not : (a b i : ℕ) → b < 2 ^ 64 → i < 64 → word_lane (bit_and a (2 ^ 64 - 1 - b)) i ≡ word_lane a i && not (word_lane b i)
lane-and_not a b i fits within = lane-and a (2 ^ 64 - 1 - b) i ∙ ap (λ bit. word_lane a i && bit) (lane-not b i fits within)

-- a word that is shifted down
pub lane-shr : (a distance i : ℕ) → word_lane (a / 2 ^ distance) i ≡ word_lane a (distance + i)
unfolding word_lane
lane-shr a distance i = ap (λ n. n % 2 == 1) (shr-shr a distance i)

-- the lowest bits of a number are left
pub bit_at-low : (width n i : ℕ) → i < width → bit_at (n % 2 ^ width) i ≡ bit_at n i
bit_at-low width n i within =
    sym (bit_at_cat_low (n / 2 ^ width) width (n % 2 ^ width) i within) ∙ ap (λ m. bit_at m i) (shr_split n width)

-- a word that is shifted up
pub lane-shl : (a distance i : ℕ) → distance + i < 64 → word_lane (a * 2 ^ distance % 2 ^ 64) (distance + i) ≡ word_lane a i
unfolding word_lane
lane-shl a distance i within =
    let plain : a * 2 ^ distance ≡ a * 2 ^ distance + 0 = omega arith in
    let back : distance + i - distance ≡ i = omega arith in
    ap (λ n. n == 1)
    (bit_at-low 64 (a * 2 ^ distance) (distance + i) within
    ∙ ap (λ n. bit_at n (distance + i)) plain
    ∙ bit_at_cat_high a distance 0 (distance + i) (pow_pos distance) (omega arith)
    ∙ ap (bit_at a) back)

pub lane-shl_below : (a distance i : ℕ) → i < distance → i < 64 → word_lane (a * 2 ^ distance % 2 ^ 64) i ≡ false
unfolding word_lane
lane-shl_below a distance i below within =
    let plain : a * 2 ^ distance ≡ a * 2 ^ distance + 0 = omega arith in
    ap (λ n. n == 1)
    (bit_at-low 64 (a * 2 ^ distance) i within
    ∙ ap (λ n. bit_at n i) plain
    ∙ bit_at_cat_low a distance 0 i below
    ∙ bit_at-zero i)

-- the negative of one bit has it in all lanes
pub lane-neg : (bit negative i : ℕ) → bit < 2 → negative < 2 ^ 64 → (negative + bit) % 2 ^ 64 ≡ 0 → i < 64 → word_lane negative i ≡ (bit == 1)
unfolding word_lane
lane-neg zero negative i b fits e within =
    let none : negative ≡ 0 = omega arith in
    ap (λ n. n == 1) (ap (λ n. bit_at n i) none ∙ bit_at-zero i)
lane-neg (suc zero) negative i b fits e within =
    let all : negative ≡ 2 ^ 64 - 1 = omega arith in
    ap (λ n. n == 1) (ap (λ n. bit_at n i) all ∙ bit_at_ones 64 i within)
lane-neg (suc (suc bit)) negative i b fits e within = absurd (omega arith)
