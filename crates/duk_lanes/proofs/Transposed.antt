-- Six passes of exchanges transpose a matrix of 64 by 64 bits.
use Rattle.std.proofs.Common.{◌≡◌, ℕ, zero, suc, ◌+◌, ◌-◌, ◌*◌, ◌/◌, ◌%◌, ◌<◌, ◌==◌, nat_lt, Bool, true, false, cond, ◌&&◌, IsTrue, List, get_or, inl, inr, refl, sym, ap, subst, ◌∙◌, arith}
use Rattle.std.proofs.lemmas.Bool.{cases_lt, cond-true, cond-false, cond_both, eqb-true, ltb-true, ltb-false}
use Rattle.duk_lanes.specs.Words.{word_lane}
use Rattle.duk_lanes.specs.inner.Exchanges.{IsExchanged}

-- ---- a test of each number below another
abbrev each_below : ℕ → (ℕ → Bool) → Bool
each_below zero test = true
each_below (suc n) test = test n && each_below n test

both_true : (a b : Bool) → IsTrue (a && b) → IsTrue a × IsTrue b
both_true true b h = (refl, h)
both_true false b h = cc

passes_below : (n : ℕ) (test : ℕ → Bool) → IsTrue (each_below n test) → (k : ℕ) → k < n → IsTrue (test k)
passes_below zero test h k within = absurd (omega arith)
passes_below (suc n) test h k within =
    let parts = both_true (test n) (each_below n test) h in
    elim (cases_lt k n) [
      | inl lower ↦ passes_below n test parts.1 k lower
      | inr last ↦ let same : n ≡ k = omega arith in subst (λ m. IsTrue (test m)) same parts.0
    ]

-- ---- the bits of 64 words by numbers: bit i of word p has the number 64 p + i
abbrev bit_numbered : List ℕ → ℕ → Bool
bit_numbered words n = word_lane (get_or words (n / 64) 0) (n % 64)

bit_numbered-is : (words : List ℕ) (p i : ℕ) → i < 64 → bit_numbered words (64 * p + i) ≡ word_lane (get_or words p 0) i
bit_numbered-is words p i within =
    let row : (64 * p + i) / 64 ≡ p = omega arith in
    let lane : (64 * p + i) % 64 ≡ i = omega arith in
    ap (λ r. word_lane (get_or words r 0) ((64 * p + i) % 64)) row ∙ ap (word_lane (get_or words p 0)) lane

-- which bit a pass brings to a lane of word 2 k, and to that of word 2 k + 1
abbrev brought : ℕ → ℕ → ℕ → ℕ → ℕ → ℕ
brought distance mask k i zero = cond (word_lane mask i) (64 * (32 + k) + (distance + i)) (64 * k + i)
brought distance mask k i (suc side) =
    cond (nat_lt i distance) (64 * (32 + k) + i) (cond (word_lane mask (i - distance)) (64 * k + (i - distance)) (64 * (32 + k) + i))

source : ℕ → ℕ → ℕ → ℕ
source distance mask n = brought distance mask (n / 128) (n % 64) (n / 64 % 2)

-- what a pass ensures
abbrev pub IsPass : ℕ → ℕ → List ℕ → List ℕ → Type 0
IsPass distance mask words made =
    (k : ℕ) → k < 32 → IsExchanged distance mask (get_or words k 0) (get_or words (32 + k) 0) (get_or made (2 * k) 0) (get_or made (2 * k + 1) 0)

-- whether no lane under a mask is exchanged with one outside the word
abbrev stays_inside : ℕ → ℕ → Bool
stays_inside distance mask = each_below 64 (λ i. cond (word_lane mask i) (nat_lt (distance + i) 64) true)

module _ (distance mask : ℕ) (inside : IsTrue (stays_inside distance mask)) (words made : List ℕ) (pass : IsPass distance mask words made) where
  within_word : (i : ℕ) → i < 64 → word_lane mask i ≡ true → distance + i < 64
  within_word i within set =
      ltb-true (distance + i) 64
      (sym (cond-true (word_lane mask i) (nat_lt (distance + i) 64) true set)
      ∙ passes_below 64 (λ j. cond (word_lane mask j) (nat_lt (distance + j) 64) true) inside i within)

  -- a number of a bit before the pass, for a bit after it
  abbrev IsBrought : Bool → ℕ → Type 0
  IsBrought bit n = (bit ≡ bit_numbered words n) × (n < 4096)

  to_first : (k i : ℕ) → k < 32 → i < 64 → IsBrought (word_lane (get_or made (2 * k) 0) i) (brought distance mask k i 0)
  to_first k i row within =
      cond_both (word_lane mask i) (64 * (32 + k) + (distance + i)) (64 * k + i) (IsBrought (word_lane (get_or made (2 * k) 0) i))
      (λ set.
      let near : distance + i < 64 = within_word i within set in
      ((pass k row).of_first i within ∙ cond-true _ _ _ set ∙ sym (bit_numbered-is words (32 + k) (distance + i) near), omega arith))
      (λ clear. ((pass k row).of_first i within ∙ cond-false _ _ _ clear ∙ sym (bit_numbered-is words k i within), omega arith))

  to_second_above : (k i : ℕ) → k < 32 → i < 64 → distance < suc i
      → IsBrought (word_lane (get_or made (2 * k + 1) 0) i) (cond (word_lane mask (i - distance)) (64 * k + (i - distance)) (64 * (32 + k) + i))
  to_second_above k i row within far =
      let back : distance + (i - distance) ≡ i = omega arith in
      let moved = (pass k row).of_second (i - distance) (omega arith) in
      let lane = ap (word_lane (get_or made (2 * k + 1) 0)) (sym back) in
      cond_both (word_lane mask (i - distance)) (64 * k + (i - distance)) (64 * (32 + k) + i) (IsBrought (word_lane (get_or made (2 * k + 1) 0) i))
      (λ set. (lane ∙ moved ∙ cond-true _ _ _ set ∙ sym (bit_numbered-is words k (i - distance) (omega arith)), omega arith))
      (λ clear. (
        lane ∙ moved ∙ cond-false _ _ _ clear ∙ ap (word_lane (get_or words (32 + k) 0)) back ∙ sym (bit_numbered-is words (32 + k) i within),
        omega arith,
      ))

  to_second : (k i side : ℕ) → k < 32 → i < 64 → IsBrought (word_lane (get_or made (2 * k + 1) 0) i) (brought distance mask k i (suc side))
  to_second k i side row within =
      cond_both (nat_lt i distance) (64 * (32 + k) + i) (cond (word_lane mask (i - distance)) (64 * k + (i - distance)) (64 * (32 + k) + i))
      (IsBrought (word_lane (get_or made (2 * k + 1) 0) i))
      (λ near. ((pass k row).below i (ltb-true i distance near) ∙ sym (bit_numbered-is words (32 + k) i within), omega arith))
      (λ far. to_second_above k i row within (let lower = ltb-false i distance far in omega arith))

  by_side : (n : ℕ) → n < 4096 → (side : ℕ) → n / 64 % 2 ≡ side → IsBrought (bit_numbered made n) (brought distance mask (n / 128) (n % 64) side)
  by_side n h zero e =
      let row : n / 64 ≡ 2 * (n / 128) = omega arith in
      let there = to_first (n / 128) (n % 64) (omega arith) (omega arith) in
      (ap (λ r. word_lane (get_or made r 0) (n % 64)) row ∙ there.0, there.1)
  by_side n h (suc zero) e =
      let row : n / 64 ≡ 2 * (n / 128) + 1 = omega arith in
      let there = to_second (n / 128) (n % 64) 0 (omega arith) (omega arith) in
      (ap (λ r. word_lane (get_or made r 0) (n % 64)) row ∙ there.0, there.1)
  by_side n h (suc (suc side)) e = absurd (omega arith)

  moved : (n : ℕ) → n < 4096 → IsBrought (bit_numbered made n) (source distance mask n)
  unfolding source
  moved n h = by_side n h (n / 64 % 2) refl

-- ---- six passes
by_32 : IsTrue (stays_inside 32 0x00000000ffffffff)
unfolding word_lane
by_32 = refl

by_16 : IsTrue (stays_inside 16 0x0000ffff0000ffff)
unfolding word_lane
by_16 = refl

by_8 : IsTrue (stays_inside 8 0x00ff00ff00ff00ff)
unfolding word_lane
by_8 = refl

by_4 : IsTrue (stays_inside 4 0x0f0f0f0f0f0f0f0f)
unfolding word_lane
by_4 = refl

by_2 : IsTrue (stays_inside 2 0x3333333333333333)
unfolding word_lane
by_2 = refl

by_1 : IsTrue (stays_inside 1 0x5555555555555555)
unfolding word_lane
by_1 = refl

-- the number of the bit that they bring to a place
abbrev origin : ℕ → ℕ
origin n =
    source 32 0x00000000ffffffff (source 16 0x0000ffff0000ffff (source 8 0x00ff00ff00ff00ff
    (source 4 0x0f0f0f0f0f0f0f0f (source 2 0x3333333333333333 (source 1 0x5555555555555555 n)))))

abbrev mirrored : ℕ → ℕ
mirrored n = 64 * (63 - n % 64) + (63 - n / 64)

origins : IsTrue (each_below 4096 (λ n. origin n == mirrored n))
unfolding word_lane source
origins = refl

pub transposed_words : (rows first second third fourth fifth sixth : List ℕ)
    → IsPass 32 0x00000000ffffffff rows first → IsPass 16 0x0000ffff0000ffff first second → IsPass 8 0x00ff00ff00ff00ff second third
    → IsPass 4 0x0f0f0f0f0f0f0f0f third fourth → IsPass 2 0x3333333333333333 fourth fifth → IsPass 1 0x5555555555555555 fifth sixth
    → (p i : ℕ) → p < 64 → i < 64 → word_lane (get_or sixth p 0) i ≡ word_lane (get_or rows (63 - i) 0) (63 - p)
transposed_words rows first second third fourth fifth sixth p32 p16 p8 p4 p2 p1 p i row lane =
    let within : 64 * p + i < 4096 = omega arith in
    let mirror : mirrored (64 * p + i) ≡ 64 * (63 - i) + (63 - p) = omega arith in
    let e1 = moved 1 0x5555555555555555 by_1 fifth sixth p1 (64 * p + i) within in
    let e2 = moved 2 0x3333333333333333 by_2 fourth fifth p2 _ e1.1 in
    let e4 = moved 4 0x0f0f0f0f0f0f0f0f by_4 third fourth p4 _ e2.1 in
    let e8 = moved 8 0x00ff00ff00ff00ff by_8 second third p8 _ e4.1 in
    let e16 = moved 16 0x0000ffff0000ffff by_16 first second p16 _ e8.1 in
    let e32 = moved 32 0x00000000ffffffff by_32 rows first p32 _ e16.1 in
    sym (bit_numbered-is sixth p i lane)
    ∙ e1.0 ∙ e2.0 ∙ e4.0 ∙ e8.0 ∙ e16.0 ∙ e32.0
    ∙ ap (bit_numbered rows) (eqb-true _ _ (passes_below 4096 (λ n. origin n == mirrored n) origins (64 * p + i) within) ∙ mirror)
    ∙ bit_numbered-is rows (63 - i) (63 - p) (omega arith)
