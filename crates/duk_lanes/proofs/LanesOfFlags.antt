-- The lanes of a word, once one more bit is put into a lane that had none.
use Rattle.std.proofs.Common.{◌≡◌, ℕ, zero, suc, ◌+◌, ◌-◌, ◌*◌, ◌%◌, ◌^◌, ◌<◌, ◌≢◌, ◌==◌, Bool, true, false, ◌||◌, bit_or, refl, ap, ◌∙◌, arith}
use mir.Val.{bool_byte}
use Rattle.std.proofs.lemmas.Nat.Bits.{bit_at-zero, bit_at-pow_other}
use Rattle.duk_lanes.specs.Words.{word_lane}
use Rattle.duk_lanes.proofs.BitsOfWords.{both}
use Rattle.duk_lanes.proofs.LanesOfWords.{lane-or, lane-shl, lane-shl_below}

or_false : (b : Bool) → (b || false) ≡ b
or_false true = refl
or_false false = refl

lowest_lane : (bit : ℕ) → bit < 2 → word_lane bit 0 ≡ (bit == 1)
unfolding word_lane
lowest_lane zero small = refl
lowest_lane (suc zero) small = refl
lowest_lane (suc (suc bit)) small = absurd (omega arith)

other_lane : (bit i : ℕ) → bit < 2 → i ≢ 0 → word_lane bit i ≡ false
unfolding word_lane
other_lane zero i small other = ap (λ n. n == 1) (bit_at-zero i)
other_lane (suc zero) i small other = ap (λ n. n == 1) (bit_at-pow_other 0 i other)
other_lane (suc (suc bit)) i small other = absurd (omega arith)

pub small_flag : (flag : Bool) (bit : ℕ) → bit ≡ bool_byte flag → bit < 2
small_flag true bit is = omega arith
small_flag false bit is = omega arith

is_flag : (flag : Bool) (bit : ℕ) → bit ≡ bool_byte flag → (bit == 1) ≡ flag
is_flag true bit is = ap (λ n. n == 1) is
is_flag false bit is = ap (λ n. n == 1) is

module _ (word bit place : ℕ) (flag : Bool) (is : bit ≡ bool_byte flag) (within : place < 64) where
  pub lane_below : (i : ℕ) → i < place → word_lane (bit_or word (bit * 2 ^ place % 2 ^ 64)) i ≡ word_lane word i
  lane_below i below =
      lane-or word (bit * 2 ^ place % 2 ^ 64) i
      ∙ ap (λ b. word_lane word i || b) (lane-shl_below bit place i below (omega arith))
      ∙ or_false (word_lane word i)

  pub lane_there : word_lane word place ≡ false → word_lane (bit_or word (bit * 2 ^ place % 2 ^ 64)) place ≡ flag
  lane_there clear =
      let same : place ≡ place + 0 = omega arith in
      lane-or word (bit * 2 ^ place % 2 ^ 64) place
      ∙ both (λ a b. a || b) clear
      (ap (word_lane (bit * 2 ^ place % 2 ^ 64)) same ∙ lane-shl bit place 0 (omega arith) ∙ lowest_lane bit (small_flag flag bit is) ∙ is_flag flag bit is)

  pub lane_above : (i : ℕ) → place < i → i < 64 → word_lane word i ≡ false → word_lane (bit_or word (bit * 2 ^ place % 2 ^ 64)) i ≡ false
  lane_above i above fits clear =
      let same : i ≡ place + (i - place) = omega arith in
      let other : i - place ≢ 0 = omega arith in
      lane-or word (bit * 2 ^ place % 2 ^ 64) i
      ∙ both (λ a b. a || b) clear
      (ap (word_lane (bit * 2 ^ place % 2 ^ 64)) same ∙ lane-shl bit place (i - place) (omega arith) ∙ other_lane bit (i - place) (small_flag flag bit is) other)
