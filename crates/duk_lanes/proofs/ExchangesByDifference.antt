-- An exchange of bits of two words, by their difference under a mask.
use Rattle.std.proofs.Common.{◌≡◌, ℕ, ◌+◌, ◌*◌, ◌/◌, ◌%◌, ◌^◌, ◌<◌, Bool, true, false, cond, ◌&&◌, refl, ap, ◌∙◌, arith}
use mathlib.Core.Bool.{xor}
use lib.Bits.{bit_and, bit_xor}
use Rattle.duk_lanes.specs.Words.{word_lane}
use Rattle.duk_lanes.specs.inner.Exchanges.{IsExchanged}
use Rattle.duk_lanes.proofs.LanesOfWords.{lane-and, lane-xor, lane-shr, lane-shl, lane-shl_below}

to_first : (m a b : Bool) → xor a (xor a b && m) ≡ cond m b a
unfolding xor
to_first true true true = refl
to_first true true false = refl
to_first true false true = refl
to_first true false false = refl
to_first false true true = refl
to_first false true false = refl
to_first false false true = refl
to_first false false false = refl

to_second : (m a b : Bool) → xor b (xor a b && m) ≡ cond m a b
unfolding xor
to_second true true true = refl
to_second true true false = refl
to_second true false true = refl
to_second true false false = refl
to_second false true true = refl
to_second false true false = refl
to_second false false true = refl
to_second false false false = refl

xor_none : (b : Bool) → xor b false ≡ b
unfolding xor
xor_none true = refl
xor_none false = refl

module _ (first second distance mask : ℕ) where
  abbrev differing : ℕ
  differing = bit_and (bit_xor first (second / 2 ^ distance)) mask

  lane-differing : (i : ℕ) → word_lane differing i ≡ xor (word_lane first i) (word_lane second (distance + i)) && word_lane mask i
  lane-differing i =
      lane-and (bit_xor first (second / 2 ^ distance)) mask i
      ∙ ap (λ bit. bit && word_lane mask i)
      (lane-xor first (second / 2 ^ distance) i ∙ ap (xor (word_lane first i)) (lane-shr second distance i))

  pub exchanged_by_difference : distance < 64
      → IsExchanged distance mask first second (bit_xor first differing) (bit_xor second (differing * 2 ^ distance % 2 ^ 64))
  exchanged_by_difference short = record {
    of_first = λ i within.
        lane-xor first differing i
        ∙ ap (xor (word_lane first i)) (lane-differing i)
        ∙ to_first (word_lane mask i) (word_lane first i) (word_lane second (distance + i));
    of_second = λ i within.
        lane-xor second (differing * 2 ^ distance % 2 ^ 64) (distance + i)
        ∙ ap (xor (word_lane second (distance + i))) (lane-shl differing distance i within ∙ lane-differing i)
        ∙ to_second (word_lane mask i) (word_lane first i) (word_lane second (distance + i));
    below = λ i near.
        lane-xor second (differing * 2 ^ distance % 2 ^ 64) i
        ∙ ap (xor (word_lane second i)) (lane-shl_below differing distance i near (omega arith))
        ∙ xor_none (word_lane second i);
  }
