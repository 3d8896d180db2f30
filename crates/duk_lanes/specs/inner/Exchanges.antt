-- Exchanges of bits of two words, as only private functions and proofs speak of them: this
-- project's own.
use Rattle.std.specs.Prelude.{◌≡◌, ◌<◌, ℕ, ◌+◌, cond}
use Rattle.duk_lanes.specs.Words.{word_lane}

-- two words become two others: each lane of the first under the mask is exchanged with the lane of
-- the second that stands so many lanes above it, and all other lanes stay
pub record IsExchanged (distance mask first second new_first new_second : ℕ) : Type 0 where
  pub of_first : (i : ℕ) → i < 64
      → word_lane new_first i ≡ cond (word_lane mask i) (word_lane second (distance + i)) (word_lane first i)
  pub of_second : (i : ℕ) → distance + i < 64
      → word_lane new_second (distance + i) ≡ cond (word_lane mask i) (word_lane first i) (word_lane second (distance + i))
  pub below : (i : ℕ) → i < distance → word_lane new_second i ≡ word_lane second i
