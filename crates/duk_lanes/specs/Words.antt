-- Words of 64 bits, and pairs of them, as lanes: this project's own.
use Rattle.std.specs.Prelude.{ℕ, ◌-◌, ◌==◌, Bool, List, nat_lt, if◌then◌else◌, slice_index}
use Rattle.std.specs.Int.{bit_at}

-- the bit of a word in a lane: lane 0 is the lowest bit
unfoldable pub word_lane : ℕ → ℕ → Bool
word_lane word i = bit_at word i == 1

-- the bit of a pair of words in a lane: lane 0 is the lowest bit of the first word, and lane 64 that
-- of the second
unfoldable pub wide_lane : List ℕ → ℕ → Bool
wide_lane pair i = if nat_lt i 64 then word_lane (slice_index pair 0) i else word_lane (slice_index pair 1) (i - 64)
