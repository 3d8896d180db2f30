-- What only private functions and proofs say beside `Image.antt`: this project's own.
use Rattle.std.specs.Prelude.{◌≡◌, ◌≤◌, ◌⊎◌, ℕ, List, length, slice_index}
use Rattle.duk_regs.specs.Image.{past_count_in}

-- what is known of the bytes of an image: their length by their version, and how many numbers are
-- past
pub record AreImageBytes (bytes : List ℕ) : Type 0 where
  pub least : 350 ≤ length bytes
  pub version : (slice_index bytes 0 ≡ 1) ⊎ ((slice_index bytes 0 ≡ 2) × (length bytes ≡ 431))
  pub few : slice_index bytes 0 ≡ 2 → past_count_in bytes ≤ 8
