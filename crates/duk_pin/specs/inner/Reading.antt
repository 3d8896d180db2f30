-- What is tested of nibbles that may be a PIN field (this project's own).
use Rattle.std.specs.Prelude.{◌≡◌, ℕ, ◌<◌, ◌≤◌, List, take, drop, slice_index, All}

-- 0, a length of 4 to 12, as many digits, and F
pub record ReadsAsPin (field : List ℕ) : Type 0 where
  pub format : slice_index field 0 ≡ 0
  pub at_least : 4 ≤ slice_index field 1
  pub at_most : slice_index field 1 ≤ 12
  pub digits : All (λ nibble. nibble < 10) (take (slice_index field 1) (drop 2 field))
  pub filler : All (λ nibble. nibble ≡ 0xF) (drop (slice_index field 1) (drop 2 field))
