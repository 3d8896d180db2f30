-- Past initial key serial numbers in the front of an array of eight: this project's own.
use Rattle.std.specs.Prelude.{◌≡◌, ℕ, ◌-◌, ◌≤◌, List, ◌++◌, length, take, replicate}

-- the first ones are in use, and each place after them is zero
pub record ArePadded (iksns : List ℕ) (count : ℕ) : Type 0 where
  pub fits : count ≤ 8
  pub used : length (take count iksns) ≡ count
  pub padded : iksns ≡ take count iksns ++ replicate (8 - count) 0
