-- Bounds of counters and of bit places.
use Rattle.std.proofs.Common.{◌≡◌, ◌≢◌, ℕ, ◌*◌, ◌%◌, ◌<◌, ◌≤◌, ◌^◌, ◌⊎◌, length, arith, inl, inr, Option, Some, None, IfSome, IsNone, ◌↔◌, refl}
use Rattle.std.specs.Option.{unwrap_or}
use Rattle.std.specs.Int.{trailing_zeros, w32}
use Rattle.std.specs.Int.RustNames.{count_ones}
use Rattle.std.proofs.lemmas.Nat.{pow_below, one_shl, ones_le_self}
use Rattle.duk_tree.specs.Path.{path_of, last_place, IsUsable}
use Rattle.duk_tree.specs.Next.{spent_counter, IsNextUsable, IsLast, ComesAfter}
use Rattle.duk_regs.specs.Registers.{lowest_place}

-- what the key tree promises of the bits of a counter
pub record BitLaws : Type 0 where
  pub usable : (counter : ℕ) → IsUsable counter → (counter < 2 ^ 21) × (1 ≤ length (path_of counter)) × (length (path_of counter) ≤ 10)
  pub place : (counter : ℕ) → IsUsable counter → last_place (path_of counter) < 21
  pub ones : (counter : ℕ) → counter < 2 ^ 21 → count_ones counter ≡ length (path_of counter)
  pub lowest : (counter : ℕ) → 0 < counter → counter < 2 ^ 21 → trailing_zeros w32 counter ≡ last_place (path_of counter)

-- a counter that is not spent is usable
pub usable_counter : (counter : ℕ) → IsUsable counter ⊎ (counter ≡ spent_counter) → counter ≢ spent_counter → IsUsable counter
usable_counter counter either unspent = elim either [ inl is_usable ↦ is_usable | inr spent ↦ absurd (unspent spent) ]

-- a next counter has 22 bits at most, and is not zero
pub counter_bounds : BitLaws → (counter : ℕ) → IsUsable counter ⊎ (counter ≡ spent_counter) → (1 ≤ counter) × (counter ≤ 2 ^ 21)
counter_bounds laws counter either =
    elim either [
      | inl is_usable ↦
          let bounds = laws.usable counter is_usable in
          (omega (arith, laws.ones counter bounds.0, ones_le_self counter, bounds.1), omega (arith, bounds.0))
      | inr spent ↦ (omega arith, omega arith)
    ]

pub trailing_place : BitLaws → (counter : ℕ) → IsUsable counter → trailing_zeros w32 counter ≡ lowest_place counter
trailing_place laws counter is_usable = laws.lowest counter (counter_bounds laws counter (inl is_usable)).0 (laws.usable counter is_usable).0

-- one shifted to a bit place
pub shifted : (place : ℕ) → place < 21 → (1 * 2 ^ place % 2 ^ 32 ≡ 2 ^ place) × (2 ^ place < 2 ^ 21)
shifted place within = (one_shl place 32 (omega arith), pow_below place 21 within)

-- what `next_usable` and spent together give
pub comes_after : (counter : ℕ) (found : Option ℕ) → IfSome found (IsNextUsable counter) → IsNone found ↔ IsLast counter → ComesAfter counter (unwrap_or found spent_counter)
comes_after counter (Some next) is_next none = inl is_next
comes_after counter None is_next none = inr (none.0 refl, refl)

-- a place below the lowest one bit that the code counts
pub place_below : BitLaws → (counter place : ℕ) → IsUsable counter → place < trailing_zeros w32 counter → (place < lowest_place counter) × (place < 21)
place_below laws counter place is_usable below =
    let lowest = trailing_place laws counter is_usable in
    (omega arith, omega (arith, laws.place counter is_usable))
