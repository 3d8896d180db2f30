-- The nodes of a block of counters, each below its parent.
use Rattle.std.proofs.Common.{◌≡◌, ℕ, zero, suc, ◌+◌, ◌-◌, ◌*◌, ◌/◌, ◌%◌, ◌^◌, ◌<◌, ◌≤◌, List, [], ◌∷◌, refl, sym, ap, subst, ◌∙◌, inl, inr, arith}
use Rattle.std.proofs.lemmas.Bool.{cases_lt}
use Rattle.std.proofs.lemmas.Nat.Bits.{bit_at-trailing_zeros, bit_at_cat_low, bit_at-zero}
use Rattle.std.specs.Int.{bit_at, trailing_zeros, w32}
use Rattle.duk_tree.specs.Derivation.{step_of, transaction_key_of, node_key}
use Rattle.duk_tree.specs.Path.{IsPath, value_of, path_of, last_place}
use Rattle.duk_tree.specs.Serial.{low_bytes}

-- what the laws of the key tree say of paths
pub record PathLaws : Type 0 where
  pub is_path : (counter : ℕ) → counter < 2 ^ 21 → IsPath (path_of counter)
  pub value : (counter : ℕ) → counter < 2 ^ 21 → value_of (path_of counter) ≡ counter
  pub only : (path : List ℕ) → IsPath path → path_of (value_of path) ≡ path
  pub lowest : (counter : ℕ) → 0 < counter → counter < 2 ^ 21 → trailing_zeros w32 counter ≡ last_place (path_of counter)

-- a multiple of a power of two has zeros below its bit
bit_of_multiple : (counter low i : ℕ) → counter % 2 ^ low ≡ 0 → i < low → bit_at counter i ≡ 0
bit_of_multiple counter low i whole below =
    let split : counter ≡ counter / 2 ^ low * 2 ^ low + 0 = omega arith in
    ap (λ n. bit_at n i) split ∙ bit_at_cat_low (counter / 2 ^ low) low 0 i below ∙ bit_at-zero i

module _ (laws : PathLaws) where
  -- so its last place is not below that
  place_of_multiple : (counter place : ℕ) → place < 21 → counter < 2 ^ 21 → counter % 2 ^ suc place ≡ 0 → place < last_place (path_of counter)
  place_of_multiple zero place within fits whole = subst (λ path. place < last_place path) (sym (laws.only [] tt)) within
  place_of_multiple (suc n) place within fits whole =
      let lowest = bit_at-trailing_zeros w32 (suc n) (omega arith) (omega arith) in
      elim (cases_lt place (trailing_zeros w32 (suc n))) [
        | inl above ↦ omega (arith, laws.lowest (suc n) (omega arith) fits)
        | inr not_above ↦ absurd (omega (arith, lowest.1, bit_of_multiple (suc n) (suc place) (trailing_zeros w32 (suc n)) whole (omega arith)))
      ]

  pub path_of-child : (counter place : ℕ) → place < 21 → counter < 2 ^ 21 → counter % 2 ^ suc place ≡ 0 → path_of (counter + 2 ^ place) ≡ place ∷ path_of counter
  path_of-child counter place within fits whole =
      let sum : counter + 2 ^ place ≡ value_of (place ∷ path_of counter) = omega (arith, laws.value counter fits) in
      ap path_of sum ∙ laws.only (place ∷ path_of counter) (place_of_multiple counter place within fits whole, laws.is_path counter fits)

  -- the key of a child, from its parent's
  pub key_of_child : (initial : List ℕ) (iksn counter place : ℕ) → place < 21 → counter < 2 ^ 21 → counter % 2 ^ suc place ≡ 0
      → transaction_key_of initial iksn (counter + 2 ^ place)
      ≡ step_of (transaction_key_of initial iksn counter) (low_bytes (record { iksn = iksn; counter = counter + 2 ^ place }))
  key_of_child initial iksn counter place within fits whole =
      let sum : value_of (place ∷ path_of counter) ≡ counter + 2 ^ place = omega (arith, laws.value counter fits) in
      ap (node_key initial iksn) (path_of-child counter place within fits whole)
      ∙ ap (λ n. step_of (transaction_key_of initial iksn counter) (low_bytes (record { iksn = iksn; counter = n }))) sum

-- the counter of a row and a lane is a multiple of each power of two up to 64 of which the row is one
pub row_is_multiple : (place base i low : ℕ) → place ≤ 6 → base % 64 ≡ 0 → low % 2 ^ place ≡ 0 → (base + 64 * i + low) % 2 ^ place ≡ 0
row_is_multiple zero base i low within whole row = omega arith
row_is_multiple (suc zero) base i low within whole row = omega arith
row_is_multiple (suc (suc zero)) base i low within whole row = omega arith
row_is_multiple (suc (suc (suc zero))) base i low within whole row = omega arith
row_is_multiple (suc (suc (suc (suc zero)))) base i low within whole row = omega arith
row_is_multiple (suc (suc (suc (suc (suc zero))))) base i low within whole row = omega arith
row_is_multiple (suc (suc (suc (suc (suc (suc zero)))))) base i low within whole row = omega arith
row_is_multiple (suc (suc (suc (suc (suc (suc (suc n))))))) base i low within whole row = absurd (omega arith)

-- the rows from one on, two to the power of a place of them, as two halves
pub record IsSplit (place low : ℕ) : Type 0 where
  pub next : suc (place - 1) ≡ place
  pub shifted : 1 * 2 ^ (place - 1) % 256 ≡ 2 ^ (place - 1)
  pub doubled : 2 ^ place ≡ 2 ^ (place - 1) + 2 ^ (place - 1)
  pub some : 0 < 2 ^ (place - 1)
  pub first : low % 2 ^ (place - 1) ≡ 0
  pub second : (low + 2 ^ (place - 1)) % 2 ^ (place - 1) ≡ 0

pub split : (place low : ℕ) → 0 < place → place ≤ 6 → low % 2 ^ place ≡ 0 → IsSplit place low
split zero low some within whole = absurd (omega arith)
split (suc zero) low some within whole = record { next = refl; shifted = refl; doubled = refl; some = omega arith; first = omega arith; second = omega arith }
split (suc (suc zero)) low some within whole = record { next = refl; shifted = refl; doubled = refl; some = omega arith; first = omega arith; second = omega arith }
split (suc (suc (suc zero))) low some within whole = record { next = refl; shifted = refl; doubled = refl; some = omega arith; first = omega arith; second = omega arith }
split (suc (suc (suc (suc zero)))) low some within whole = record { next = refl; shifted = refl; doubled = refl; some = omega arith; first = omega arith; second = omega arith }
split (suc (suc (suc (suc (suc zero))))) low some within whole = record { next = refl; shifted = refl; doubled = refl; some = omega arith; first = omega arith; second = omega arith }
split (suc (suc (suc (suc (suc (suc zero)))))) low some within whole = record { next = refl; shifted = refl; doubled = refl; some = omega arith; first = omega arith; second = omega arith }
split (suc (suc (suc (suc (suc (suc (suc n))))))) low some within whole = absurd (omega arith)

-- the counters of a block fit
pub in_block : (base i low width : ℕ) → base + 64 * width ≤ 2 ^ 21 → i < width → low < 64 → base + 64 * i + low < 2 ^ 21
in_block base i low width fits lane row = omega arith

-- in each lane, the key of the second half's first row
pub lane_of_child : PathLaws → (initial : List ℕ) (iksn base place low child i : ℕ) → 0 < place → place ≤ 6 → IsSplit place low → child ≡ low + 2 ^ (place - 1)
    → base % 64 ≡ 0 → low % 2 ^ place ≡ 0 → base + 64 * i + low < 2 ^ 21
    → step_of (transaction_key_of initial iksn (base + 64 * i + low)) (low_bytes (record { iksn = iksn; counter = base + 64 * i + child }))
    ≡ transaction_key_of initial iksn (base + 64 * i + child)
lane_of_child laws initial iksn base place low child i some within halves is whole row fits =
    let counter = base + 64 * i + low in
    let sum : base + 64 * i + child ≡ counter + 2 ^ (place - 1) = omega arith in
    let multiple : counter % 2 ^ suc (place - 1) ≡ 0 = ap (λ n. counter % 2 ^ n) halves.next ∙ row_is_multiple place base i low within whole row in
    ap (λ n. step_of (transaction_key_of initial iksn counter) (low_bytes (record { iksn = iksn; counter = n }))) sum
    ∙ sym (key_of_child laws initial iksn counter (place - 1) (omega arith) fits multiple)
    ∙ ap (transaction_key_of initial iksn) (sym sum)
