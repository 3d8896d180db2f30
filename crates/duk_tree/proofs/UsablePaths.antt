-- Usable numbers and their paths.
use Rattle.std.proofs.Common.{◌≡◌, ℕ, suc, ◌+◌, ◌*◌, ◌/◌, ◌%◌, ◌^◌, ◌<◌, ◌≤◌, List, [], ◌∷◌, length, refl, sym, ap, ◌∙◌, arith, inl, inr, subst}
use Rattle.std.proofs.Math.Nat.{pow-suc}
use Rattle.std.proofs.lemmas.Nat.{pow_pos, shl-shr}
use Rattle.std.proofs.lemmas.Nat.Bits.{bit_at-trailing_zeros, bit_at_cat_low, bit_at-zero}
use Rattle.std.proofs.lemmas.Bool.{cases_order}
use Rattle.std.specs.Int.{trailing_zeros, w32}
use Rattle.std.specs.Int.RustNames.{count_ones}
use Rattle.duk_tree.specs.Path.{last_place, IsPath, value_of, path_of, IsUsable}
use Rattle.duk_tree.proofs.PathsOfCounters.{multiple, value_of-path_from, IsPath-path_from, path_from-value_of, count_ones-value_of, IsUsable-counter}

pub path_of-value_of : (path : List ℕ) → IsPath path → path_of (value_of path) ≡ path
unfolding path_of
path_of-value_of path is_path = path_from-value_of 21 0 path refl is_path (omega arith)

pub IsPath-path_of : (counter : ℕ) → IsPath (path_of counter)
unfolding path_of
IsPath-path_of counter = (IsPath-path_from 21 0 counter refl).0

pub value_of-path_of : (counter : ℕ) → counter < 2 ^ 21 → value_of (path_of counter) ≡ counter
unfolding path_of
value_of-path_of counter fits = value_of-path_from 21 0 counter refl fits ∙ omega arith

-- the path of a usable number, with its bounds
pub usable_path : (counter : ℕ) → IsUsable counter → (counter < 2 ^ 21) × (1 ≤ length (path_of counter)) × (length (path_of counter) ≤ 10)
usable_path counter is_usable =
    let same : path_of counter ≡ is_usable.path = ap path_of (sym is_usable.value_is) ∙ path_of-value_of is_usable.path is_usable.path_is in
    let long = ap length same in
    (IsUsable-counter counter is_usable, omega (arith, is_usable.not_the_root), omega (arith, is_usable.ten_ones_at_most))

pub usable_value : (path : List ℕ) → IsPath path → 1 ≤ length path → length path ≤ 10 → IsUsable (value_of path)
usable_value path is_path some few = record {
  path = path;
  path_is = is_path;
  value_is = refl;
  not_the_root = some;
  ten_ones_at_most = few;
}

-- a path that is not the root has a value
pub some_value : (path : List ℕ) → 1 ≤ length path → 0 < value_of path
some_value [] some = absurd (omega arith)
some_value (place ∷ parent) some = omega (arith, pow_pos place)

pub some_length : (path : List ℕ) → 0 < value_of path → 1 ≤ length path
some_length [] some = absurd (omega arith)
some_length (place ∷ parent) some = omega arith

pub count_ones-path_of : (counter : ℕ) → counter < 2 ^ 21 → count_ones counter ≡ length (path_of counter)
count_ones-path_of counter fits = ap count_ones (sym (value_of-path_of counter fits)) ∙ count_ones-value_of (path_of counter) (IsPath-path_of counter)

-- a number is an odd multiple of the power of two at its last place
pub odd_multiple : (place : ℕ) (parent : List ℕ) → IsPath (place ∷ parent) → (times : ℕ) × (value_of parent ≡ times * 2 ^ suc place) × (value_of (place ∷ parent) ≡ (2 * times + 1) * 2 ^ place)
odd_multiple place parent is_path =
    let above = multiple parent (suc place) is_path.1 is_path.0 in
    let doubled : 2 ^ suc place ≡ 2 ^ place + 2 ^ place = pow-suc 2 place ∙ omega arith in
    (above.0, above.1, ap (λ n. 2 ^ place + n) (above.1 ∙ ap (λ n. above.0 * n) doubled) ∙ omega arith)

lowest_bit : (a place n : ℕ) → n ≡ (2 * a + 1) * 2 ^ place → n / 2 ^ place % 2 ≡ 1
lowest_bit a place n split = let shifted : n / 2 ^ place ≡ 2 * a + 1 = ap (λ n. n / 2 ^ place) split ∙ shl-shr (2 * a + 1) place in omega arith

bits_below : (a place n i : ℕ) → n ≡ (2 * a + 1) * 2 ^ place → i < place → n / 2 ^ i % 2 ≡ 0
bits_below a place n i split below =
    ap (λ n. n / 2 ^ i % 2) (split ∙ omega arith) ∙ bit_at_cat_low (2 * a + 1) place 0 i below ∙ bit_at-zero i

trailing_path : (counter : ℕ) (path : List ℕ) → path_of counter ≡ path → 0 < counter → counter < 2 ^ 21 → trailing_zeros w32 counter ≡ last_place path
trailing_path counter [] same some fits =
    let value : counter ≡ 0 = sym (value_of-path_of counter fits) ∙ ap value_of same in
    absurd (omega arith)
trailing_path counter (place ∷ parent) same some fits =
    let split = odd_multiple place parent (subst IsPath same (IsPath-path_of counter)) in
    let value : counter ≡ (2 * split.0 + 1) * 2 ^ place = sym (value_of-path_of counter fits) ∙ ap value_of same ∙ split.2 in
    let lowest = bit_at-trailing_zeros w32 counter some (omega arith) in
    let zeros = trailing_zeros w32 counter in
    let here = lowest_bit split.0 place counter value in
    elim (cases_order zeros place) [
      | inl equal ↦ equal
      | inr apart ↦
          elim apart [
            | inl below ↦ absurd (omega (arith, lowest.1, bits_below split.0 place counter zeros value below))
            | inr above ↦ absurd (omega (arith, here, lowest.2 place above))
          ]
    ]

pub trailing_zeros-path_of : (counter : ℕ) → 0 < counter → counter < 2 ^ 21 → trailing_zeros w32 counter ≡ last_place (path_of counter)
trailing_zeros-path_of counter some fits = trailing_path counter (path_of counter) refl some fits

place_le : (path : List ℕ) → IsPath path → last_place path ≤ 21
place_le [] is_path = omega arith
place_le (place ∷ parent) is_path = omega (arith, place_le parent is_path.1, is_path.0)

place_lt : (path : List ℕ) → IsPath path → 1 ≤ length path → last_place path < 21
place_lt [] is_path some = absurd (omega arith)
place_lt (place ∷ parent) is_path some = omega (arith, place_le parent is_path.1, is_path.0)

pub usable_place : (counter : ℕ) → IsUsable counter → last_place (path_of counter) < 21
usable_place counter is_usable = place_lt (path_of counter) (IsPath-path_of counter) (usable_path counter is_usable).1
