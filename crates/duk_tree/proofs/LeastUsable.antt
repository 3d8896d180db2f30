-- The least usable number above a counter.
use Rattle.std.proofs.Common.{◌≡◌, ℕ, zero, suc, ◌+◌, ◌-◌, ◌*◌, ◌/◌, ◌%◌, ◌^◌, ◌<◌, ◌≤◌, List, [], ◌∷◌, sym, ap, ◌∙◌, arith, inl, inr, lit<}
use Rattle.std.proofs.lemmas.Nat.{pow_pos, ones_cat, zero_from_ones, ones_le_self}
use lib.Count.{ones-ones}
use Rattle.std.proofs.lemmas.Bool.{cases_lt, cases_order}
use Rattle.std.specs.Int.{trailing_zeros, w32}
use Rattle.std.specs.Int.RustNames.{count_ones}
use Rattle.duk_tree.specs.Path.{last_place, IsPath, path_of, IsUsable}
use Rattle.duk_tree.specs.Next.{IsNextUsable, IsLast}
use Rattle.duk_tree.proofs.PathsOfCounters.{multiple, value_of-lt, count_ones-value_of, IsUsable-ones, IsUsable-from_ones, IsUsable-counter}
use Rattle.duk_tree.proofs.UsablePaths.{path_of-value_of, IsPath-path_of, value_of-path_of, usable_value, trailing_zeros-path_of}

-- the path of the greatest usable number
abbrev last_path : List ℕ
last_path = 11 ∷ 12 ∷ 13 ∷ 14 ∷ 15 ∷ 16 ∷ 17 ∷ 18 ∷ 19 ∷ 20 ∷ []

last_is_path : IsPath last_path
last_is_path = (lit< tt, (lit< tt, (lit< tt, (lit< tt, (lit< tt, (lit< tt, (lit< tt, (lit< tt, (lit< tt, (lit< tt, tt))))))))))

pub last_usable : IsUsable 0x1F_F800
last_usable = usable_value last_path last_is_path (omega arith) (omega arith)

-- a one added to some ones above it makes one more at least
more_ones : (a m rest : ℕ) → 0 < rest → rest < 2 ^ m → count_ones (a * 2 ^ m) < count_ones (a * 2 ^ m + rest)
more_ones a m rest some below =
    let both = ones_cat m a rest below in
    let alone : count_ones (a * 2 ^ m) ≡ count_ones a + count_ones 0 = ap count_ones (omega arith) ∙ ones_cat m a 0 (pow_pos m) in
    let none = ones_le_self 0 in
    elim (cases_lt 0 (count_ones rest)) [
      | inl one ↦ omega arith
      | inr zero_ones ↦ absurd (omega (arith, zero_from_ones rest (omega arith)))
    ]

pub some_ones : (n : ℕ) → 0 < n → 1 ≤ count_ones n
some_ones n some =
    elim (cases_lt 0 (count_ones n)) [
      | inl one ↦ omega arith
      | inr none ↦ absurd (omega (arith, zero_from_ones n (omega arith)))
    ]

-- adding one sets one bit at most
ones-suc_below : (k n : ℕ) → n < k → count_ones (n + 1) ≤ count_ones n + 1
ones-suc_below zero n below = absurd (omega arith)
ones-suc_below (suc k) n below =
    let h = n / 2 in
    let none = ones_le_self 0 in
    let one : count_ones 1 ≡ 1 = ones-ones 1 in
    let even = ones_cat 1 h 0 (omega arith) in
    let odd = ones_cat 1 h 1 (omega arith) in
    elim (cases_lt (n % 2) 1) [
      | inl even_n ↦
          let same : count_ones n ≡ count_ones (h * 2 ^ 1 + 0) = ap count_ones (omega arith) in
          let after : count_ones (n + 1) ≡ count_ones (h * 2 ^ 1 + 1) = ap count_ones (omega arith) in
          omega arith
      | inr odd_n ↦
          let same : count_ones n ≡ count_ones (h * 2 ^ 1 + 1) = ap count_ones (omega arith) in
          let carried = ones_cat 1 (h + 1) 0 (omega arith) in
          let after : count_ones (n + 1) ≡ count_ones ((h + 1) * 2 ^ 1 + 0) = ap count_ones (omega arith) in
          omega (arith, ones-suc_below k h (omega arith))
    ]

ones-suc : (n : ℕ) → count_ones (n + 1) ≤ count_ones n + 1
ones-suc n = ones-suc_below (suc n) n (omega arith)

-- from ten ones on, no usable number comes before the next multiple of the lowest one
pub passed : (counter other : ℕ) → 0 < counter → counter < 2 ^ 21 → 10 ≤ count_ones counter → IsUsable other → counter < other
    → counter + 2 ^ last_place (path_of counter) ≤ other
passed counter other some fits many is_usable above =
    let place = last_place (path_of counter) in
    let whole = multiple (path_of counter) place (IsPath-path_of counter) (omega arith) in
    let value : counter ≡ whole.0 * 2 ^ place = sym (value_of-path_of counter fits) ∙ whole.1 in
    elim (cases_lt other (counter + 2 ^ place)) [
      | inl before ↦
          let rest = other - counter in
          let split : other ≡ whole.0 * 2 ^ place + rest = omega arith in
          let more = more_ones whole.0 place rest (omega arith) (omega arith) in
          let ones = ap count_ones split in
          let ones_here = ap count_ones value in
          absurd (omega (arith, (IsUsable-ones other is_usable).1))
      | inr after ↦ after
    ]

-- nothing usable comes after it
pub last_is_last : (counter : ℕ) → 0x1F_F800 ≤ counter → IsLast counter
last_is_last counter reached other is_usable =
    elim (cases_lt counter other) [
      | inl above ↦
          let path : path_of 0x1F_F800 ≡ last_path = path_of-value_of last_path last_is_path in
          let ones : count_ones 0x1F_F800 ≡ 10 = count_ones-value_of last_path last_is_path in
          let place = ap (λ path. 2 ^ last_place path) path in
          let jump = passed 0x1F_F800 other (lit< tt) (lit< tt) (omega arith) is_usable (omega arith) in
          absurd (omega (arith, IsUsable-counter other is_usable))
      | inr not_above ↦ not_above
    ]

-- one more than a counter of fewer than ten ones is usable
pub usable_next : (counter : ℕ) → counter < 0x1F_F800 → count_ones counter < 10 → IsNextUsable counter (counter + 1)
usable_next counter before few =
    let carried : count_ones (counter + 1) ≤ count_ones counter + 1 = ones-suc counter in
    record {
      is_usable = IsUsable-from_ones (counter + 1) (omega arith) (some_ones (counter + 1) (omega arith)) (omega arith);
      is_above = omega arith;
      is_least = λ other is_usable above. omega arith;
    }

-- a number reached without passing a usable one, of at most ten ones, is the next
pub found_next : (counter next : ℕ) → counter < 0x1F_F800 → counter < next → ((other : ℕ) → IsUsable other → counter < other → next ≤ other)
    → count_ones next ≤ 10
    → IsNextUsable counter next
found_next counter next before above is_least few =
    let within = is_least 0x1F_F800 last_usable before in
    record {
      is_usable = IsUsable-from_ones next (omega arith) (some_ones next (omega arith)) few;
      is_above = above;
      is_least = is_least;
    }

-- so a number of more than ten ones may be left for the next multiple of its lowest one
pub pass_on : (counter next : ℕ) → counter < 0x1F_F800 → counter < next → ((other : ℕ) → IsUsable other → counter < other → next ≤ other)
    → 10 < count_ones next
    → (other : ℕ) → IsUsable other → counter < other → next + 2 ^ last_place (path_of next) ≤ other
pass_on counter next before above is_least many other is_usable later =
    let within = is_least 0x1F_F800 last_usable before in
    let reached = is_least other is_usable later in
    elim (cases_order next other) [
      | inl same ↦ let ones = ap count_ones same in absurd (omega (arith, (IsUsable-ones other is_usable).1))
      | inr apart ↦
          elim apart [
            | inl below ↦ passed next other (omega arith) (omega arith) (omega arith) is_usable below
            | inr beyond ↦ absurd (omega arith)
          ]
    ]

-- some usable number is above each smaller counter
pub not_last : (counter : ℕ) → counter < 0x1F_F800 → IsLast counter → ⊥
not_last counter before is_last = omega (arith, is_last 0x1F_F800 last_usable)

-- one shifted to the lowest one bit
pub shifted_one : (counter : ℕ) → 0 < counter → counter < 2 ^ 21
    → (1 * 2 ^ trailing_zeros w32 counter % 2 ^ 32 ≡ 2 ^ last_place (path_of counter)) × (2 ^ last_place (path_of counter) < 2 ^ 21)
shifted_one counter some fits =
    let place = last_place (path_of counter) in
    let within = value_of-lt (path_of counter) (IsPath-path_of counter) in
    let value = value_of-path_of counter fits in
    let below : 2 ^ place < 2 ^ 21 = omega arith in (
      ap (λ n. 1 * 2 ^ n % 2 ^ 32) (trailing_zeros-path_of counter some fits) ∙ omega arith,
      below,
    )

-- a counter of some ones is not zero
pub some_counter : (counter : ℕ) → 10 ≤ count_ones counter → 0 < counter
some_counter counter many = omega (arith, ones_le_self counter)
