-- Counters and their paths.
use Rattle.std.proofs.Common.{◌≡◌, ℕ, zero, suc, ◌+◌, ◌-◌, ◌*◌, ◌/◌, ◌%◌, ◌^◌, ◌<◌, ◌≤◌, ◌⊎◌, List, [], ◌∷◌, length, refl, sym, ap, ◌∙◌, arith, inl, inr, subst}
use Rattle.std.proofs.Math.Nat.{pow-suc, pow-le-pow_right, mul_assoc}
use Rattle.std.proofs.lemmas.Nat.{pow_pos, pow-add, shr-shr, shl-shr, ones-le, ones_cat}
use lib.Count.{ones-ones}
use Rattle.std.proofs.lemmas.Bool.{cases_lt}
use Rattle.std.specs.List.{filter}
use Rattle.std.specs.Int.RustNames.{count_ones}
use Rattle.duk_tree.specs.Path.{last_place, IsPath, value_of, places_from, has_one, IsUsable}

-- the places from this one up at which a counter has a one
abbrev pub path_from : ℕ → ℕ → ℕ → List ℕ
path_from place count counter = filter (has_one counter) (places_from place count)

pub power_above : (place : ℕ) → 2 ^ suc place ≡ 2 ^ place + 2 ^ place
power_above place = pow-suc 2 place ∙ omega arith

half : (counter place : ℕ) → counter / 2 ^ place / 2 ≡ counter / 2 ^ suc place
half counter place = shr-shr counter place 1 ∙ ap (λ n. counter / 2 ^ n) (omega arith)

bit_cases : (n : ℕ) → (n % 2 ≡ 0) ⊎ (n % 2 ≡ 1)
bit_cases n =
    elim (cases_lt (n % 2) 1) [
      | inl low ↦ inl (omega arith)
      | inr high ↦ inr (omega arith)
    ]

even_part : (q h power above : ℕ) → q ≡ 2 * h → above ≡ power + power → h * above ≡ q * power
even_part q h power above twice doubled = rw (twice, doubled) (omega arith)

odd_part : (q h power above : ℕ) → q ≡ 2 * h + 1 → above ≡ power + power → power + h * above ≡ q * power
odd_part q h power above twice doubled = rw (twice, doubled) (omega arith)

pub value_of-path_from : (count place counter : ℕ) → place + count ≡ 21 → counter < 2 ^ 21
    → value_of (path_from place count counter) ≡ counter / 2 ^ place * 2 ^ place
value_of-path_from zero place counter end fits =
    let top : place ≡ 21 = omega arith in
    rw top (omega arith)
value_of-path_from (suc count) place counter end fits =
    let next = value_of-path_from count (suc place) counter (omega arith) fits in
    let halved = half counter place in
    let power = power_above place in
    let h = counter / 2 ^ suc place in
    elim (bit_cases (counter / 2 ^ place)) [
      | inl even ↦
          let twice : counter / 2 ^ place ≡ 2 * h = omega arith in
          rw even (next ∙ even_part (counter / 2 ^ place) h (2 ^ place) (2 ^ suc place) twice power)
      | inr odd ↦
          let twice : counter / 2 ^ place ≡ 2 * h + 1 = omega arith in
          rw odd (ap (λ n. 2 ^ place + n) next ∙ odd_part (counter / 2 ^ place) h (2 ^ place) (2 ^ suc place) twice power)
    ]

pub IsPath-path_from : (count place counter : ℕ) → place + count ≡ 21
    → IsPath (path_from place count counter) × (place ≤ last_place (path_from place count counter))
IsPath-path_from zero place counter end = (tt, omega arith)
IsPath-path_from (suc count) place counter end =
    let next = IsPath-path_from count (suc place) counter (omega arith) in
    elim (bit_cases (counter / 2 ^ place)) [
      | inl even ↦ rw even (next.0, omega (arith, next.1))
      | inr odd ↦ rw odd ((omega (arith, next.1), next.0), omega arith)
    ]

-- the value of a path is a multiple of every power of two up to its last place
pub multiple : (path : List ℕ) (low : ℕ) → IsPath path → low ≤ last_place path → (times : ℕ) × (value_of path ≡ times * 2 ^ low)
multiple [] low is_path within = (0, omega arith)
multiple (place ∷ parent) low is_path within =
    let above = multiple parent place is_path.1 (omega (arith, is_path.0)) in
    let split : 2 ^ place ≡ 2 ^ (place - low) * 2 ^ low = ap (λ n. 2 ^ n) (omega arith) ∙ pow-add 2 (place - low) low in
    ((1 + above.0) * 2 ^ (place - low), ap (λ n. 2 ^ place + n) above.1 ∙ (omega arith) ∙ ap (λ n. (1 + above.0) * n) split ∙ sym (mul_assoc (1 + above.0) (2 ^ (place - low)) (2 ^ low)))

pub value_of-lt : (path : List ℕ) → IsPath path → value_of path + 2 ^ last_place path ≤ 2 ^ 21
value_of-lt [] is_path = omega arith
value_of-lt (place ∷ parent) is_path =
    let above = value_of-lt parent is_path.1 in
    let doubled : 2 ^ suc place ≤ 2 ^ last_place parent = pow-le-pow_right {n = 2} (omega arith) {i = suc place} {j = last_place parent} (omega (arith, is_path.0)) in
    let power = power_above place in
    omega arith

last_place-le : (path : List ℕ) → IsPath path → last_place path ≤ 21
last_place-le [] is_path = omega arith
last_place-le (place ∷ parent) is_path = let above = last_place-le parent is_path.1 in omega (arith, is_path.0)

-- only the bits from a place up matter to the path from there
path_from-same : (count place a b : ℕ) → a / 2 ^ place ≡ b / 2 ^ place → path_from place count a ≡ path_from place count b
path_from-same zero place a b same = refl
path_from-same (suc count) place a b same =
    let above : a / 2 ^ suc place ≡ b / 2 ^ suc place = sym (half a place) ∙ ap (λ n. n / 2) same ∙ half b place in
    rw (same, path_from-same count (suc place) a b above) refl

bit_below : (times place low : ℕ) → place < low → times * 2 ^ low / 2 ^ place % 2 ≡ 0
bit_below times place low below =
    let d = low - suc place in
    let split : 2 ^ low ≡ 2 ^ d * (2 ^ place * 2) = ap (λ n. 2 ^ n) (omega arith) ∙ pow-add 2 d (suc place) ∙ ap (λ n. 2 ^ d * n) (pow-suc 2 place) in
    let whole : times * 2 ^ low ≡ times * 2 ^ d * 2 * 2 ^ place = ap (λ n. times * n) split ∙ omega arith in
    let shifted : times * 2 ^ low / 2 ^ place ≡ times * 2 ^ d * 2 = ap (λ n. n / 2 ^ place) whole ∙ shl-shr (times * 2 ^ d * 2) place in
    omega arith

skipped : (count place : ℕ) (path : List ℕ) → IsPath path → place < last_place path
    → path_from (suc place) count (value_of path) ≡ path
    → path_from place (suc count) (value_of path) ≡ path
skipped count place path is_path below rest =
    let m = multiple path (last_place path) is_path (omega arith) in
    let zero_bit : value_of path / 2 ^ place % 2 ≡ 0 = ap (λ n. n / 2 ^ place % 2) m.1 ∙ bit_below m.0 place (last_place path) below in
    rw zero_bit rest

taken : (count place : ℕ) (parent : List ℕ) → IsPath parent → place < last_place parent
    → path_from (suc place) count (value_of parent) ≡ parent
    → path_from place (suc count) (value_of (place ∷ parent)) ≡ place ∷ parent
taken count place parent is_path below rest =
    let m = multiple parent (suc place) is_path below in
    let t = m.0 in
    let v = 2 ^ place + value_of parent in
    let power = power_above place in
    let whole : v ≡ (1 + 2 * t) * 2 ^ place = ap (λ n. 2 ^ place + n) (m.1 ∙ ap (λ n. t * n) power) ∙ omega arith in
    let here : v / 2 ^ place ≡ 1 + 2 * t = ap (λ n. n / 2 ^ place) whole ∙ shl-shr (1 + 2 * t) place in
    let one_bit : v / 2 ^ place % 2 ≡ 1 = omega arith in
    let low : v / 2 ^ suc place ≡ t = sym (half v place) ∙ omega arith in
    let high : value_of parent / 2 ^ suc place ≡ t = ap (λ n. n / 2 ^ suc place) m.1 ∙ shl-shr t (suc place) in
    rw one_bit (ap (λ path. place ∷ path) (path_from-same count (suc place) v (value_of parent) (low ∙ sym high) ∙ rest))

pub path_from-value_of : (count place : ℕ) (path : List ℕ) → place + count ≡ 21 → IsPath path → place ≤ last_place path
    → path_from place count (value_of path) ≡ path
path_from-value_of zero place [] end is_path within = refl
path_from-value_of zero place (last ∷ parent) end is_path within =
    let top = last_place-le parent is_path.1 in
    absurd (omega (arith, is_path.0))
path_from-value_of (suc count) place [] end is_path within =
    skipped count place [] is_path (omega arith) (path_from-value_of count (suc place) [] (omega arith) is_path (omega arith))
path_from-value_of (suc count) place (last ∷ parent) end is_path within =
    elim (cases_lt place last) [
      | inl below ↦ skipped count place (last ∷ parent) is_path below (path_from-value_of count (suc place) (last ∷ parent) (omega arith) is_path below)
      | inr here ↦
          let same : last ≡ place = omega arith in
          let under : place < last_place parent = omega (arith, is_path.0) in
          subst (λ n. path_from place (suc count) (value_of (n ∷ parent)) ≡ n ∷ parent) (sym same) (taken count place parent is_path.1 under (path_from-value_of count (suc place) parent (omega arith) is_path.1 under))
    ]

pub count_ones-value_of : (path : List ℕ) → IsPath path → count_ones (value_of path) ≡ length path
count_ones-value_of [] is_path = omega (arith, ones-le 0 0 (omega arith))
count_ones-value_of (place ∷ parent) is_path =
    let m = multiple parent (suc place) is_path.1 is_path.0 in
    let t = m.0 in
    let power = power_above place in
    let some = pow_pos place in
    let none : count_ones 0 ≡ 0 = omega (arith, ones-le 0 0 (omega arith)) in
    let one : count_ones 1 ≡ 1 = ones-ones 1 in
    let parents : count_ones (value_of parent) ≡ count_ones t =
    ap count_ones (m.1 ∙ omega arith) ∙ ones_cat (suc place) t 0 (omega arith) ∙ omega arith in
    let alone : count_ones (2 ^ place) ≡ 1 = ap count_ones (omega arith) ∙ ones_cat place 1 0 (omega arith) ∙ omega arith in
    let both : count_ones (2 ^ place + value_of parent) ≡ count_ones t + count_ones (2 ^ place) =
    ap count_ones (ap (λ n. 2 ^ place + n) m.1 ∙ omega arith) ∙ ones_cat (suc place) t (2 ^ place) (omega arith) in
    let shorter = count_ones-value_of parent is_path.1 in
    omega arith

-- a counter of 21 bits with one to ten ones is usable
pub IsUsable-from_ones : (counter : ℕ) → counter < 2 ^ 21 → 1 ≤ count_ones counter → count_ones counter ≤ 10 → IsUsable counter
IsUsable-from_ones counter fits some few =
    let path = path_from 0 21 counter in
    let is_path : IsPath path = (IsPath-path_from 21 0 counter refl).0 in
    let value : value_of path ≡ counter = value_of-path_from 21 0 counter refl fits ∙ omega arith in
    let ones : count_ones counter ≡ length path = ap count_ones (sym value) ∙ count_ones-value_of path is_path in
    record {
      path = path;
      path_is = is_path;
      value_is = value;
      not_the_root = omega arith;
      ten_ones_at_most = omega arith;
    }

pub IsUsable-counter : (counter : ℕ) → IsUsable counter → counter < 2 ^ 21
IsUsable-counter counter is_usable =
    let below = value_of-lt is_usable.path is_usable.path_is in
    let some = pow_pos (last_place is_usable.path) in
    omega (arith, is_usable.value_is)

pub IsUsable-ones : (counter : ℕ) → IsUsable counter → (1 ≤ count_ones counter) × (count_ones counter ≤ 10)
IsUsable-ones counter is_usable =
    let ones : count_ones counter ≡ length is_usable.path =
    ap count_ones (sym is_usable.value_is) ∙ count_ones-value_of is_usable.path is_usable.path_is in
    (omega (arith, is_usable.not_the_root), omega (arith, is_usable.ten_ones_at_most))
