-- The chain of usable numbers: there is one, it has all of them, how many they are, and the last.
use Rattle.std.proofs.Common.{◌≡◌, ℕ, zero, suc, ◌+◌, ◌^◌, ◌<◌, ◌≤◌, ◌⊎◌, List, [], ◌∷◌, ◌++◌, length, get_or, refl, ap, arith, inl, inr, subst}
use Rattle.std.proofs.lemmas.Bool.{cases_lt, cases_order}
use Rattle.std.proofs.lemmas.Nat.{ones_le_self}
use Rattle.std.specs.List.{Contains}
use Rattle.std.specs.Int.RustNames.{count_ones}
use Rattle.duk_tree.specs.Path.{IsUsable}
use Rattle.duk_tree.specs.Next.{IsNextUsable, IsLast, IsChainAfter}
use Rattle.duk_tree.proofs.PathsOfCounters.{IsUsable-ones, IsUsable-from_ones, IsUsable-counter}
use Rattle.duk_tree.proofs.LeastUsable.{last_usable, last_is_last, not_last, some_ones}
use Rattle.duk_tree.proofs.CountOfUsable.{count_of_fewer, count_of_fewer-zero, count_of_fewer-few, count_of_fewer-all_many, count_of_fewer-both}

-- ---- usable or not

-- a usable counter is not zero, and has 21 bits
pub usable_bounds : (counter : ℕ) → IsUsable counter → (0 < counter) × (counter < 2 ^ 21)
usable_bounds counter is_usable = (
  omega (arith, (IsUsable-ones counter is_usable).0, ones_le_self counter),
  IsUsable-counter counter is_usable,
)

-- a counter within the bounds is usable, or has eleven ones or more
usable_or_many : (counter : ℕ) → 0 < counter → counter < 2 ^ 21 → IsUsable counter ⊎ (11 ≤ count_ones counter)
usable_or_many counter some fits =
    elim (cases_lt 10 (count_ones counter)) [
      | inl many ↦ inr (omega arith)
      | inr few ↦ inl (IsUsable-from_ones counter fits (some_ones counter some) few)
    ]

-- what is not usable has them
many_ones : (counter : ℕ) → 0 < counter → counter < 2 ^ 21 → (IsUsable counter → ⊥) → 11 ≤ count_ones counter
many_ones counter some fits unusable =
    elim (usable_or_many counter some fits) [
      | inl usable ↦ absurd (unusable usable)
      | inr many ↦ many
    ]

-- a counter is usable or not
usable_cases : (counter : ℕ) → 0 < counter → IsUsable counter ⊎ (IsUsable counter → ⊥)
usable_cases counter some =
    elim (cases_lt counter (2 ^ 21)) [
      | inl fits ↦
          elim (usable_or_many counter some fits) [
            | inl usable ↦ inl usable
            | inr many ↦ inr (λ is_usable. omega (arith, (IsUsable-ones counter is_usable).1))
          ]
      | inr beyond ↦ inr (λ is_usable. omega (arith, IsUsable-counter counter is_usable))
    ]

-- ---- there is one chain

-- one more than a counter, where it is usable, is the next number
next_here : (counter : ℕ) → IsUsable (suc counter) → IsNextUsable counter (suc counter)
next_here counter is_usable = record {
  is_usable = is_usable;
  is_above = omega arith;
  is_least = λ other other_usable above. omega arith;
}

-- where it is not, what is usable above the counter is above one more
above_unusable : (counter other : ℕ) → (IsUsable (suc counter) → ⊥) → IsUsable other → counter < other → suc counter < other
above_unusable counter other unusable is_usable above =
    elim (cases_order other (suc counter)) [
      | inl same ↦ absurd (unusable (subst IsUsable same is_usable))
      | inr apart ↦ omega arith
    ]

-- so the last stays the last
last_before : (counter : ℕ) → (IsUsable (suc counter) → ⊥) → IsLast (suc counter) → IsLast counter
last_before counter unusable is_last other is_usable =
    elim (cases_lt counter other) [
      | inl above ↦ absurd (omega (arith, is_last other is_usable, above_unusable counter other unusable is_usable above))
      | inr not_above ↦ not_above
    ]

-- the next stays the next
next_before : (counter next : ℕ) → (IsUsable (suc counter) → ⊥) → IsNextUsable (suc counter) next → IsNextUsable counter next
next_before counter next unusable is_next = record {
  is_usable = is_next.is_usable;
  is_above = omega (arith, is_next.is_above);
  is_least = λ other is_usable above. is_next.is_least other is_usable (above_unusable counter other unusable is_usable above);
}

-- and the chain is the same
chain_before : (counter : ℕ) (numbers : List ℕ) → (IsUsable (suc counter) → ⊥) → IsChainAfter (suc counter) numbers → IsChainAfter counter numbers
chain_before counter [] unusable is_last = last_before counter unusable is_last
chain_before counter (next ∷ others) unusable is_chain = (next_before counter next unusable is_chain.0, is_chain.1)

-- so each counter has a chain: from 2 ^ 21 on the empty one, and down from there one more number or
-- the same ones
pub some_chain : (left counter : ℕ) → 2 ^ 21 ≤ counter + left → (numbers : List ℕ) × IsChainAfter counter numbers
some_chain zero counter reached = ([], λ other is_usable. omega (arith, IsUsable-counter other is_usable))
some_chain (suc left) counter reached =
    let rest = some_chain left (suc counter) (omega arith) in
    elim (usable_cases (suc counter) (omega arith)) [
      | inl usable ↦ (suc counter ∷ rest.0, (next_here counter usable, rest.1))
      | inr unusable ↦ (rest.0, chain_before counter rest.0 unusable rest.1)
    ]

-- a counter has at most one next number
same_next : (counter a b : ℕ) → IsNextUsable counter a → IsNextUsable counter b → a ≡ b
same_next counter a b a_next b_next =
    omega (arith, a_next.is_least b b_next.is_usable b_next.is_above, b_next.is_least a a_next.is_usable a_next.is_above)

-- and none if it is the last
next_or_last : (counter next : ℕ) → IsNextUsable counter next → IsLast counter → ⊥
next_or_last counter next is_next is_last = omega (arith, is_next.is_above, is_last next is_next.is_usable)

-- two chains after a counter have the same numbers
pub one_chain : (a b : List ℕ) (counter : ℕ) → IsChainAfter counter a → IsChainAfter counter b → a ≡ b
one_chain [] [] counter a_chain b_chain = refl
one_chain [] (next ∷ others) counter a_chain b_chain = absurd (next_or_last counter next b_chain.0 a_chain)
one_chain (next ∷ others) [] counter a_chain b_chain = absurd (next_or_last counter next a_chain.0 b_chain)
one_chain (a ∷ a_others) (b ∷ b_others) counter a_chain b_chain =
    let same : a ≡ b = same_next counter a b a_chain.0 b_chain.0 in
    let others : a_others ≡ b_others = one_chain a_others b_others b (subst (λ n. IsChainAfter n a_others) same a_chain.1) b_chain.1 in
    cc

-- ---- it has all usable numbers

-- the number at a place of a chain is usable
usable_at : (numbers : List ℕ) (counter number place : ℕ) → IsChainAfter counter numbers → place < length numbers → get_or numbers place number ≡ number
    → IsUsable number
usable_at [] counter number place is_chain within same = absurd (omega arith)
usable_at (next ∷ others) counter number zero is_chain within same = subst IsUsable same is_chain.0.is_usable
usable_at (next ∷ others) counter number (suc place) is_chain within same = usable_at others next number place is_chain.1 (omega arith) same

-- so are all that it has
pub chain_usable : (numbers : List ℕ) (counter number : ℕ) → IsChainAfter counter numbers → Contains numbers number → IsUsable number
chain_usable numbers counter number is_chain contains = usable_at numbers counter number contains.0 is_chain contains.1 contains.2

-- each usable number above a counter is in its chain
pub usable_chain : (numbers : List ℕ) (counter number : ℕ) → IsChainAfter counter numbers → IsUsable number → counter < number → Contains numbers number
usable_chain [] counter number is_chain is_usable above = absurd (omega (arith, is_chain number is_usable))
usable_chain (next ∷ others) counter number is_chain is_usable above =
    elim (cases_order next number) [
      | inl same ↦ (0, omega arith, same)
      | inr apart ↦
          elim apart [
            | inl below ↦
                let later = usable_chain others next number is_chain.1 is_usable below in
                (suc later.0, omega (arith, later.1), later.2)
            | inr beyond ↦ absurd (omega (arith, is_chain.0.is_least number is_usable above))
          ]
    ]

-- ---- how many they are

-- a chain has as many numbers as there are of ten ones at most above its counter
length-chain : (numbers : List ℕ) (counter : ℕ) → counter < 2 ^ 21 → IsChainAfter counter numbers
    → length numbers + count_of_fewer 11 (suc counter) ≡ count_of_fewer 11 (2 ^ 21)
length-chain [] counter fits is_last =
    let passed = count_of_fewer-all_many (2 ^ 21) 11 (suc counter) fits
    (λ number above below. many_ones number (omega arith) below (λ is_usable. omega (arith, is_last number is_usable))) in
    omega arith
length-chain (next ∷ others) counter fits is_chain =
    let is_next = is_chain.0 in
    let next_fits = (usable_bounds next is_next.is_usable).1 in
    let rest = length-chain others next next_fits is_chain.1 in
    let passed = count_of_fewer-all_many next 11 (suc counter) is_next.is_above
    (λ number above below. many_ones number (omega arith) (omega arith) (λ is_usable. omega (arith, is_next.is_least number is_usable above))) in
    let few : count_ones next < 11 = omega (arith, (IsUsable-ones next is_next.is_usable).1) in
    let counted = count_of_fewer-few 11 next few in
    omega arith

-- half of the numbers of 21 bits have ten ones at most, and zero is not usable
pub chain_count : (numbers : List ℕ) → IsChainAfter 0 numbers → length numbers ≡ 1_048_575
chain_count numbers is_chain =
    let all = length-chain numbers 0 (omega arith) is_chain in
    let no_one : count_ones 0 < 11 = omega (arith, ones_le_self 0) in
    let half = count_of_fewer-both 21 11 11 refl in
    omega (arith, count_of_fewer-few 11 0 no_one, count_of_fewer-zero 11)

-- ---- the last

-- a usable number and the chain after it end at the greatest usable number
last_of_chain : (numbers : List ℕ) (counter : ℕ) → IsUsable counter → IsChainAfter counter numbers
    → (earlier : List ℕ) × (counter ∷ numbers ≡ earlier ++ 0x1F_F800 ∷ [])
last_of_chain [] counter is_usable is_last =
    let same : counter ≡ 0x1F_F800 = omega (arith, is_last 0x1F_F800 last_usable, last_is_last 0x1F_F800 (omega arith) counter is_usable) in
    ([], ap (λ number. number ∷ []) same)
last_of_chain (next ∷ others) counter is_usable is_chain =
    let rest = last_of_chain others next is_chain.0.is_usable is_chain.1 in
    (counter ∷ rest.0, ap (λ numbers. counter ∷ numbers) rest.1)

-- so the chain from zero on does
pub chain_last : (numbers : List ℕ) → IsChainAfter 0 numbers → (earlier : List ℕ) × (numbers ≡ earlier ++ 0x1F_F800 ∷ [])
chain_last [] is_last = absurd (not_last 0 (omega arith) is_last)
chain_last (next ∷ others) is_chain = last_of_chain others next is_chain.0.is_usable is_chain.1
