-- The order in which a terminal uses its numbers (ANSI X9.24-1:2009 annex A).
use Rattle.std.specs.Prelude.{◌≡◌, ◌⊎◌, ◌<◌, ◌≤◌, ◌^◌, ℕ, List, [], ◌∷◌}
use Rattle.duk_tree.specs.Path.{IsUsable}

-- the least usable counter above this one
pub record IsNextUsable (counter next : ℕ) : Type 0 where
  pub is_usable : IsUsable next
  pub is_above : counter < next
  pub is_least : (other : ℕ) → IsUsable other → counter < other → next ≤ other

-- no usable counter is above this one
abbrev pub IsLast : ℕ → Type 0
IsLast counter = (other : ℕ) → IsUsable other → other ≤ counter

-- this project's own: the counter of a terminal that has used all its numbers
abbrev pub spent_counter : ℕ
spent_counter = 2 ^ 21

-- where a terminal stands after a number: at the next usable one, or spent if there is none
abbrev pub ComesAfter : ℕ → ℕ → Type 0
ComesAfter counter next = IsNextUsable counter next ⊎ (IsLast counter × (next ≡ spent_counter))

-- the numbers after a counter, in the order in which a terminal uses them: each is the least usable
-- counter above the one before it, and above the last there is none
abbrev pub IsChainAfter : ℕ → List ℕ → Type 0
IsChainAfter counter [] = IsLast counter
IsChainAfter counter (next ∷ others) = IsNextUsable counter next × IsChainAfter next others
