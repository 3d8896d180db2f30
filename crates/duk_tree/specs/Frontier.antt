-- The frontier of the key tree: the nodes whose keys a terminal holds in its future key registers
-- (ANSI X9.24-1:2009 annex A).
use Rattle.std.specs.Prelude.{◌≡◌, ◌<◌, ◌≤◌, ◌+◌, ◌-◌, ◌*◌, ◌/◌, ◌^◌, ℕ, List, [], ◌∷◌, ◌++◌}
use Rattle.duk_tree.specs.Path.{value_of, path_of, IsUsable}

-- the path of the parent; the root is given as its own
abbrev pub parent_of : List ℕ → List ℕ
parent_of [] = []
parent_of (place ∷ parent) = parent

-- the frontier at a counter: the usable nodes from that counter on whose parent is below it
pub record IsInFrontier (counter node : ℕ) : Type 0 where
  pub is_usable : IsUsable node
  pub not_used : counter ≤ node
  pub parent_used : value_of (parent_of (path_of node)) < counter

-- a node on the way from the root to another, or that other itself
abbrev pub IsAncestorOrSelf : ℕ → ℕ → Type 0
IsAncestorOrSelf ancestor node = (below : List ℕ) × (below ++ path_of ancestor ≡ path_of node)

-- a node whose path has one place more
abbrev pub IsChild : ℕ → ℕ → Type 0
IsChild node child = (place : ℕ) × (path_of child ≡ place ∷ path_of node)

-- exactly one node of the frontier is this node or an ancestor of it
pub record HasOneInFrontier (counter node : ℕ) : Type 0 where
  pub held : ℕ
  pub is_in_frontier : IsInFrontier counter held
  pub is_above : IsAncestorOrSelf held node
  pub is_only : (other : ℕ) → IsInFrontier counter other → IsAncestorOrSelf other node → other
      ≡ held

-- the only node of a last place that the frontier at a counter may have: the place's power of two
-- above the greatest multiple of the next power of two that is below the counter
abbrev pub candidate_at : ℕ → ℕ → ℕ
candidate_at counter place = (counter - 1) / 2 ^ (place + 1) * 2 ^ (place + 1) + 2 ^ place
