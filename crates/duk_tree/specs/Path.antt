-- Paths in the tree of keys. ANSI X9.24-1:2009 annex A sets the one bits of a counter one after the
-- other, from the most significant down, and makes a key at each; a path is the list of their
-- places. The words for it are this project's own.
--
-- A path is a strictly falling list of bit places, 20 to 0. It stands here with its last place, the
-- lowest, first. So the parent of a path, which lacks the last place, is its tail, an ancestor is a
-- proper suffix, and the empty list is the root, with value 0.
use Rattle.std.specs.Prelude.{◌≡◌, ◌<◌, ◌≤◌, ◌+◌, ◌/◌, ◌%◌, ◌^◌, ◌==◌, ℕ, zero, suc, Bool, List, [], ◌∷◌, length, ⊤}
use Rattle.std.specs.List.{filter}

-- the last place of a path; the root stands above place 20
abbrev pub last_place : List ℕ → ℕ
last_place [] = 21
last_place (place ∷ parent) = place

-- the last place is below those of the parent, which is a path
abbrev pub IsPath : List ℕ → Type 0
IsPath [] = ⊤
IsPath (place ∷ parent) = (place < last_place parent) × IsPath parent

-- the counter of a path: the sum of the powers of two at its places
abbrev pub value_of : List ℕ → ℕ
value_of [] = 0
value_of (place ∷ parent) = 2 ^ place + value_of parent

-- so many places from this one up
abbrev pub places_from : ℕ → ℕ → List ℕ
places_from place zero = []
places_from place (suc count) = place ∷ places_from (suc place) count

-- whether a counter has a one at this place
abbrev pub has_one : ℕ → ℕ → Bool
has_one counter place = counter / 2 ^ place % 2 == 1

-- the path of a counter: the places of its one bits
unfoldable pub path_of : ℕ → List ℕ
path_of counter = filter (has_one counter) (places_from 0 21)

-- a usable counter is that of a path of one to ten places (annex A: a counter with more than ten
-- ones is skipped)
pub record IsUsable (counter : ℕ) : Type 0 where
  pub path : List ℕ
  pub path_is : IsPath path
  pub value_is : value_of path ≡ counter
  pub not_the_root : 1 ≤ length path
  pub ten_ones_at_most : length path ≤ 10
