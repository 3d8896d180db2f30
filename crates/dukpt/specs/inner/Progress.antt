-- What the option `--progress` tells (this project's own).
use Rattle.std.specs.Prelude.{◌+◌, ◌-◌, ◌≤◌, ◌%◌, ◌==◌, ◌||◌, ◌++◌, ℕ, Bool, List, ⊤, Option, Some, None, codes, decimal, false, filter, map, max, min, ◌≡◌, ◌<◌, true}
use Rattle.std.specs.Int.{div_ceil}
use Rattle.std.specs.List.{range_with_len}
use Rattle.duk_commands.specs.Fault.{line_end}

-- after how many items, each time, a line stands: the hundredth part of all, in whole items, where it
-- is known how many there are
abbrev pub each_of : Option ℕ → ℕ
each_of None = 10_000
each_of (Some total) = max 1 (div_ceil total 100)

-- this is the last of all items
abbrev pub is_last : Option ℕ → ℕ → Bool
is_last None item = false
is_last (Some total) item = item == total

-- a line stands after this item
abbrev pub is_told : Option ℕ → ℕ → Bool
is_told total item = (item % each_of total == 0) || is_last total item

-- the line after this item
abbrev pub progress_line : Option ℕ → ℕ → List ℕ
progress_line None item = codes "progress " ++ decimal item ++ line_end
progress_line (Some total) item =
    codes "progress " ++ decimal item ++ codes " of " ++ decimal total ++ line_end

-- the lines that come to stand where so many items were done, and now are
abbrev pub progress_lines : Option ℕ → ℕ → ℕ → List (List ℕ)
progress_lines total before done =
    map (progress_line total) (filter (is_told total) (range_with_len (before + 1) (done - before)))

-- there are so many items, or more
abbrev pub HasItems : Option ℕ → ℕ → Type 0
HasItems None done = ⊤
HasItems (Some total) done = done ≤ total

-- so many items, but none behind the last
abbrev pub items_within : Option ℕ → ℕ → ℕ
items_within None done = done
items_within (Some total) done = min done total

-- a line stands after this item, and after none between so many items and it
pub record IsNextTold (total : Option ℕ) (before done item : ℕ) : Type 0 where
  pub behind : before < item
  pub within : item ≤ done
  pub told : is_told total item ≡ true
  pub first : (earlier : ℕ) → before < earlier → earlier < item → is_told total earlier ≡ false

-- no line stands after an item behind so many, of those up to this one
abbrev pub IsNoneTold : Option ℕ → ℕ → ℕ → Type 0
IsNoneTold total before done =
    (item : ℕ) → before < item → item ≤ done → is_told total item ≡ false
