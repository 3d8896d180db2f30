-- The names in a table of TOML: this project's own.
use Rattle.std.specs.Prelude.{◌≡◌, ◌≢◌, ℕ, Bool, false, List, [], ◌∷◌}
use Rattle.std.specs.Cmp.Lexicographic.{slice_cmp}
use Rattle.std.specs.List.{Contains, list_all}
use Rattle.std.specs.Ordering.{nat_cmp}
use Rattle.std.specs.declared.cmp.Ordering.TheVariants.{Less}
use Rattle.toml.specs.Data.{Members, no_members, member}

-- the names of the members of a table
abbrev pub names : Members → List (List ℕ)
names no_members = []
names (member name value members) = name ∷ names members

-- each name is one of these
abbrev pub has_only : (List ℕ → Bool) → Members → Bool
has_only is_known members = list_all is_known (names members)

-- the first name, in byte order, that is none of these
pub record IsFirstUnknown (is_known : List ℕ → Bool) (members : Members) (name : List ℕ)
    : Type 0 where
  pub there : Contains (names members) name
  pub unknown : is_known name ≡ false
  pub first : (other : List ℕ) → Contains (names members) other → is_known other ≡ false
      → slice_cmp nat_cmp other name ≢ Less
