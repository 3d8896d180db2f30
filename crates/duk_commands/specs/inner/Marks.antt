-- Marks of the numbers that are issued, one for each place: this project's own.
use Rattle.std.specs.Prelude.{◌≡◌, ◌⊎◌, ◌↔◌, ◌<◌, ◌+◌, ℕ, suc, Bool, true, false, List, [], ◌∷◌, length, get_or}
use Rattle.duk_ledger.specs.Issued.{Issues}
use Rattle.duk_commands.specs.Ledger.{IsIssued}
use Rattle.duk_commands.specs.Numbers.{iksn_at}

-- a place has a mark
abbrev pub IsMarked : List Bool → ℕ → Type 0
IsMarked marks place = get_or marks place false ≡ true

-- one place more has a mark, where this number stands at one
pub record IsMarkedAlso (old new : List Bool) (first iksn : ℕ) : Type 0 where
  pub size : length new ≡ length old
  pub marked : (place : ℕ) → place < length old
      → IsMarked new place ↔ (IsMarked old place ⊎ (iksn ≡ iksn_at first place))

-- the places of the numbers that are issued have marks, and no others
abbrev pub AreMarked : Issues → ℕ → List Bool → Type 0
AreMarked issues first marks = (place : ℕ) → place < length marks
    → IsMarked marks place ↔ IsIssued issues (iksn_at first place)

-- the places without a mark, where the marks begin at this place
abbrev pub unmarked : List Bool → ℕ → List ℕ
unmarked [] place = []
unmarked (true ∷ marks) place = unmarked marks (suc place)
unmarked (false ∷ marks) place = place ∷ unmarked marks (suc place)

-- no place has a mark before this one
abbrev pub IsUnmarkedBefore : List Bool → ℕ → Type 0
IsUnmarkedBefore marks place = (earlier : ℕ) → earlier < place → ¬ IsMarked marks earlier

-- the first place with a mark
pub record IsFirstMarked (marks : List Bool) (place : ℕ) : Type 0 where
  pub inside : place < length marks
  pub marked : IsMarked marks place
  pub none_before : IsUnmarkedBefore marks place

-- all places have marks before this one
abbrev pub AreMarkedBefore : List Bool → ℕ → Type 0
AreMarkedBefore marks place = (earlier : ℕ) → earlier < place → IsMarked marks earlier

-- the first place without a mark
pub record IsFirstUnmarked (marks : List Bool) (place : ℕ) : Type 0 where
  pub inside : place < length marks
  pub unmarked : ¬ IsMarked marks place
  pub all_before : AreMarkedBefore marks place

-- so many places have a mark: all but those without one
pub record HasMarks (marks : List Bool) (count : ℕ) : Type 0 where
  pub all : count + length (unmarked marks 0) ≡ length marks
