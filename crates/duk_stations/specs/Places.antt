-- Stations and frames in their places, by numbers that count from 1: this project's own.
use Rattle.std.specs.Prelude.{◌≡◌, ◌+◌, ◌⊎◌, ◌<◌, ℕ, List, Some, length, slice_get, slice_set}

-- a thing of this number, counted from 1, stands at a place of a list
pub record IsAt {A : Type 0} (things : List A) (number : ℕ) (thing : A) : Type 0 where
  pub place : ℕ
  pub number_is : number ≡ place + 1
  pub thing_is : slice_get things place ≡ Some thing

-- a list has none of this number
abbrev pub HasNone : {A : Type 0} → List A → ℕ → Type 0
HasNone things number = (number ≡ 0) ⊎ (length things < number)

-- a list has one of this number
pub record HasOne {A : Type 0} (things : List A) (number : ℕ) : Type 0 where
  pub place : ℕ
  pub number_is : number ≡ place + 1
  pub within : place < length things

-- the station of a number changes in this way, and the others stay as they are
pub record ChangesOnly
    {A : Type 0} (t : ℕ) (change : A → A → Type 0) (old new : List A) : Type 0 where
  pub place : ℕ
  pub before : A
  pub after : A
  pub number_is : t ≡ place + 1
  pub was : slice_get old place ≡ Some before
  pub changed : change before after
  pub others : new ≡ slice_set old place after
