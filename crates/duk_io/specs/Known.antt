-- What contracts know of a writer or a reader (this project's own).
use Rattle.std.specs.Prelude.{◌≡◌, ◌≢◌, ℕ, List, ⊤, Option, Some, None}

-- the bytes that a writer holds or a reader has left, and the count of its failures, each where its
-- type makes it known
pub record Known : Type 0 where
  pub contents : Option (List ℕ)
  pub failures : Option ℕ

-- a known count of failures rose
abbrev pub Rose : Option ℕ → Option ℕ → Type 0
Rose None new = ⊤
Rose (Some count) new = new ≢ Some count

-- a known count of failures is as it was
abbrev pub Stayed : Option ℕ → Option ℕ → Type 0
Stayed None new = ⊤
Stayed (Some count) new = new ≡ Some count
