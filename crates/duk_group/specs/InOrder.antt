-- A terminal whose numbers are gone through in their order: this project's own, over the order of
-- ANSI X9.24-1:2009 annex A.
use Rattle.std.specs.Prelude.{◌≡◌, ℕ, List}
use Rattle.duk_tree.specs.Next.{ComesAfter}

-- its initial key, its initial key serial number, and the counter of its next number
pub record InOrder : Type 0 where
  pub initial : List ℕ
  pub iksn : ℕ
  pub counter : ℕ

-- the same terminal stands at the number after
pub record GoesOn (old new : InOrder) : Type 0 where
  pub same_initial : new.initial ≡ old.initial
  pub same_iksn : new.iksn ≡ old.iksn
  pub next_counter : ComesAfter old.counter new.counter
