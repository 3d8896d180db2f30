-- The first fault, in an order of faults or of a list's items (this project's own).
use Rattle.std.specs.Prelude.{◌≡◌, ◌<◌, ◌+◌, ◌++◌, ◌∷◌, ℕ, List, length}

-- each fault before this one in the order is met: what it demands holds
abbrev pub AllBefore : {Fault : Type 0} → (Fault → ℕ) → (Fault → Type 0) → Fault → Type 0
AllBefore {Fault} order Meets fault =
    (earlier : Fault) → order earlier < order fault → Meets earlier

-- the first fault in the order that fails: each before it is met
pub record IsFirst {Fault : Type 0} (order : Fault → ℕ) (Meets Fails : Fault → Type 0)
    (fault : Fault) : Type 0 where
  pub fails : Fails fault
  pub earlier_met : AllBefore order Meets fault

-- the item at this place of a list, counted from 1, is the first that is wrong: those before it are
-- right, and it is wrong after them
pub record IsFirstItem {Item : Type 0} (AreRight : List Item → Type 0)
    (IsWrongAfter : List Item → Item → Type 0) (items : List Item) (place : ℕ) : Type 0 where
  pub before : List Item
  pub item : Item
  pub after : List Item
  pub items_are : items ≡ before ++ item ∷ after
  pub place_is : place ≡ length before + 1
  pub earlier_right : AreRight before
  pub wrong : IsWrongAfter before item
