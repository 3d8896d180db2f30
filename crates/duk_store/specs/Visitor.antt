-- What is done with items that are given one after the other: this project's own.
use Rattle.std.specs.Prelude.{◌≡◌, List, [], ◌∷◌}

-- these items were taken in turn, each by a step of this kind
abbrev pub TakesAll : {V I : Type 0} → (V → I → V → Type 0) → List I → V → V → Type 0
TakesAll takes [] old new = new ≡ old
TakesAll {V} takes (item ∷ items) old new =
    (mid : V) × takes old item mid × TakesAll takes items mid new
