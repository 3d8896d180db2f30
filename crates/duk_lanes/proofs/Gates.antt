-- Circuits: lists of gates, each over the values before it. A value is known by how many are newer.
use Rattle.std.proofs.Common.{◌≡◌, ℕ, zero, suc, Bool, false, not, ◌&&◌, ◌||◌, List, [], ◌∷◌, map, refl, ap, ◌∙◌}
use mathlib.Core.Bool.{xor}

infixr 5 ◌also◌
pub data Gate : Type 0 where
  And : ℕ → ℕ → Gate
  Or : ℕ → ℕ → Gate
  Xor : ℕ → ℕ → Gate
  AndNot : ℕ → ℕ → Gate
  Not : ℕ → Gate

abbrev pub at : ℕ → List Bool → Bool
at place [] = false
at zero (value ∷ values) = value
at (suc place) (value ∷ values) = at place values

-- what a gate gives over the values, the newest first
abbrev pub gives : Gate → List Bool → Bool
gives (And x y) values = at x values && at y values
gives (Or x y) values = at x values || at y values
gives (Xor x y) values = xor (at x values) (at y values)
gives (AndNot x y) values = at x values && not (at y values)
gives (Not x) values = not (at x values)

-- the values after the gates
abbrev pub run : List Gate → List Bool → List Bool
run [] values = values
run (gate ∷ gates) values = run gates (gives gate values ∷ values)

abbrev pub picked : List ℕ → List Bool → List Bool
picked places values = map (λ place. at place values) places

-- values, the newest first, and newer ones in the order in which they came
abbrev pub pushed : List Bool → List Bool → List Bool
pushed values [] = values
pushed values (value ∷ newer) = pushed (value ∷ values) newer

-- the newer values are what the gates give, each over those before it
abbrev pub IsRun : List Gate → List Bool → List Bool → Type 0
IsRun [] values [] = Unit {0}
IsRun [] values (value ∷ newer) = ⊥
IsRun (gate ∷ gates) values [] = ⊥
IsRun (gate ∷ gates) values (value ∷ newer) = (value ≡ gives gate values) × IsRun gates (value ∷ values) newer

pub is_run : (gates : List Gate) (values newer : List Bool) → IsRun gates values newer → pushed values newer ≡ run gates values
is_run [] values [] h = refl
is_run [] values (value ∷ newer) h = elim h [ ]
is_run (gate ∷ gates) values [] h = elim h [ ]
is_run (gate ∷ gates) values (value ∷ newer) h =
    is_run gates (value ∷ values) newer h.1 ∙ ap (λ first. run gates (first ∷ values)) h.0

-- a fact and the facts behind it
pub ◌also◌ : {P Q : Type 0} → P → Q → P × Q
p also q = (p, q)
