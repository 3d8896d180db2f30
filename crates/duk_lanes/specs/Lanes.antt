-- Words that hold one bit of each lane: this project's own.
use Rattle.std.specs.Prelude.{ℕ, Bool, List, map}

-- the bits of a lane, one of each word
abbrev pub lane_of : {L : Type 0} → (L → ℕ → Bool) → ℕ → List L → List Bool
lane_of lane i words = map (λ word. lane word i) words
