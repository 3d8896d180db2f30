-- Lines of objects (this project's own).
use Rattle.std.specs.Prelude.{◌≡◌, ℕ, List, [], ◌∷◌, ◌++◌, flat_map}
use Rattle.json.specs.Print.{print}
use Rattle.dukpt.specs.inner.Answer.{Said, object_of}

-- the line of an answer: its object, which a reader of JSON finds there, and LF
abbrev pub object_line : List Said → List ℕ
object_line answer = print (object_of answer) ++ 10 ∷ []

-- what is written of an answer that ends: nothing, where it says nothing
abbrev pub answer_line : List Said → List ℕ
answer_line [] = []
answer_line (member ∷ members) = object_line (member ∷ members)

-- behind what was there stand the lines of some answers, each whole
abbrev pub AddsObjects : List ℕ → List ℕ → Type 0
AddsObjects old new = (answers : List (List Said)) × (new ≡ old ++ flat_map object_line answers)
