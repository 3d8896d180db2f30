-- Lines of objects behind one another.
use Rattle.std.proofs.Common.{◌≡◌, ◌++◌, ◌∷◌, ◌∙◌, List, [], ℕ, OnOk, Result, ap, append_assoc, flat_map, sym}
use Rattle.std.proofs.lemmas.List.{append-nil}
use Rattle.std.proofs.lemmas.Result.{on_ok_weaker}
use Rattle.std.proofs.lemmas.Grind.{flat_map-append}
use Rattle.dukpt.specs.inner.Answer.{Said}
use Rattle.dukpt.specs.inner.Objects.{AddsObjects, object_line}

pub adds_none : (old : List ℕ) → AddsObjects old old
adds_none old = ([], sym (append-nil old))

pub adds_one : (old new : List ℕ) (answer : List Said) → new ≡ old ++ object_line answer → AddsObjects old new
adds_one old new answer is = (answer ∷ [], is ∙ ap (λ line. old ++ line) (sym (append-nil (object_line answer))))

pub adds_more : (old new newest : List ℕ) → AddsObjects old new → AddsObjects new newest → AddsObjects old newest
adds_more old new newest first second = (
  first.0 ++ second.0,
  second.1 ∙ ap (λ front. front ++ flat_map object_line second.0) first.1
      ∙ append_assoc old (flat_map object_line first.0) (flat_map object_line second.0)
      ∙ ap (λ lines. old ++ lines) (sym (flat_map-append object_line first.0 second.0)),
)

-- what is added behind that which was added is added to what was there
pub adds_after : {T E : Type 0} (result : Result T E) (old new newest : List ℕ) → AddsObjects old new → OnOk result (AddsObjects new newest) → OnOk result (AddsObjects old newest)
adds_after result old new newest first second = on_ok_weaker result (adds_more old new newest first) second
