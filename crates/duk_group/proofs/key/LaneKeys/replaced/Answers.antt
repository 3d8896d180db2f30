use Rattle.std.proofs.Common.{ℕ, List, ◌++◌, ap₂}
use Rattle.duk_group.proofs.key.LaneKeys.replaced.Goals as goal

pub returns-clause-one : goal.returns-clause-one
returns-clause-one g c = λ i h is. ap₂ (λ (left right : List ℕ). left ++ right) (c.chosen.ensures.one i h is) (c.chosen-2.ensures.one i h is)

pub returns-clause-zero : goal.returns-clause-zero
returns-clause-zero g c = λ i h is. ap₂ (λ (left right : List ℕ). left ++ right) (c.chosen.ensures.zero i h is) (c.chosen-2.ensures.zero i h is)
