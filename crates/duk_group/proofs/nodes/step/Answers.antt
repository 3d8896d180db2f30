use Rattle.std.proofs.Common.{ℕ, List, ◌++◌, ap, ap₂, ◌∙◌}
use Rattle.duk_tree.specs.Derivation.{half_step_of, step_of}
use Rattle.duk_group.specs.Blocks.{block_of}
use Rattle.duk_group.proofs.nodes.step.Goals as goal

pub returns : goal.returns
unfolding step_of
returns g c = λ i h.
    let register = block_of g.L.Lanes.lane i c.args.crypto_register.now in
    ap₂ (λ (left right : List ℕ). left ++ right)
    (c.half_step.ensures i h ∙ ap (λ key. half_step_of key register) (c.masked.ensures i h))
    (c.half_step-2.ensures i h)
