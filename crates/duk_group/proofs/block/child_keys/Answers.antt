use Rattle.std.proofs.Common.{List, ℕ, [], ◌∷◌, ap, ◌∙◌}
use Rattle.duk_lanes.specs.Words.{wide_lane}
use Rattle.duk_tdes.specs.Key.{xor_bytes}
use Rattle.duk_tree.specs.Derivation.{step_of}
use Rattle.duk_group.specs.Blocks.{key_of}
use Rattle.duk_group.proofs.MaskedRegisters.{register_of_row}
use Rattle.duk_group.proofs.block.child_keys.Goals as goal

pub returns : goal.returns
returns c = λ i iksn counter h is_iksn whole register.
    let mask : List ℕ = 0 ∷ 0 ∷ 0 ∷ 0 ∷ 0 ∷ 0 ∷ 0 ∷ c.args.child ∷ [] in
    c.step.ensures i h
    ∙ ap (step_of (key_of wide_lane i c.args.parents.now.left c.args.parents.now.right))
    (c.masked.ensures i h ∙ ap (λ bytes. xor_bytes bytes mask) register ∙ register_of_row iksn counter c.args.child is_iksn whole c.requires)
