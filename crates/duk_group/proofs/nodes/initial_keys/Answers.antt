use Rattle.std.proofs.Common.{ℕ, List, ◌++◌, ap, ap₂, ◌∙◌}
use Rattle.duk_tdes.specs.Tdes.{tdes_encrypted}
use Rattle.duk_tree.specs.Derivation.{initial_key_of}
use Rattle.duk_group.specs.Blocks.{key_of}
use Rattle.duk_group.proofs.nodes.initial_keys.Goals as goal

pub returns : goal.returns
unfolding initial_key_of
returns g c = λ i iksn h is.
    let lane = g.L.Lanes.lane in
    let bdk = key_of lane i c.args.bdk.now.left c.args.bdk.now.right in
    ap₂ (λ (left right : List ℕ). left ++ right)
    (c.encrypt.ensures i h ∙ ap (tdes_encrypted bdk) is)
    (c.encrypt-2.ensures i h
    ∙ ap₂ (λ (key block : List ℕ). tdes_encrypted key block) (c.masked.ensures i h) is)
