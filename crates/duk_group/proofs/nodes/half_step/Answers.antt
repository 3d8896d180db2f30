use Rattle.std.proofs.Common.{sym, ap, ◌∙◌}
use Rattle.duk_des.specs.Des.{des_encrypted}
use Rattle.duk_tdes.specs.Key.{xor_bytes}
use Rattle.duk_group.specs.Blocks.{block_of}
use Rattle.duk_group.proofs.LaneBlocks.{half_step_of-key_of}
use Rattle.duk_group.proofs.nodes.half_step.Goals as goal

pub returns : goal.returns
returns g c = λ i h.
    let lane = g.L.Lanes.lane in
    let left = c.args.key.now.left in
    let right = c.args.key.now.right in
    c.xor.ensures i h
    ∙ ap (xor_bytes (block_of lane i right)) (c.des_encrypt.ensures i h ∙ ap (des_encrypted (block_of lane i left)) (c.xor-sum.ensures i h))
    ∙ sym (half_step_of-key_of lane i left right (block_of lane i c.args.crypto_register.now))
