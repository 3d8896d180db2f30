use Rattle.std.proofs.Common.{sym, ap, ◌∙◌}
use Rattle.duk_des.specs.Des.{des_encrypted, des_decrypted}
use Rattle.duk_group.specs.Blocks.{block_of}
use Rattle.duk_group.proofs.LaneBlocks.{tdes_encrypted-key_of}
use Rattle.duk_group.proofs.key.LaneKeys.encrypt.Goals as goal

pub returns : goal.returns
returns g c = λ i h.
    let lane = g.L.Lanes.lane in
    let left = c.args.self.now.left in
    let right = c.args.self.now.right in
    c.des_encrypt.ensures i h
    ∙ ap (des_encrypted (block_of lane i left)) (c.des_decrypt-second.ensures i h ∙ ap (des_decrypted (block_of lane i right)) (c.des_encrypt-first.ensures i h))
    ∙ sym (tdes_encrypted-key_of lane i left right (block_of lane i c.args.block.now))
