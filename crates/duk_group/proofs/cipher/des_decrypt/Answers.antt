use Rattle.std.proofs.Common.{arith}
use Rattle.duk_group.proofs.LaneBlocks.{block_of-decrypted}
use Rattle.duk_group.proofs.cipher.des_decrypt.Goals as goal

pub returns : goal.returns
returns g c = λ i h.
    block_of-decrypted g.L.Lanes.lane i c.decrypt.result c.args.key.now c.args.block.now (omega arith) (omega arith) (c.decrypt.ensures i h)
