use Rattle.std.proofs.Common.{arith}
use Rattle.duk_group.proofs.LaneBlocks.{block_of-encrypted}
use Rattle.duk_group.proofs.cipher.des_encrypt.Goals as goal

pub returns : goal.returns
returns g c = λ i h.
    block_of-encrypted g.L.Lanes.lane i c.encrypt.result c.args.key.now c.args.block.now (omega arith) (omega arith) (c.encrypt.ensures i h)
