use Rattle.std.proofs.Common.{arith}
use Rattle.duk_group.proofs.LaneBlocks.{key_of-masked}
use Rattle.duk_group.proofs.key.LaneKeys.masked.Goals as goal

pub returns : goal.returns
returns g c = λ i h.
    key_of-masked g.L.Lanes.lane i c.args.self.now.left c.args.self.now.right c.masked.result c.masked-2.result c.args.mask.now (omega arith)
    (c.masked.ensures i h) (c.masked-2.ensures i h)
