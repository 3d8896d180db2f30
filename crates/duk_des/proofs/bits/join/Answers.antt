use Rattle.std.proofs.Common.{arith}
use Rattle.duk_des.proofs.PlaceTables.{both_lists}
use Rattle.duk_des.proofs.bits.join.Goals as goal

pub returns : goal.returns
returns g c =
    both_lists g.row.N _ _ _ (omega arith) (omega arith) (omega arith)
    (λ k h. c.loop-i.invariant.from_first k (omega arith)) (λ k h. c.loop-i.invariant.from_second k (omega arith))
