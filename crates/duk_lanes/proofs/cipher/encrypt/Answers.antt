use Rattle.std.proofs.Common.{ap, ◌∙◌}
use Rattle.duk_des.specs.Des.{des_computation, encipher}
use Rattle.duk_lanes.specs.Lanes.{lane_of}
use Rattle.duk_lanes.proofs.KeysInOrder.{in_order}
use Rattle.duk_lanes.proofs.cipher.encrypt.Goals as goal

pub returns : goal.returns
unfolding encipher
returns g c =
    λ i h.
    c.crypt.ensures i h
    ∙ ap (λ keys. des_computation keys (lane_of g.L.Lanes.lane i c.args.block.now)) (in_order (lane_of g.L.Lanes.lane i c.args.key.now))
