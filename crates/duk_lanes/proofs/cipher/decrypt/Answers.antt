use Rattle.std.proofs.Common.{ap, ◌∙◌}
use Rattle.duk_des.specs.Des.{des_computation, decipher}
use Rattle.duk_lanes.specs.Lanes.{lane_of}
use Rattle.duk_lanes.proofs.KeysInOrder.{backwards}
use Rattle.duk_lanes.proofs.cipher.decrypt.Goals as goal

pub returns : goal.returns
unfolding decipher
returns g c =
    λ i h.
    c.crypt.ensures i h
    ∙ ap (λ keys. des_computation keys (lane_of g.L.Lanes.lane i c.args.block.now)) (backwards (lane_of g.L.Lanes.lane i c.args.key.now))
