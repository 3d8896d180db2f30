-- Made by tools/circuits of tools/circuits.txt.
use Rattle.std.proofs.Common.{[], ◌∷◌, ap, ◌∙◌}
use Rattle.duk_lanes.proofs.Gates.{picked, is_run, ◌also◌}
use Rattle.duk_lanes.proofs.CircuitOf3.{gates3, outputs3, is_box3}
use Rattle.duk_lanes.proofs.boxes.s3.select3.Goals as goal

pub returns : goal.returns
returns g c = λ i h.
    let lane = g.L.Lanes.lane in
    ap (picked outputs3) (is_run gates3 (lane c.args.f i ∷ lane c.args.e i ∷ lane c.args.d i ∷ lane c.args.c i ∷ lane c.args.b i ∷ lane c.args.a i ∷ [])
    (lane c.and-x1.result i ∷ lane c.xor-x2.result i ∷ lane c.xor-x3.result i ∷ lane c.or-x4.result i
    ∷ lane c.xor-x5.result i ∷ lane c.xor-x6.result i ∷ lane c.and-x7.result i ∷ lane c.and_not-x8.result i
    ∷ lane c.and_not-x9.result i ∷ lane c.and-x10.result i ∷ lane c.and_not-x11.result i ∷ lane c.xor-x12.result i
    ∷ lane c.and_not-x13.result i ∷ lane c.xor-x14.result i ∷ lane c.or-x15.result i ∷ lane c.or-x16.result i
    ∷ lane c.xor-x17.result i ∷ lane c.and_not-x18.result i ∷ lane c.or-x19.result i ∷ lane c.or-x20.result i
    ∷ lane c.xor-x21.result i ∷ lane c.xor-x22.result i ∷ lane c.not-x23.result i ∷ lane c.and_not-x24.result i
    ∷ lane c.or-x25.result i ∷ lane c.and_not-x26.result i ∷ lane c.xor-x27.result i ∷ lane c.and_not-x28.result i
    ∷ lane c.or-x29.result i ∷ lane c.xor-x30.result i ∷ lane c.xor-x31.result i ∷ lane c.and_not-x32.result i
    ∷ lane c.and_not-x33.result i ∷ lane c.or-x34.result i ∷ lane c.or-x35.result i ∷ lane c.xor-x36.result i
    ∷ lane c.xor-x37.result i ∷ lane c.xor-x38.result i ∷ lane c.or-x39.result i ∷ lane c.or-x40.result i
    ∷ lane c.and_not-x41.result i ∷ lane c.xor-x42.result i ∷ lane c.xor-x43.result i ∷ lane c.or-x44.result i
    ∷ lane c.xor-x45.result i ∷ lane c.xor-x46.result i ∷ lane c.and-x47.result i ∷ lane c.xor-x48.result i
    ∷ lane c.xor-x49.result i
    ∷ [])
    (c.and-x1.ensures i h also c.xor-x2.ensures i h also c.xor-x3.ensures i h also c.or-x4.ensures i h
    also c.xor-x5.ensures i h also c.xor-x6.ensures i h also c.and-x7.ensures i h also c.and_not-x8.ensures i h
    also c.and_not-x9.ensures i h also c.and-x10.ensures i h also c.and_not-x11.ensures i h also c.xor-x12.ensures i h
    also c.and_not-x13.ensures i h also c.xor-x14.ensures i h also c.or-x15.ensures i h also c.or-x16.ensures i h
    also c.xor-x17.ensures i h also c.and_not-x18.ensures i h also c.or-x19.ensures i h also c.or-x20.ensures i h
    also c.xor-x21.ensures i h also c.xor-x22.ensures i h also c.not-x23.ensures i h also c.and_not-x24.ensures i h
    also c.or-x25.ensures i h also c.and_not-x26.ensures i h also c.xor-x27.ensures i h also c.and_not-x28.ensures i h
    also c.or-x29.ensures i h also c.xor-x30.ensures i h also c.xor-x31.ensures i h also c.and_not-x32.ensures i h
    also c.and_not-x33.ensures i h also c.or-x34.ensures i h also c.or-x35.ensures i h also c.xor-x36.ensures i h
    also c.xor-x37.ensures i h also c.xor-x38.ensures i h also c.or-x39.ensures i h also c.or-x40.ensures i h
    also c.and_not-x41.ensures i h also c.xor-x42.ensures i h also c.xor-x43.ensures i h also c.or-x44.ensures i h
    also c.xor-x45.ensures i h also c.xor-x46.ensures i h also c.and-x47.ensures i h also c.xor-x48.ensures i h
    also c.xor-x49.ensures i h
    also tt))
    ∙ is_box3 (lane c.args.a i) (lane c.args.b i) (lane c.args.c i) (lane c.args.d i) (lane c.args.e i) (lane c.args.f i)
