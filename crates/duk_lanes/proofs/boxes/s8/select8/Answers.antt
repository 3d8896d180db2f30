-- Made by tools/circuits of tools/circuits.txt.
use Rattle.std.proofs.Common.{[], ◌∷◌, ap, ◌∙◌}
use Rattle.duk_lanes.proofs.Gates.{picked, is_run, ◌also◌}
use Rattle.duk_lanes.proofs.CircuitOf8.{gates8, outputs8, is_box8}
use Rattle.duk_lanes.proofs.boxes.s8.select8.Goals as goal

pub returns : goal.returns
returns g c = λ i h.
    let lane = g.L.Lanes.lane in
    ap (picked outputs8) (is_run gates8 (lane c.args.f i ∷ lane c.args.e i ∷ lane c.args.d i ∷ lane c.args.c i ∷ lane c.args.b i ∷ lane c.args.a i ∷ [])
    (lane c.xor-x1.result i ∷ lane c.xor-x2.result i ∷ lane c.or-x3.result i ∷ lane c.and-x4.result i
    ∷ lane c.or-x5.result i ∷ lane c.not-x6.result i ∷ lane c.xor-x7.result i ∷ lane c.and_not-x8.result i
    ∷ lane c.xor-x9.result i ∷ lane c.or-x10.result i ∷ lane c.and-x11.result i ∷ lane c.and_not-x12.result i
    ∷ lane c.xor-x13.result i ∷ lane c.and_not-x14.result i ∷ lane c.xor-x15.result i ∷ lane c.and-x16.result i
    ∷ lane c.xor-x17.result i ∷ lane c.xor-x18.result i ∷ lane c.xor-x19.result i ∷ lane c.xor-x20.result i
    ∷ lane c.xor-x21.result i ∷ lane c.and-x22.result i ∷ lane c.or-x23.result i ∷ lane c.xor-x24.result i
    ∷ lane c.xor-x25.result i ∷ lane c.xor-x26.result i ∷ lane c.or-x27.result i ∷ lane c.and-x28.result i
    ∷ lane c.or-x29.result i ∷ lane c.and-x30.result i ∷ lane c.and-x31.result i ∷ lane c.xor-x32.result i
    ∷ lane c.or-x33.result i ∷ lane c.xor-x34.result i ∷ lane c.xor-x35.result i ∷ lane c.xor-x36.result i
    ∷ lane c.and_not-x37.result i ∷ lane c.or-x38.result i ∷ lane c.xor-x39.result i ∷ lane c.or-x40.result i
    ∷ lane c.and_not-x41.result i ∷ lane c.xor-x42.result i ∷ lane c.xor-x43.result i ∷ lane c.and-x44.result i
    ∷ lane c.xor-x45.result i
    ∷ [])
    (c.xor-x1.ensures i h also c.xor-x2.ensures i h also c.or-x3.ensures i h also c.and-x4.ensures i h
    also c.or-x5.ensures i h also c.not-x6.ensures i h also c.xor-x7.ensures i h also c.and_not-x8.ensures i h
    also c.xor-x9.ensures i h also c.or-x10.ensures i h also c.and-x11.ensures i h also c.and_not-x12.ensures i h
    also c.xor-x13.ensures i h also c.and_not-x14.ensures i h also c.xor-x15.ensures i h also c.and-x16.ensures i h
    also c.xor-x17.ensures i h also c.xor-x18.ensures i h also c.xor-x19.ensures i h also c.xor-x20.ensures i h
    also c.xor-x21.ensures i h also c.and-x22.ensures i h also c.or-x23.ensures i h also c.xor-x24.ensures i h
    also c.xor-x25.ensures i h also c.xor-x26.ensures i h also c.or-x27.ensures i h also c.and-x28.ensures i h
    also c.or-x29.ensures i h also c.and-x30.ensures i h also c.and-x31.ensures i h also c.xor-x32.ensures i h
    also c.or-x33.ensures i h also c.xor-x34.ensures i h also c.xor-x35.ensures i h also c.xor-x36.ensures i h
    also c.and_not-x37.ensures i h also c.or-x38.ensures i h also c.xor-x39.ensures i h also c.or-x40.ensures i h
    also c.and_not-x41.ensures i h also c.xor-x42.ensures i h also c.xor-x43.ensures i h also c.and-x44.ensures i h
    also c.xor-x45.ensures i h
    also tt))
    ∙ is_box8 (lane c.args.a i) (lane c.args.b i) (lane c.args.c i) (lane c.args.d i) (lane c.args.e i) (lane c.args.f i)
