-- Made by tools/circuits of tools/circuits.txt.
use Rattle.std.proofs.Common.{[], ◌∷◌, ap, ◌∙◌}
use Rattle.duk_lanes.proofs.Gates.{picked, is_run, ◌also◌}
use Rattle.duk_lanes.proofs.CircuitOf2.{gates2, outputs2, is_box2}
use Rattle.duk_lanes.proofs.boxes.s2.select2.Goals as goal

pub returns : goal.returns
returns g c = λ i h.
    let lane = g.L.Lanes.lane in
    ap (picked outputs2) (is_run gates2 (lane c.args.f i ∷ lane c.args.e i ∷ lane c.args.d i ∷ lane c.args.c i ∷ lane c.args.b i ∷ lane c.args.a i ∷ [])
    (lane c.xor-x1.result i ∷ lane c.xor-x2.result i ∷ lane c.or-x3.result i ∷ lane c.xor-x4.result i
    ∷ lane c.and-x5.result i ∷ lane c.or-x6.result i ∷ lane c.xor-x7.result i ∷ lane c.or-x8.result i
    ∷ lane c.and-x9.result i ∷ lane c.or-x10.result i ∷ lane c.not-x11.result i ∷ lane c.or-x12.result i
    ∷ lane c.and_not-x13.result i ∷ lane c.xor-x14.result i ∷ lane c.and_not-x15.result i ∷ lane c.xor-x16.result i
    ∷ lane c.and-x17.result i ∷ lane c.and_not-x18.result i ∷ lane c.and_not-x19.result i ∷ lane c.and_not-x20.result i
    ∷ lane c.xor-x21.result i ∷ lane c.xor-x22.result i ∷ lane c.xor-x23.result i ∷ lane c.and-x24.result i
    ∷ lane c.xor-x25.result i ∷ lane c.xor-x26.result i ∷ lane c.xor-x27.result i ∷ lane c.or-x28.result i
    ∷ lane c.and-x29.result i ∷ lane c.xor-x30.result i ∷ lane c.xor-x31.result i ∷ lane c.or-x32.result i
    ∷ lane c.xor-x33.result i ∷ lane c.and-x34.result i ∷ lane c.xor-x35.result i ∷ lane c.xor-x36.result i
    ∷ lane c.and_not-x37.result i ∷ lane c.xor-x38.result i ∷ lane c.and_not-x39.result i ∷ lane c.and_not-x40.result i
    ∷ lane c.xor-x41.result i ∷ lane c.and_not-x42.result i ∷ lane c.or-x43.result i ∷ lane c.and-x44.result i
    ∷ lane c.xor-x45.result i ∷ lane c.and_not-x46.result i ∷ lane c.xor-x47.result i ∷ lane c.xor-x48.result i
    ∷ lane c.and-x49.result i ∷ lane c.xor-x50.result i
    ∷ [])
    (c.xor-x1.ensures i h also c.xor-x2.ensures i h also c.or-x3.ensures i h also c.xor-x4.ensures i h
    also c.and-x5.ensures i h also c.or-x6.ensures i h also c.xor-x7.ensures i h also c.or-x8.ensures i h
    also c.and-x9.ensures i h also c.or-x10.ensures i h also c.not-x11.ensures i h also c.or-x12.ensures i h
    also c.and_not-x13.ensures i h also c.xor-x14.ensures i h also c.and_not-x15.ensures i h also c.xor-x16.ensures i h
    also c.and-x17.ensures i h also c.and_not-x18.ensures i h also c.and_not-x19.ensures i h also c.and_not-x20.ensures i h
    also c.xor-x21.ensures i h also c.xor-x22.ensures i h also c.xor-x23.ensures i h also c.and-x24.ensures i h
    also c.xor-x25.ensures i h also c.xor-x26.ensures i h also c.xor-x27.ensures i h also c.or-x28.ensures i h
    also c.and-x29.ensures i h also c.xor-x30.ensures i h also c.xor-x31.ensures i h also c.or-x32.ensures i h
    also c.xor-x33.ensures i h also c.and-x34.ensures i h also c.xor-x35.ensures i h also c.xor-x36.ensures i h
    also c.and_not-x37.ensures i h also c.xor-x38.ensures i h also c.and_not-x39.ensures i h also c.and_not-x40.ensures i h
    also c.xor-x41.ensures i h also c.and_not-x42.ensures i h also c.or-x43.ensures i h also c.and-x44.ensures i h
    also c.xor-x45.ensures i h also c.and_not-x46.ensures i h also c.xor-x47.ensures i h also c.xor-x48.ensures i h
    also c.and-x49.ensures i h also c.xor-x50.ensures i h
    also tt))
    ∙ is_box2 (lane c.args.a i) (lane c.args.b i) (lane c.args.c i) (lane c.args.d i) (lane c.args.e i) (lane c.args.f i)
