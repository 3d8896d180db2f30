-- Made by tools/circuits of tools/circuits.txt.
use Rattle.std.proofs.Common.{[], ◌∷◌, ap, ◌∙◌}
use Rattle.duk_lanes.proofs.Gates.{picked, is_run, ◌also◌}
use Rattle.duk_lanes.proofs.CircuitOf7.{gates7, outputs7, is_box7}
use Rattle.duk_lanes.proofs.boxes.s7.select7.Goals as goal

pub returns : goal.returns
returns g c = λ i h.
    let lane = g.L.Lanes.lane in
    ap (picked outputs7) (is_run gates7 (lane c.args.f i ∷ lane c.args.e i ∷ lane c.args.d i ∷ lane c.args.c i ∷ lane c.args.b i ∷ lane c.args.a i ∷ [])
    (lane c.and-x1.result i ∷ lane c.and_not-x2.result i ∷ lane c.not-x3.result i ∷ lane c.xor-x4.result i
    ∷ lane c.xor-x5.result i ∷ lane c.xor-x6.result i ∷ lane c.or-x7.result i ∷ lane c.and-x8.result i
    ∷ lane c.xor-x9.result i ∷ lane c.xor-x10.result i ∷ lane c.and_not-x11.result i ∷ lane c.xor-x12.result i
    ∷ lane c.or-x13.result i ∷ lane c.xor-x14.result i ∷ lane c.xor-x15.result i ∷ lane c.and_not-x16.result i
    ∷ lane c.and_not-x17.result i ∷ lane c.and_not-x18.result i ∷ lane c.xor-x19.result i ∷ lane c.xor-x20.result i
    ∷ lane c.and-x21.result i ∷ lane c.xor-x22.result i ∷ lane c.xor-x23.result i ∷ lane c.xor-x24.result i
    ∷ lane c.and_not-x25.result i ∷ lane c.xor-x26.result i ∷ lane c.xor-x27.result i ∷ lane c.xor-x28.result i
    ∷ lane c.and_not-x29.result i ∷ lane c.xor-x30.result i ∷ lane c.xor-x31.result i ∷ lane c.xor-x32.result i
    ∷ lane c.and-x33.result i ∷ lane c.and-x34.result i ∷ lane c.xor-x35.result i ∷ lane c.and-x36.result i
    ∷ lane c.xor-x37.result i ∷ lane c.or-x38.result i ∷ lane c.xor-x39.result i ∷ lane c.and-x40.result i
    ∷ lane c.and-x41.result i ∷ lane c.xor-x42.result i ∷ lane c.and_not-x43.result i ∷ lane c.and_not-x44.result i
    ∷ lane c.and_not-x45.result i ∷ lane c.xor-x46.result i ∷ lane c.or-x47.result i ∷ lane c.xor-x48.result i
    ∷ lane c.xor-x49.result i
    ∷ [])
    (c.and-x1.ensures i h also c.and_not-x2.ensures i h also c.not-x3.ensures i h also c.xor-x4.ensures i h
    also c.xor-x5.ensures i h also c.xor-x6.ensures i h also c.or-x7.ensures i h also c.and-x8.ensures i h
    also c.xor-x9.ensures i h also c.xor-x10.ensures i h also c.and_not-x11.ensures i h also c.xor-x12.ensures i h
    also c.or-x13.ensures i h also c.xor-x14.ensures i h also c.xor-x15.ensures i h also c.and_not-x16.ensures i h
    also c.and_not-x17.ensures i h also c.and_not-x18.ensures i h also c.xor-x19.ensures i h also c.xor-x20.ensures i h
    also c.and-x21.ensures i h also c.xor-x22.ensures i h also c.xor-x23.ensures i h also c.xor-x24.ensures i h
    also c.and_not-x25.ensures i h also c.xor-x26.ensures i h also c.xor-x27.ensures i h also c.xor-x28.ensures i h
    also c.and_not-x29.ensures i h also c.xor-x30.ensures i h also c.xor-x31.ensures i h also c.xor-x32.ensures i h
    also c.and-x33.ensures i h also c.and-x34.ensures i h also c.xor-x35.ensures i h also c.and-x36.ensures i h
    also c.xor-x37.ensures i h also c.or-x38.ensures i h also c.xor-x39.ensures i h also c.and-x40.ensures i h
    also c.and-x41.ensures i h also c.xor-x42.ensures i h also c.and_not-x43.ensures i h also c.and_not-x44.ensures i h
    also c.and_not-x45.ensures i h also c.xor-x46.ensures i h also c.or-x47.ensures i h also c.xor-x48.ensures i h
    also c.xor-x49.ensures i h
    also tt))
    ∙ is_box7 (lane c.args.a i) (lane c.args.b i) (lane c.args.c i) (lane c.args.d i) (lane c.args.e i) (lane c.args.f i)
