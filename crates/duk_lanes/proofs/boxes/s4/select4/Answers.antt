-- Made by tools/circuits of tools/circuits.txt.
use Rattle.std.proofs.Common.{[], ◌∷◌, ap, ◌∙◌}
use Rattle.duk_lanes.proofs.Gates.{picked, is_run, ◌also◌}
use Rattle.duk_lanes.proofs.CircuitOf4.{gates4, outputs4, is_box4}
use Rattle.duk_lanes.proofs.boxes.s4.select4.Goals as goal

pub returns : goal.returns
returns g c = λ i h.
    let lane = g.L.Lanes.lane in
    ap (picked outputs4) (is_run gates4 (lane c.args.f i ∷ lane c.args.e i ∷ lane c.args.d i ∷ lane c.args.c i ∷ lane c.args.b i ∷ lane c.args.a i ∷ [])
    (lane c.xor-x1.result i ∷ lane c.and-x2.result i ∷ lane c.xor-x3.result i ∷ lane c.and-x4.result i
    ∷ lane c.xor-x5.result i ∷ lane c.and_not-x6.result i ∷ lane c.or-x7.result i ∷ lane c.and-x8.result i
    ∷ lane c.xor-x9.result i ∷ lane c.not-x10.result i ∷ lane c.xor-x11.result i ∷ lane c.and-x12.result i
    ∷ lane c.xor-x13.result i ∷ lane c.and_not-x14.result i ∷ lane c.and_not-x15.result i ∷ lane c.xor-x16.result i
    ∷ lane c.xor-x17.result i ∷ lane c.or-x18.result i ∷ lane c.xor-x19.result i ∷ lane c.xor-x20.result i
    ∷ lane c.and-x21.result i ∷ lane c.and-x22.result i ∷ lane c.xor-x23.result i ∷ lane c.or-x24.result i
    ∷ lane c.xor-x25.result i ∷ lane c.xor-x26.result i ∷ lane c.xor-x27.result i ∷ lane c.xor-x28.result i
    ∷ lane c.and-x29.result i ∷ lane c.xor-x30.result i ∷ lane c.or-x31.result i ∷ lane c.xor-x32.result i
    ∷ lane c.xor-x33.result i ∷ lane c.xor-x34.result i ∷ lane c.not-x35.result i ∷ lane c.xor-x36.result i
    ∷ [])
    (c.xor-x1.ensures i h also c.and-x2.ensures i h also c.xor-x3.ensures i h also c.and-x4.ensures i h
    also c.xor-x5.ensures i h also c.and_not-x6.ensures i h also c.or-x7.ensures i h also c.and-x8.ensures i h
    also c.xor-x9.ensures i h also c.not-x10.ensures i h also c.xor-x11.ensures i h also c.and-x12.ensures i h
    also c.xor-x13.ensures i h also c.and_not-x14.ensures i h also c.and_not-x15.ensures i h also c.xor-x16.ensures i h
    also c.xor-x17.ensures i h also c.or-x18.ensures i h also c.xor-x19.ensures i h also c.xor-x20.ensures i h
    also c.and-x21.ensures i h also c.and-x22.ensures i h also c.xor-x23.ensures i h also c.or-x24.ensures i h
    also c.xor-x25.ensures i h also c.xor-x26.ensures i h also c.xor-x27.ensures i h also c.xor-x28.ensures i h
    also c.and-x29.ensures i h also c.xor-x30.ensures i h also c.or-x31.ensures i h also c.xor-x32.ensures i h
    also c.xor-x33.ensures i h also c.xor-x34.ensures i h also c.not-x35.ensures i h also c.xor-x36.ensures i h
    also tt))
    ∙ is_box4 (lane c.args.a i) (lane c.args.b i) (lane c.args.c i) (lane c.args.d i) (lane c.args.e i) (lane c.args.f i)
