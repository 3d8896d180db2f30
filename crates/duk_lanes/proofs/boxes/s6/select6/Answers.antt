-- Made by tools/circuits of tools/circuits.txt.
use Rattle.std.proofs.Common.{[], ◌∷◌, ap, ◌∙◌}
use Rattle.duk_lanes.proofs.Gates.{picked, is_run, ◌also◌}
use Rattle.duk_lanes.proofs.CircuitOf6.{gates6, outputs6, is_box6}
use Rattle.duk_lanes.proofs.boxes.s6.select6.Goals as goal

pub returns : goal.returns
returns g c = λ i h.
    let lane = g.L.Lanes.lane in
    ap (picked outputs6) (is_run gates6 (lane c.args.f i ∷ lane c.args.e i ∷ lane c.args.d i ∷ lane c.args.c i ∷ lane c.args.b i ∷ lane c.args.a i ∷ [])
    (lane c.xor-x1.result i ∷ lane c.and-x2.result i ∷ lane c.xor-x3.result i ∷ lane c.and-x4.result i
    ∷ lane c.xor-x5.result i ∷ lane c.xor-x6.result i ∷ lane c.and_not-x7.result i ∷ lane c.and_not-x8.result i
    ∷ lane c.or-x9.result i ∷ lane c.xor-x10.result i ∷ lane c.and_not-x11.result i ∷ lane c.or-x12.result i
    ∷ lane c.xor-x13.result i ∷ lane c.xor-x14.result i ∷ lane c.xor-x15.result i ∷ lane c.and_not-x16.result i
    ∷ lane c.xor-x17.result i ∷ lane c.not-x18.result i ∷ lane c.xor-x19.result i ∷ lane c.xor-x20.result i
    ∷ lane c.and-x21.result i ∷ lane c.xor-x22.result i ∷ lane c.or-x23.result i ∷ lane c.xor-x24.result i
    ∷ lane c.and_not-x25.result i ∷ lane c.or-x26.result i ∷ lane c.and-x27.result i ∷ lane c.xor-x28.result i
    ∷ lane c.xor-x29.result i ∷ lane c.and_not-x30.result i ∷ lane c.xor-x31.result i ∷ lane c.and_not-x32.result i
    ∷ lane c.xor-x33.result i ∷ lane c.and-x34.result i ∷ lane c.xor-x35.result i ∷ lane c.and_not-x36.result i
    ∷ lane c.xor-x37.result i ∷ lane c.xor-x38.result i ∷ lane c.and-x39.result i ∷ lane c.or-x40.result i
    ∷ lane c.xor-x41.result i ∷ lane c.or-x42.result i ∷ lane c.xor-x43.result i ∷ lane c.and_not-x44.result i
    ∷ lane c.or-x45.result i ∷ lane c.and-x46.result i ∷ lane c.and_not-x47.result i ∷ lane c.or-x48.result i
    ∷ lane c.xor-x49.result i ∷ lane c.xor-x50.result i ∷ lane c.xor-x51.result i
    ∷ [])
    (c.xor-x1.ensures i h also c.and-x2.ensures i h also c.xor-x3.ensures i h also c.and-x4.ensures i h
    also c.xor-x5.ensures i h also c.xor-x6.ensures i h also c.and_not-x7.ensures i h also c.and_not-x8.ensures i h
    also c.or-x9.ensures i h also c.xor-x10.ensures i h also c.and_not-x11.ensures i h also c.or-x12.ensures i h
    also c.xor-x13.ensures i h also c.xor-x14.ensures i h also c.xor-x15.ensures i h also c.and_not-x16.ensures i h
    also c.xor-x17.ensures i h also c.not-x18.ensures i h also c.xor-x19.ensures i h also c.xor-x20.ensures i h
    also c.and-x21.ensures i h also c.xor-x22.ensures i h also c.or-x23.ensures i h also c.xor-x24.ensures i h
    also c.and_not-x25.ensures i h also c.or-x26.ensures i h also c.and-x27.ensures i h also c.xor-x28.ensures i h
    also c.xor-x29.ensures i h also c.and_not-x30.ensures i h also c.xor-x31.ensures i h also c.and_not-x32.ensures i h
    also c.xor-x33.ensures i h also c.and-x34.ensures i h also c.xor-x35.ensures i h also c.and_not-x36.ensures i h
    also c.xor-x37.ensures i h also c.xor-x38.ensures i h also c.and-x39.ensures i h also c.or-x40.ensures i h
    also c.xor-x41.ensures i h also c.or-x42.ensures i h also c.xor-x43.ensures i h also c.and_not-x44.ensures i h
    also c.or-x45.ensures i h also c.and-x46.ensures i h also c.and_not-x47.ensures i h also c.or-x48.ensures i h
    also c.xor-x49.ensures i h also c.xor-x50.ensures i h also c.xor-x51.ensures i h
    also tt))
    ∙ is_box6 (lane c.args.a i) (lane c.args.b i) (lane c.args.c i) (lane c.args.d i) (lane c.args.e i) (lane c.args.f i)
