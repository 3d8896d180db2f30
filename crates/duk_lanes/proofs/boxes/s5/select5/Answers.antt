-- Made by tools/circuits of tools/circuits.txt.
use Rattle.std.proofs.Common.{[], ◌∷◌, ap, ◌∙◌}
use Rattle.duk_lanes.proofs.Gates.{picked, is_run, ◌also◌}
use Rattle.duk_lanes.proofs.CircuitOf5.{gates5, outputs5, is_box5}
use Rattle.duk_lanes.proofs.boxes.s5.select5.Goals as goal

pub returns : goal.returns
returns g c = λ i h.
    let lane = g.L.Lanes.lane in
    ap (picked outputs5) (is_run gates5 (lane c.args.f i ∷ lane c.args.e i ∷ lane c.args.d i ∷ lane c.args.c i ∷ lane c.args.b i ∷ lane c.args.a i ∷ [])
    (lane c.xor-x1.result i ∷ lane c.and_not-x2.result i ∷ lane c.or-x3.result i ∷ lane c.and_not-x4.result i
    ∷ lane c.xor-x5.result i ∷ lane c.xor-x6.result i ∷ lane c.xor-x7.result i ∷ lane c.xor-x8.result i
    ∷ lane c.or-x9.result i ∷ lane c.xor-x10.result i ∷ lane c.and_not-x11.result i ∷ lane c.xor-x12.result i
    ∷ lane c.xor-x13.result i ∷ lane c.or-x14.result i ∷ lane c.xor-x15.result i ∷ lane c.or-x16.result i
    ∷ lane c.xor-x17.result i ∷ lane c.and_not-x18.result i ∷ lane c.or-x19.result i ∷ lane c.xor-x20.result i
    ∷ lane c.and-x21.result i ∷ lane c.xor-x22.result i ∷ lane c.xor-x23.result i ∷ lane c.and_not-x24.result i
    ∷ lane c.or-x25.result i ∷ lane c.and_not-x26.result i ∷ lane c.xor-x27.result i ∷ lane c.xor-x28.result i
    ∷ lane c.and_not-x29.result i ∷ lane c.or-x30.result i ∷ lane c.and-x31.result i ∷ lane c.xor-x32.result i
    ∷ lane c.or-x33.result i ∷ lane c.and-x34.result i ∷ lane c.and_not-x35.result i ∷ lane c.xor-x36.result i
    ∷ lane c.and_not-x37.result i ∷ lane c.xor-x38.result i ∷ lane c.xor-x39.result i ∷ lane c.xor-x40.result i
    ∷ lane c.or-x41.result i ∷ lane c.and-x42.result i ∷ lane c.xor-x43.result i ∷ lane c.or-x44.result i
    ∷ lane c.xor-x45.result i ∷ lane c.or-x46.result i ∷ lane c.xor-x47.result i ∷ lane c.and_not-x48.result i
    ∷ lane c.or-x49.result i ∷ lane c.xor-x50.result i ∷ lane c.not-x51.result i ∷ lane c.and-x52.result i
    ∷ lane c.xor-x53.result i ∷ lane c.or-x54.result i ∷ lane c.xor-x55.result i ∷ lane c.and-x56.result i
    ∷ lane c.xor-x57.result i
    ∷ [])
    (c.xor-x1.ensures i h also c.and_not-x2.ensures i h also c.or-x3.ensures i h also c.and_not-x4.ensures i h
    also c.xor-x5.ensures i h also c.xor-x6.ensures i h also c.xor-x7.ensures i h also c.xor-x8.ensures i h
    also c.or-x9.ensures i h also c.xor-x10.ensures i h also c.and_not-x11.ensures i h also c.xor-x12.ensures i h
    also c.xor-x13.ensures i h also c.or-x14.ensures i h also c.xor-x15.ensures i h also c.or-x16.ensures i h
    also c.xor-x17.ensures i h also c.and_not-x18.ensures i h also c.or-x19.ensures i h also c.xor-x20.ensures i h
    also c.and-x21.ensures i h also c.xor-x22.ensures i h also c.xor-x23.ensures i h also c.and_not-x24.ensures i h
    also c.or-x25.ensures i h also c.and_not-x26.ensures i h also c.xor-x27.ensures i h also c.xor-x28.ensures i h
    also c.and_not-x29.ensures i h also c.or-x30.ensures i h also c.and-x31.ensures i h also c.xor-x32.ensures i h
    also c.or-x33.ensures i h also c.and-x34.ensures i h also c.and_not-x35.ensures i h also c.xor-x36.ensures i h
    also c.and_not-x37.ensures i h also c.xor-x38.ensures i h also c.xor-x39.ensures i h also c.xor-x40.ensures i h
    also c.or-x41.ensures i h also c.and-x42.ensures i h also c.xor-x43.ensures i h also c.or-x44.ensures i h
    also c.xor-x45.ensures i h also c.or-x46.ensures i h also c.xor-x47.ensures i h also c.and_not-x48.ensures i h
    also c.or-x49.ensures i h also c.xor-x50.ensures i h also c.not-x51.ensures i h also c.and-x52.ensures i h
    also c.xor-x53.ensures i h also c.or-x54.ensures i h also c.xor-x55.ensures i h also c.and-x56.ensures i h
    also c.xor-x57.ensures i h
    also tt))
    ∙ is_box5 (lane c.args.a i) (lane c.args.b i) (lane c.args.c i) (lane c.args.d i) (lane c.args.e i) (lane c.args.f i)
