use Rattle.std.proofs.Common.{ℕ, false, sym, ◌∙◌, length-set, below_more, arith}
use Rattle.std.specs.Bool.{xor}
use Rattle.std.proofs.lemmas.List.{get_or-map, length-map}
use Rattle.duk_lanes.specs.Lanes.{lane_of}
use Rattle.duk_lanes.proofs.BitsOfWords.{both, bit_elsewhere, bit_there, summed}
use Rattle.duk_lanes.proofs.wiring.xor_into.Goals as goal

pub loop-k-preserved : goal.loop-k-preserved
loop-k-preserved g c =
    let lane = λ (i : ℕ) (word : g.row.L.Denot). g.L.Lanes.lane word i in
    record {
      length_is = rw length-set c.loop-k.invariant.length_is;
      added = λ i h.
          below_more _ _
          (λ k below. bit_elsewhere (lane i) c.loop-k.sum c.loop-k.k k c.xor.result (omega arith) ∙ c.loop-k.invariant.added i h k below)
          (bit_there (lane i) c.loop-k.sum c.loop-k.k c.xor.result (omega (arith, c.loop-k.invariant.length_is)) ∙ c.xor.ensures i h
          ∙ both xor
          (sym (get_or-map (lane i) c.loop-k.sum c.loop-k.k c.index-sum-k.result false (omega (arith, c.loop-k.invariant.length_is)))
          ∙ c.loop-k.invariant.left i c.loop-k.k (omega arith))
          (sym (get_or-map (lane i) c.args.other.now c.loop-k.k c.index-other-k.result false (omega arith))));
      left = λ i k past. bit_elsewhere (lane i) c.loop-k.sum c.loop-k.k k c.xor.result (omega arith) ∙ c.loop-k.invariant.left i k (omega arith);
    }

pub returns : goal.returns
returns g c =
    λ i h.
    let lane = λ (word : g.row.L.Denot). g.L.Lanes.lane word i in
    let old = length-map c.args.sum.now lane in
    let other = length-map c.args.other.now lane in
    let new = length-map c.loop-k.sum lane in
    summed (lane_of g.L.Lanes.lane i c.args.sum.now) (lane_of g.L.Lanes.lane i c.args.other.now) (lane_of g.L.Lanes.lane i c.loop-k.sum)
    (omega (arith, old, other)) (omega (arith, old, new, c.loop-k.invariant.length_is)) (λ k below. c.loop-k.invariant.added i h k (omega (arith, old)))
