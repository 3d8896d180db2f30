use Rattle.std.proofs.Common.{ℕ, ◌+◌, false, sym, ◌∙◌, length-set, below_more, arith}
use Rattle.std.proofs.lemmas.List.{get_or-map, length-map}
use Rattle.duk_lanes.proofs.Places.{both_lists}
use Rattle.duk_lanes.proofs.BitsOfWords.{bit_elsewhere, bit_there}
use Rattle.duk_lanes.proofs.wiring.joined.Goals as goal

pub loop-k-preserved : goal.loop-k-preserved
loop-k-preserved g c =
    let lane = λ (i : ℕ) (word : g.row.L.Denot). g.L.Lanes.lane word i in
    let long = length-set c.loop-k.both c.loop-k.k c.index-first-k.result in
    let is = c.loop-k.invariant.length_is in
    record {
      length_is = rw (length-set, length-set) is;
      from_first = λ i.
          below_more _ _
          (λ k below. bit_elsewhere (lane i) _ (g.row.N + c.loop-k.k) k _ (omega arith)
          ∙ bit_elsewhere (lane i) c.loop-k.both c.loop-k.k k _ (omega arith) ∙ c.loop-k.invariant.from_first i k below)
          (bit_elsewhere (lane i) _ (g.row.N + c.loop-k.k) c.loop-k.k _ (omega arith)
          ∙ bit_there (lane i) c.loop-k.both c.loop-k.k _ (omega (arith, is))
          ∙ sym (get_or-map (lane i) c.args.first.now c.loop-k.k c.index-first-k.result false (omega arith)));
      from_second = λ i.
          below_more _ _
          (λ k below. bit_elsewhere (lane i) _ (g.row.N + c.loop-k.k) (g.row.N + k) _ (omega arith)
          ∙ bit_elsewhere (lane i) c.loop-k.both c.loop-k.k (g.row.N + k) _ (omega arith) ∙ c.loop-k.invariant.from_second i k below)
          (bit_there (lane i) _ (g.row.N + c.loop-k.k) _ (rw length-set (omega (arith, is)))
          ∙ sym (get_or-map (lane i) c.args.second.now c.loop-k.k c.index-second-k.result false (omega arith)));
    }

pub returns : goal.returns
returns g c =
    λ i.
    let lane = λ (word : g.row.L.Denot). g.L.Lanes.lane word i in
    let first = length-map c.args.first.now lane in
    let second = length-map c.args.second.now lane in
    let both = length-map c.loop-k.both lane in
    both_lists g.row.N _ _ _ (omega (arith, first)) (omega (arith, second)) (omega (arith, both, c.loop-k.invariant.length_is))
    (λ k below. c.loop-k.invariant.from_first i k (omega arith)) (λ k below. c.loop-k.invariant.from_second i k (omega arith))
