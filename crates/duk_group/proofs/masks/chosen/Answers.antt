use Rattle.std.proofs.Common.{◌||◌, Bool, false, get_or, ap, ap₂, ◌∙◌, length-set, arith}
use Rattle.duk_lanes.specs.Lanes.{lane_of}
use Rattle.duk_group.proofs.BitsOfMasks.{one_of, gates_choose}
use Rattle.duk_group.proofs.LaneWords.{bit_of_word, one_more_place}
use Rattle.duk_group.proofs.LaneBlocks.{block_of-same}
use Rattle.duk_group.proofs.masks.chosen.Goals as goal

pub returns-clause-one : goal.returns-clause-one
returns-clause-one g c = λ i h is.
    let lane = g.L.Lanes.lane in
    block_of-same lane i c.loop-place.words c.args.block.now (omega arith) (omega arith)
    (λ p under. c.loop-place.invariant.below i h p (omega arith) ∙ ap (λ b. one_of b (get_or (lane_of lane i c.args.block.now) p false) (get_or (lane_of lane i c.args.other.now) p false)) is)

pub returns-clause-zero : goal.returns-clause-zero
returns-clause-zero g c = λ i h is.
    let lane = g.L.Lanes.lane in
    block_of-same lane i c.loop-place.words c.args.other.now (omega arith) (omega arith)
    (λ p under. c.loop-place.invariant.below i h p (omega arith) ∙ ap (λ b. one_of b (get_or (lane_of lane i c.args.block.now) p false) (get_or (lane_of lane i c.args.other.now) p false)) is)

pub loop-place-preserved : goal.loop-place-preserved
loop-place-preserved g c = record {
  size = length-set c.loop-place.words c.loop-place.place c.or.result ∙ c.loop-place.invariant.size;
  below = λ i h.
      let lane = g.L.Lanes.lane in
      let first = lane c.args.first i in
      let block = c.args.block.now in
      let other = c.args.other.now in
      one_more_place lane i (λ p. one_of first (get_or (lane_of lane i block) p false) (get_or (lane_of lane i other) p false))
      c.loop-place.words c.loop-place.place c.or.result (omega arith) (c.loop-place.invariant.below i h)
      (c.or.ensures i h
      ∙ ap₂ (λ (a b : Bool). a || b) (c.and.ensures i h) (c.and_not.ensures i h)
      ∙ gates_choose first (lane (get_or block c.loop-place.place c.index-block-place.result) i) (lane (get_or other c.loop-place.place c.index-other-place.result) i)
      ∙ ap₂ (one_of first)
      (bit_of_word lane i block c.loop-place.place c.index-block-place.result (omega arith))
      (bit_of_word lane i other c.loop-place.place c.index-other-place.result (omega arith)));
}
