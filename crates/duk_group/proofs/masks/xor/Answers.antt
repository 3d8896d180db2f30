use Rattle.std.proofs.Common.{false, get_or, ap₂, ◌∙◌, length-set, arith}
use Rattle.std.specs.Bool.{xor}
use Rattle.duk_lanes.specs.Lanes.{lane_of}
use Rattle.duk_group.proofs.LaneWords.{bit_of_word, one_more_place}
use Rattle.duk_group.proofs.LaneBlocks.{block_of-sum}
use Rattle.duk_group.proofs.masks.xor.Goals as goal

pub returns : goal.returns
returns g c = λ i h.
    block_of-sum g.L.Lanes.lane i c.loop-place.sum c.args.block.now c.args.other.now (omega arith) (omega arith) (omega arith)
    (λ p under. c.loop-place.invariant.below i h p (omega arith))

pub loop-place-preserved : goal.loop-place-preserved
loop-place-preserved g c = record {
  size = length-set c.loop-place.sum c.loop-place.place c.xor.result ∙ c.loop-place.invariant.size;
  below = λ i h.
      let lane = g.L.Lanes.lane in
      let block = c.args.block.now in
      let other = c.args.other.now in
      one_more_place lane i (λ p. xor (get_or (lane_of lane i block) p false) (get_or (lane_of lane i other) p false))
      c.loop-place.sum c.loop-place.place c.xor.result (omega arith) (c.loop-place.invariant.below i h)
      (c.xor.ensures i h
      ∙ ap₂ xor
      (bit_of_word lane i block c.loop-place.place c.index-block-place.result (omega arith))
      (bit_of_word lane i other c.loop-place.place c.index-other-place.result (omega arith)));
}
