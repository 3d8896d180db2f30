use Rattle.std.proofs.Common.{◌≡◌, ◌-◌, ◌/◌, ◌%◌, ◌^◌, ◌==◌, ℕ, Bool, false, length, get_or, sym, ap, ap₂, ◌∙◌, length-set, arith}
use borrow.Author.Count.{below_more}
use Rattle.std.proofs.lemmas.List.{get_or_default}
use Rattle.std.specs.Bool.{xor}
use Rattle.duk_des.specs.Bits.{bits_of_bytes}
use Rattle.duk_lanes.specs.Lanes.{lane_of}
use Rattle.duk_group.proofs.BitsAndBytes.{length-bits_of_bytes}
use Rattle.duk_group.proofs.BitsOfMasks.{bit_of_mask, flipped, not_flipped}
use Rattle.duk_group.proofs.LaneWords.{bit_of_word, one_more_place, other_place}
use Rattle.duk_group.proofs.LaneBlocks.{block_of-masked}
use Rattle.duk_group.proofs.masks.masked.Goals as goal
use Rattle.duk_group.proofs.masks.masked.Goals.{then-mask-place-eq1, else-mask-place-eq1}

pub returns : goal.returns
returns g c = λ i h.
    let mask = c.args.mask.now in
    block_of-masked g.L.Lanes.lane i c.loop-place.sum c.args.block.now mask (omega arith) (omega arith)
    (record { eight = omega arith; bytes_fit = λ k d under. let same = get_or_default mask k d 0 under in omega (arith, c.fits-mask k) })
    (omega (arith, length-bits_of_bytes mask))
    (λ p under. c.loop-place.invariant.below i h p (omega arith))

pub loop-place-preserved : goal.loop-place-preserved
loop-place-preserved g c =
    let lane = g.L.Lanes.lane in
    let block = c.args.block.now in
    let mask = c.args.mask.now in
    let sum = c.loop-place.sum in
    let place = c.loop-place.place in
    let bit : ℕ → Bool = λ p. get_or (bits_of_bytes mask) p false in
    let read : ℕ → ℕ → Bool = λ i p. get_or (lane_of lane i block) p false in
    let is_bit = bit_of_mask mask place (omega arith) in
    elim c.if-mask-place-eq1.branch [
      | then-mask-place-eq1 w ↦ record {
        size = ap length w.sum-is ∙ length-set sum place w.not.result ∙ c.loop-place.invariant.size;
        below = λ i h p under.
            ap (λ words. get_or (lane_of lane i words) p false) w.sum-is
            ∙ one_more_place lane i (λ p. xor (read i p) (bit p)) sum place w.not.result (omega arith) (c.loop-place.invariant.below i h)
            (w.not.ensures i h
            ∙ flipped (lane (get_or block place w.index-block-place.result) i)
            ∙ ap₂ xor (bit_of_word lane i block place w.index-block-place.result (omega arith)) (sym (is_bit ∙ ap (λ n. n == 1) w.if-mask-place-eq1.true)))
            p under;
        above = λ i h p over.
            ap (λ words. get_or (lane_of lane i words) p false) w.sum-is
            ∙ other_place lane i sum place w.not.result p (omega arith)
            ∙ c.loop-place.invariant.above i h p (omega arith);
      }
      | else-mask-place-eq1 w ↦
          let zero : get_or mask (place / 8) 0 / 2 ^ (7 - place % 8) % 2 ≡ 0 = omega (arith, w.if-mask-place-eq1.false) in
          record {
            size = ap length w.sum-is ∙ c.loop-place.invariant.size;
            below = λ i h p under.
                ap (λ words. get_or (lane_of lane i words) p false) w.sum-is
                ∙ below_more (λ p. get_or (lane_of lane i sum) p false ≡ xor (read i p) (bit p)) place (c.loop-place.invariant.below i h)
                (c.loop-place.invariant.above i h place (omega arith)
                ∙ not_flipped (read i place)
                ∙ ap (xor (read i place)) (sym (is_bit ∙ ap (λ n. n == 1) zero)))
                p under;
            above = λ i h p over.
                ap (λ words. get_or (lane_of lane i words) p false) w.sum-is
                ∙ c.loop-place.invariant.above i h p (omega arith);
          }
    ]
