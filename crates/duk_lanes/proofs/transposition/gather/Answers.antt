use Rattle.std.proofs.Common.{◌≡◌, ◌-◌, [], get_or, ap, ◌∙◌, arith, rules}
use Rattle.duk_des.specs.Bits.{bits_of_bytes}
use Rattle.duk_lanes.proofs.BlocksOfWords.{lane_of_words}
use Rattle.duk_lanes.proofs.transposition.gather.Goals as goal

pub returns : goal.returns
returns c i within =
    let same : 63 - (63 - i) ≡ i = omega arith in
    lane_of_words c.transposed.result (get_or c.loop-i.rows (63 - i) 0) i (search rules) (λ p below. c.transposed.ensures p i below within)
    ∙ c.loop-i.invariant.read (63 - i) (omega arith)
    ∙ ap (λ k. bits_of_bytes (get_or c.args.blocks.now k [])) same
