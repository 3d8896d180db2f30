use Rattle.std.proofs.Common.{◌≡◌, ◌-◌, get_or, sym, ap, ◌∙◌, arith}
use Rattle.duk_des.specs.Bits.{bytes_of_bits}
use Rattle.duk_lanes.specs.Words.{word_lane}
use Rattle.duk_lanes.proofs.BlocksOfWords.{lane_of_words}
use Rattle.duk_lanes.proofs.transposition.scatter.Goals as goal

pub returns : goal.returns
returns c i within =
    let words = c.args.words.now in
    let row = get_or c.transposed-rows.result (63 - i) 0 in
    let same : 63 - (63 - i) ≡ i = omega arith in
    c.loop-i.invariant.written i (omega arith)
    ∙ ap (bytes_of_bits 8)
    (sym (lane_of_words words row i c.told-words
    (λ p below.
    let back : 63 - (63 - p) ≡ p = omega arith in
    sym
    (c.transposed-rows.ensures (63 - i) (63 - p) (omega arith) (omega arith)
    ∙ ap (λ k. word_lane (get_or words k 0) (63 - (63 - i))) back
    ∙ ap (word_lane (get_or words p 0)) same))))
