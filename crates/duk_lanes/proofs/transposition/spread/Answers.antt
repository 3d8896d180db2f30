use Rattle.std.proofs.Common.{◌≡◌, ◌≢◌, ◌+◌, ◌-◌, ◌%◌, ◌^◌, ◌<◌, length, sym, ap, ◌∙◌, below_more, get_or-set_other, get_or-set_same, length-set, arith}
use Rattle.std.specs.Int.{bit_at}
use Rattle.std.proofs.lemmas.Nat.Bits.{shr_and_one, bit_at-lt}
use Rattle.duk_lanes.specs.Words.{word_lane}
use Rattle.duk_lanes.proofs.BlocksOfWords.{lane_of_words}
use Rattle.duk_lanes.proofs.LanesOfWords.{lane-neg}
use Rattle.duk_lanes.proofs.transposition.spread.Goals as goal

pub loop-p-preserved : goal.loop-p-preserved
unfolding word_lane
loop-p-preserved c =
    let word = c.word_of-word.result in
    let place = 63 - c.loop-p.p in
    let negative : (c.wrapping_neg.result + bit_at word place) % 2 ^ 64 ≡ 0 =
    ap (λ bit. (c.wrapping_neg.result + bit) % 2 ^ 64) (sym (shr_and_one word place)) ∙ c.wrapping_neg.ensures in
    record {
      length_is = rw length-set c.loop-p.invariant.length_is;
      spread = below_more _ _
          (λ p h i within. let ne : p ≢ c.loop-p.p = omega arith in rw get_or-set_other (c.loop-p.invariant.spread p h i within))
          (λ i within.
          let lt : c.loop-p.p < length c.loop-p.words = omega arith in
          rw get_or-set_same (lane-neg (bit_at word place) c.wrapping_neg.result i (bit_at-lt word place) c.wrapping_neg.type_inv negative within));
    }

pub returns : goal.returns
returns c i within =
    lane_of_words c.loop-p.words c.word_of-word.result i c.loop-p.invariant.length_is (λ p below. c.loop-p.invariant.spread p (omega arith) i within)
    ∙ c.word_of-word.ensures
