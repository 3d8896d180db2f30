use Rattle.std.proofs.Common.{◌<◌, length, ◌∙◌, sym, false, below_more, get_or-set_other, get_or-set_same, length-set, ◌≢◌, arith}
use Rattle.std.proofs.lemmas.List.{ext_get_or}
use mathlib.Core.Bool.{xor}
use Rattle.duk_des.proofs.BitsOfXor.{length-xor_bits, get_or-xor_bits}
use Rattle.duk_des.proofs.bits.xor.Goals as goal

pub loop-i-preserved : goal.loop-i-preserved
unfolding xor
loop-i-preserved g c = record {
  length_is = rw length-set c.loop-i.invariant.length_is;
  added = below_more _ _
      (λ k h. let ne : k ≢ c.loop-i.i = omega arith in rw get_or-set_other (c.loop-i.invariant.added k h))
      (let lt : c.loop-i.i < length c.loop-i.sum = omega arith in rw get_or-set_same);
}

pub returns : goal.returns
returns g c =
    ext_get_or false _ _ (sym (length-xor_bits _ _ (omega arith) ∙ omega arith))
    (λ k h. c.loop-i.invariant.added k (omega arith) ∙ sym (get_or-xor_bits _ _ k (omega arith) (omega arith)))
