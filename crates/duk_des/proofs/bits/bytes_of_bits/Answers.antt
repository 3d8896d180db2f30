use Rattle.std.proofs.Common.{◌≡◌, ◌≢◌, ◌+◌, ◌-◌, ◌*◌, ◌<◌, length, take, drop, sym, ap, ◌∙◌, below_more, get_or-set_other, get_or-set_same, length-set, arith}
use Rattle.std.proofs.lemmas.List.{ext_get_or}
use Rattle.duk_des.specs.Bits.{number_of}
use Rattle.duk_des.proofs.PlaceTables.{byte_at, length-bytes_of_bits}
use Rattle.duk_des.proofs.bits.bytes_of_bits.Goals as goal

pub loop-i-preserved : goal.loop-i-preserved
loop-i-preserved c =
    let eight : 8 * c.loop-i.i + 8 - 8 * c.loop-i.i ≡ 8 = omega arith in
    let byte = c.byte_of_bits.ensures ∙ ap (λ n. number_of (take n (drop (8 * c.loop-i.i) c.args.bits.now))) eight in
    record {
      length_is = rw length-set c.loop-i.invariant.length_is;
      spelled = below_more _ _
          (λ k h. let ne : k ≢ c.loop-i.i = omega arith in rw get_or-set_other (c.loop-i.invariant.spelled k h))
          (let lt : c.loop-i.i < length c.loop-i.bytes = omega arith in rw get_or-set_same byte);
    }

pub returns : goal.returns
returns c =
    ext_get_or 0 _ _ (omega (arith, length-bytes_of_bits 8 c.args.bits.now))
    (λ k h. c.loop-i.invariant.spelled k (omega arith) ∙ sym (byte_at 8 c.args.bits.now k (omega arith)))
