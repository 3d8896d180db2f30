use Rattle.std.proofs.Common.{◌≡◌, ◌*◌, ◌+◌, ◌-◌, [], length, ◌∙◌, arith}
use borrow.Author.Count.{below_more}
use borrow.Rule.Slice.PartMut.{put_mid}
use Rattle.std.proofs.lemmas.List.{get_or_default, take_all}
use Rattle.duk_group.specs.Numbers.{bytes_at}
use Rattle.duk_calls.specs.Answer.{part_at}
use Rattle.duk_calls.proofs.Parts.{part_before, part_within, length-written}
use Rattle.duk_calls.proofs.many_keys.write_keys.Goals as goal

pub loop-i-preserved : goal.loop-i-preserved
loop-i-preserved c =
    let keys = c.args.keys.now in
    let i = c.loop-i.i in
    let bytes = c.loop-i.bytes in
    let part = c.copy_from_slice.new.self in
    let k = 16 * i + 16 - 16 * i in
    let is : part ≡ c.bytes.result = c.copy_from_slice.ensures.after in
    let long : length part ≡ 16 = omega (arith, c.copy_from_slice.ensures.len) in
    record {
      kept = length-written (16 * i) k bytes part (omega arith) (omega arith) ∙ c.loop-i.invariant.kept;
      below =
          below_more (λ p. part_at 16 (put_mid (16 * i) k bytes part) p ≡ bytes_at keys p) i
          (λ p h. part_before 16 (16 * p) (16 * i) k bytes part (omega arith) (omega arith) ∙ c.loop-i.invariant.below p h)
          (part_within 16 (16 * i) 0 (16 * i) k bytes part (omega arith) (omega arith) (omega arith)
          ∙ take_all 16 part (omega arith)
          ∙ is
          ∙ c.bytes.ensures.bytes
          ∙ c.index-keys-i.is
          ∙ get_or_default keys i c.index-keys-i.result [] c.loop-i-test.true);
    }
