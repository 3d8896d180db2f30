use Rattle.std.proofs.Common.{◌≡◌, ℕ, List, [], ◌<◌, ◌++◌, ap₂, ◌∙◌, length-set, arith}
use Rattle.std.proofs.lemmas.List.{get_or_default}
use Rattle.duk_tdes.specs.Tdes.{first_key, second_key}
use Rattle.duk_lanes.specs.Words.{wide_lane}
use Rattle.duk_group.specs.Blocks.{key_of}
use Rattle.duk_group.specs.Numbers.{bytes_at}
use Rattle.duk_group.proofs.JoinedHalves.{AreHalvesOf, half_block, halves_joined}
use Rattle.duk_group.proofs.WrittenPlaces.{written_below_both}
use Rattle.duk_group.proofs.transposed.gather_keys.Goals as goal

pub returns : goal.returns
returns c = λ i h.
    let lane : i < 128 = omega arith in
    let halves = c.loop-i.invariant.each i (omega arith) in
    ap₂ (λ (left right : List (List ℕ)). key_of wide_lane i left right) c.new.ensures.left c.new.ensures.right
    ∙ ap₂ (λ (left right : List ℕ). left ++ right) (c.gather_blocks.ensures i lane halves.left_block) (c.gather_blocks-2.ensures i lane halves.right_block)
    ∙ halves.joined

pub loop-i-preserved : goal.loop-i-preserved
loop-i-preserved c =
    let keys = c.args.keys.now in
    let i = c.loop-i.i in
    let key = c.index-keys-i.result in
    let left = c.bytes.result in
    let right = c.bytes-in-loop-i.result in
    let is_left : left ≡ first_key key = c.bytes.ensures.bytes ∙ c.halves-first.ensures.left in
    let is_right : right ≡ second_key key = c.bytes-in-loop-i.ensures.bytes ∙ c.halves-first.ensures.right in
    let found : key ≡ bytes_at keys i = c.index-keys-i.is ∙ get_or_default keys i key [] c.loop-i-test.true in
    record {
      left_size = length-set c.loop-i.left i left ∙ c.loop-i.invariant.left_size;
      right_size = length-set c.loop-i.right i right ∙ c.loop-i.invariant.right_size;
      each =
          written_below_both (λ p left right. AreHalvesOf (bytes_at keys p) left right) c.loop-i.left c.loop-i.right i left [] right [] (omega arith) (omega arith) c.loop-i.invariant.each
          (record {
            joined = ap₂ (λ (left right : List ℕ). left ++ right) is_left is_right ∙ halves_joined key c.tdes_key.ensures.size ∙ found;
            left_block = half_block c.bytes.ensures.key c.bytes.ensures.bytes;
            right_block = half_block c.bytes-in-loop-i.ensures.key c.bytes-in-loop-i.ensures.bytes;
          });
    }
