use Rattle.std.proofs.Common.{◌<◌, ◌≤◌, length, take, sym, ap, ◌∙◌, arith}
use Rattle.duk_des.specs.Des.{des_encrypted, des_decrypted}
use Rattle.duk_tdes.specs.Blocks.{blocks_of}
use Rattle.duk_tdes.specs.Key.{xor_bytes}
use Rattle.duk_tdes.specs.Tdes.{second_key}
use Rattle.duk_mac.specs.Chain.{zero_block, chained}
use Rattle.duk_mac.specs.Retail.{zero_filled, retail_of}
use Rattle.duk_mac.proofs.LastBlockFilled.{filled-more, filled-one}
use Rattle.duk_mac.proofs.retail_mac.retail.Goals as goal

pub loop-rest-preserved : goal.loop-rest-preserved
loop-rest-preserved c =
    let enciphered = des_encrypted c.new-left.result in
    let chain = c.loop-rest.chain in
    let rest = c.loop-rest.rest.now in
    let long : 8 < length rest = omega arith in
    let next = c.encrypt-chain.ensures.bytes ∙ ap enciphered (c.xor_bytes.ensures ∙ ap (xor_bytes chain) (c.array_of.ensures.bytes ∙ c.split_at.ensures.front)) in
    record {
      some = omega (arith, c.split_at.ensures.back_len);
      same = ap (λ found. chained enciphered found (blocks_of (zero_filled c.split_at.result.1.now))) next
          ∙ ap (λ after. chained enciphered (enciphered (xor_bytes chain (take 8 rest))) (blocks_of (zero_filled after))) c.split_at.ensures.back
          ∙ sym (ap (chained enciphered chain) (filled-more rest long))
          ∙ c.loop-rest.invariant.same;
    }

pub returns : goal.returns
unfolding retail_of
returns c =
    let enciphered = des_encrypted c.new-left.result in
    let chain = c.loop-rest.chain in
    let rest = c.loop-rest.rest.now in
    let short : length rest ≤ 8 = omega arith in
    let last = c.encrypt-chain-2.ensures.bytes ∙ ap enciphered (c.xor_bytes-2.ensures ∙ ap (xor_bytes chain) c.fill_block.ensures)
    ∙ sym (ap (chained enciphered chain) (filled-one rest c.loop-rest.invariant.some short))
    ∙ c.loop-rest.invariant.same in
    let left = c.new-left.ensures ∙ c.bytes.ensures.bytes ∙ c.halves-left.ensures.left in
    let right = c.bytes-2.ensures.bytes ∙ c.halves-left.ensures.right in
    c.encrypt.ensures.bytes
    ∙ ap enciphered (c.decrypt_block.ensures.bytes ∙ ap (λ key. des_decrypted key c.encrypt-chain-2.result) right ∙ ap (des_decrypted (second_key c.args.key.now)) last)
    ∙ ap (λ key. des_encrypted key (des_decrypted (second_key c.args.key.now) (chained (des_encrypted key) zero_block (blocks_of (zero_filled c.args.message.now))))) left
