use Rattle.std.proofs.Common.{◌<◌, ◌≤◌, length, take, refl, sym, ap, ◌∙◌, arith}
use Rattle.duk_tdes.specs.Blocks.{blocks_of}
use Rattle.duk_tdes.specs.Key.{xor_bytes}
use Rattle.duk_tdes.specs.Tdes.{tdes_encrypted}
use Rattle.duk_mac.specs.Chain.{chained}
use Rattle.duk_mac.specs.Cmac.{with_last_masked, cmac_of}
use Rattle.duk_mac.proofs.LastBlockMasked.{masked-more, masked-one}
use Rattle.duk_mac.proofs.cipher_mac.cmac_under.Goals as goal

pub loop-rest-init : goal.loop-rest-init
unfolding cmac_of
loop-rest-init g c = refl

pub loop-rest-preserved : goal.loop-rest-preserved
loop-rest-preserved g c =
    let enciphered = tdes_encrypted c.args.tdes.now in
    let chain = c.loop-rest.chain in
    let rest = c.loop-rest.rest.now in
    let long : 8 < length rest = omega arith in
    let next = c.encrypt-chain.ensures ∙ ap enciphered (c.xor_bytes.ensures ∙ ap (xor_bytes chain) (c.array_of.ensures.bytes ∙ c.split_at.ensures.front)) in
    ap (λ found. chained enciphered found (with_last_masked c.args.tdes.now (blocks_of c.split_at.result.1.now))) next
    ∙ ap (λ after. chained enciphered (enciphered (xor_bytes chain (take 8 rest))) (with_last_masked c.args.tdes.now (blocks_of after))) c.split_at.ensures.back
    ∙ sym (ap (chained enciphered chain) (masked-more c.args.tdes.now rest long))
    ∙ c.loop-rest.invariant

pub returns-clause-mac : goal.returns-clause-mac
returns-clause-mac g c =
    let enciphered = tdes_encrypted c.args.tdes.now in
    let chain = c.loop-rest.chain in
    let short : length c.loop-rest.rest.now ≤ 8 = omega arith in
    c.encrypt.ensures ∙ ap enciphered (c.xor_bytes-2.ensures ∙ ap (xor_bytes chain) c.last_block.ensures)
    ∙ sym (ap (chained enciphered chain) (masked-one c.args.tdes.now c.loop-rest.rest.now short))
    ∙ c.loop-rest.invariant
