use Rattle.std.proofs.Common.{◌≡◌, ◌<◌, ◌+◌, ◌*◌, ◌++◌, ℕ, List, [], length, codes, sym, ap, ap₂, subst, ◌∙◌, length-set, arith}
use Rattle.duk_mac.specs.Cmac.{cmac_of}
use Rattle.duk_tdes.specs.Cbc.{AreWholeBlocks, cbc_encrypted}
use Rattle.duk_tdes.specs.KeyBytes.{bytes_of}
use Rattle.duk_block.specs.HeaderText.{header_text}
use Rattle.duk_block.specs.KeyBlock.{AreSealed, IsWrittenKeyBlock, payload_of}
use Rattle.duk_group.specs.Numbers.{bytes_at}
use Rattle.duk_group.proofs.WrittenPlaces.{written_below}
use Rattle.duk_group.proofs.key_blocks.wrap_group.Goals as goal

pub loop-i-preserved : goal.loop-i-preserved
loop-i-preserved c =
    let i = c.loop-i.i in
    let lane : i < 128 = c.loop-i-test.true in
    let protection : List ℕ = bytes_of c.args.protection.now in
    let header = c.args.header.now in
    let keys = c.args.keys.now in
    let paddings = c.args.padding.now in
    let key : List ℕ = bytes_at keys i in
    let padding : List ℕ = bytes_at paddings i in
    let ciphertext : List ℕ = bytes_at c.seal.result.ciphertexts i in
    let mac : List ℕ = bytes_at c.seal.result.macs i in
    let text : List ℕ = c.written_text-text.result.items in
    let written_is : c.array_of.result ≡ text = c.array_of.ensures.bytes ∙ c.as_slice.ensures.value in
    let eighty : 32 + 2 * length ciphertext ≡ 80 = sym c.written_text-text.ensures.length ∙ ap length (sym written_is) ∙ c.array_of.ensures.key.size_is in
    let front : List ℕ = header_text (32 + 2 * length ciphertext) header 0 (codes "00") in
    let front_is : c.front_text-front.result ≡ front = c.front_text-front.ensures ∙ ap (λ total. header_text total header 0 (codes "00")) (sym eighty) in
    let payload_is : bytes_at c.payloads.result i ≡ payload_of key padding = c.payloads.ensures.payloads i lane in
    let P : List ℕ → Type 0 = AreWholeBlocks in
    let sealed : AreSealed protection front key padding ciphertext mac = record {
      key_is = c.payloads.ensures.keys i lane;
      payload_is = subst P payload_is (c.payloads.ensures.whole i lane);
      authentic =
          c.seal.ensures.macs i lane
          ∙ ap₂ (λ (key message : List ℕ). cmac_of key message) c.derived_keys-derived.ensures.mac (ap₂ (λ (a b : List ℕ). a ++ b) front_is payload_is);
      enciphered =
          c.seal.ensures.ciphertexts i lane
          ∙ ap₂ (λ (key payload : List ℕ). cbc_encrypted key mac payload) c.derived_keys-derived.ensures.encryption payload_is;
    } in
    let W : ℕ → List ℕ → Type 0 = λ p text. IsWrittenKeyBlock text protection header (bytes_at keys p) (bytes_at paddings p) in
    let here : W i c.array_of.result = subst (W i) (sym written_is) (c.written_text-text.ensures.written protection key padding c.derived_keys-derived.ensures.key sealed) in
    record {
      size = length-set c.loop-i.texts i c.array_of.result ∙ c.loop-i.invariant.size;
      below = written_below W c.loop-i.texts i c.array_of.result [] (omega (arith, c.loop-i.invariant.size)) c.loop-i.invariant.below here;
    }
