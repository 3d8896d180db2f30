use Rattle.std.proofs.Common.{◌≡◌, ◌<◌, ◌^◌, ◌++◌, ℕ, List, length, sym, subst, ap, ◌∙◌, arith}
use Rattle.std.specs.List.{refill}
use Rattle.std.proofs.lemmas.List.Elements.{All-from_get_or}
use Rattle.duk_tdes.specs.Cbc.{AreWholeBlocks, cbc_encrypted}
use Rattle.duk_block.proofs.RefilledVector.{refill-same}
use Rattle.duk_block.proofs.sealing.encipher.Goals as goal

pub returns : goal.returns
returns g c =
    let key = c.encryption_key-key.result in
    let mac = c.args.mac in
    let payload = c.args.payload.now in
    let is_key = c.encryption_key-key.ensures.key in
    let held = c.append.ensures ∙ ap (λ items. items ++ payload) c.new-bytes.ensures in
    let items : refill (length c.append.new.text.items) c.append.new.text.items c.cbc_encrypt.new.bytes ≡ cbc_encrypted key mac payload =
    refill-same (length c.append.new.text.items) c.append.new.text.items c.cbc_encrypt.new.bytes (omega (arith, c.cbc_encrypt.auto.bytes, ap length c.as_mut_slice.ensures.value))
    ∙ c.cbc_encrypt.ensures
    ∙ ap (cbc_encrypted key mac) (c.as_mut_slice.ensures.value ∙ held) in
    let plain : AreWholeBlocks payload = record {
      whole = c.requires.whole;
      bytes_fit = All-from_get_or (λ byte. byte < 2 ^ 8) payload 0 (λ i below. omega (arith, c.type_inv.payload i));
    } in
    let P : List ℕ → Type 0 = AreWholeBlocks in
    record {
      ciphertext = items ∙ ap (λ k. cbc_encrypted k mac payload) c.encryption_key-key.ensures.derived;
      width = ap length items ∙ c.cbc_inverse.ensures.cipher_length key mac payload is_key c.requires.mac plain;
      plain = plain;
      whole = subst P (sym items) (c.cbc_inverse.ensures.cipher_blocks key mac payload is_key c.requires.mac plain);
    }
