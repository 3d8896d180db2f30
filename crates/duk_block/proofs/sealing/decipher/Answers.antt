use Rattle.std.proofs.Common.{◌≡◌, ◌<◌, ◌^◌, ◌++◌, ℕ, List, length, sym, subst, ap, ◌∙◌, arith}
use Rattle.std.specs.List.{refill}
use Rattle.std.proofs.lemmas.List.Elements.{All-from_get_or}
use Rattle.duk_tdes.specs.Cbc.{AreWholeBlocks, cbc_decrypted, cbc_encrypted}
use Rattle.duk_block.specs.Derived.{derived_key, encryption_usage}
use Rattle.duk_block.proofs.RefilledVector.{refill-same}
use Rattle.duk_block.proofs.sealing.decipher.Goals as goal

pub returns : goal.returns
returns g c =
    let key = c.encryption_key-key.result in
    let mac = c.args.mac in
    let ciphertext = c.args.ciphertext.now in
    let is_key = c.encryption_key-key.ensures.key in
    let derived = c.encryption_key-key.ensures.derived in
    let held = c.append.ensures ∙ ap (λ items. items ++ ciphertext) c.new-bytes.ensures in
    let items : refill (length c.append.new.text.items) c.append.new.text.items c.cbc_decrypt.new.bytes ≡ cbc_decrypted key mac ciphertext =
    refill-same (length c.append.new.text.items) c.append.new.text.items c.cbc_decrypt.new.bytes (omega (arith, c.cbc_decrypt.auto.bytes, ap length c.as_mut_slice.ensures.value))
    ∙ c.cbc_decrypt.ensures
    ∙ ap (cbc_decrypted key mac) (c.as_mut_slice.ensures.value ∙ held) in
    let cipher : AreWholeBlocks ciphertext = record {
      whole = c.requires.whole;
      bytes_fit = All-from_get_or (λ byte. byte < 2 ^ 8) ciphertext 0 (λ i below. omega (arith, c.type_inv.ciphertext i));
    } in
    let P : List ℕ → Type 0 = AreWholeBlocks in
    record {
      payload = sym (
          ap (cbc_encrypted (derived_key encryption_usage c.args.kbpk.now) mac) items
          ∙ ap (λ k. cbc_encrypted k mac (cbc_decrypted key mac ciphertext)) (sym derived)
          ∙ c.cbc_inverse.ensures.enciphered key mac ciphertext is_key c.requires.mac cipher
          );
      whole = subst P (sym items) (c.cbc_inverse.ensures.plain_blocks key mac ciphertext is_key c.requires.mac cipher);
      width = ap length items ∙ c.cbc_inverse.ensures.plain_length key mac ciphertext is_key c.requires.mac cipher;
      only = λ payload whole same.
          sym (c.cbc_inverse.ensures.deciphered key mac payload is_key c.requires.mac whole)
          ∙ ap (λ k. cbc_decrypted key mac (cbc_encrypted k mac payload)) derived
          ∙ ap (cbc_decrypted key mac) (sym same)
          ∙ sym items;
    }
