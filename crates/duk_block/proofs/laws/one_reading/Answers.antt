use Rattle.std.proofs.Common.{◌≡◌, ℕ, List, refl, sym, ap, ◌∙◌}
use Rattle.duk_tdes.specs.Cbc.{cbc_decrypted}
use Rattle.duk_block.specs.Derived.{derived_key, encryption_usage}
use Rattle.duk_block.specs.Faults.{Carries, HasPayload}
use Rattle.duk_block.specs.KeyBlock.{payload_of}
use Rattle.duk_block.proofs.OneSealedPart.{HasParts-same}
use Rattle.duk_block.proofs.TextPlaces.{Carries-same, IsBlock-mac, fields_at, header_same, payload_at}
use Rattle.duk_block.proofs.laws.one_reading.Goals as goal

pub returns : goal.returns
returns c = λ text protection_key header other_header key other_key is_key block other.
    let derived = c.derived_keys.ensures.encryption protection_key is_key in
    let cbc = c.cbc_inverse.ensures in
    let enciphering : List ℕ = derived_key encryption_usage protection_key in
    let payload : List ℕ = payload_of key block.padding in
    let other_payload : List ℕ = payload_of other_key other.padding in
    let one : HasPayload text protection_key payload = payload_at cbc.cipher_length text protection_key header key block derived in
    let two : HasPayload text protection_key other_payload = payload_at cbc.cipher_length text protection_key other_header other_key other derived in
    let same = HasParts-same text one.front one.ciphertext one.mac two.front two.ciphertext two.mac one.parts two.parts in
    let one_mac = IsBlock-mac one.parts.sealed_part one.ciphertext one.mac one.parts.sealed_part_is_read one.parts.mac_width in
    let two_mac = IsBlock-mac two.parts.sealed_part two.ciphertext two.mac two.parts.sealed_part_is_read two.parts.mac_width in
    let opened : payload ≡ cbc_decrypted enciphering one.mac one.ciphertext =
    sym (cbc.deciphered enciphering one.mac payload derived one_mac one.payload_is) ∙ ap (cbc_decrypted enciphering one.mac) (sym one.enciphered) in
    let other_opened : other_payload ≡ cbc_decrypted enciphering two.mac two.ciphertext =
    sym (cbc.deciphered enciphering two.mac other_payload derived two_mac two.payload_is) ∙ ap (cbc_decrypted enciphering two.mac) (sym two.enciphered) in
    let payloads : payload ≡ other_payload =
    opened ∙ ap (λ mac. cbc_decrypted enciphering mac one.ciphertext) same.macs ∙ ap (cbc_decrypted enciphering two.mac) same.ciphertexts ∙ sym other_opened in
    let carries : Carries payload key = record { padding = block.padding; key_is = block.key_is; payload_is = refl } in
    let other_carries : Carries payload other_key = record { padding = other.padding; key_is = other.key_is; payload_is = payloads } in (
      header_same header other_header block.header_is.widths other.header_is.widths
          (fields_at text protection_key header key block ∙ sym (fields_at text protection_key other_header other_key other)),
      Carries-same payload key other_key carries other_carries,
    )
