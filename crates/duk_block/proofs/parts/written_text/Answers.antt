use Rattle.std.proofs.Common.{◌≡◌, ◌<◌, ◌+◌, ◌*◌, ◌^◌, ◌++◌, ℕ, List, [], refl, length, codes, sym, ap, ◌∙◌, append-nil, length-append, lit<, arith}
use Rattle.std.specs.List.{All}
use Rattle.std.proofs.lemmas.List.Elements.{All-nil, All-from_get_or}
use Rattle.hex.specs.Hex.{encode_upper, upper_digits}
use Rattle.hex.proofs.HexLemmas.{length-encode_with}
use Rattle.duk_des.specs.Block.{IsBlock}
use Rattle.duk_block.specs.Derived.{derived_key, encryption_usage}
use Rattle.duk_block.specs.HeaderText.{header_text}
use Rattle.duk_block.specs.KeyBlock.{payload_of}
use Rattle.duk_block.specs.Optional.{IsOptionalBlock}
use Rattle.duk_block.specs.inner.KeyBlock.{IsSealed}
use Rattle.duk_block.proofs.HeaderLength.{length-header_text}
use Rattle.duk_block.proofs.WholeBlocks.{written_alone}
use Rattle.duk_block.proofs.WrittenSealed.{written_sealed}
use Rattle.duk_block.proofs.parts.written_text.Goals as goal

pub returns-clause-length : goal.returns-clause-length
returns-clause-length c =
    let front = c.text.result.items in
    let cipher = c.args.ciphertext.now in
    let mac = c.args.mac.now in
    let total = 32 + 2 * length cipher in
    let sixteen : length front ≡ 16 = ap length c.text.ensures ∙ length-header_text total c.args.header.now 0 (codes "00") c.requires.header.widths refl in
    let eight : length mac ≡ 8 = c.told-mac in
    omega (
      arith,
      ap length c.sealed_text.ensures,
      length-append (front ++ encode_upper cipher) (encode_upper mac),
      length-append front (encode_upper cipher),
      length-encode_with upper_digits cipher,
      length-encode_with upper_digits mac,
      sixteen,
      eight,
    )

pub returns-clause-written : goal.returns-clause-written
returns-clause-written c = λ protection_key key padding is_key are.
    let header = c.args.header.now in
    let cipher = c.args.ciphertext.now in
    let mac = c.args.mac.now in
    let text = c.sealed_text.result.items in
    let front = c.text.result.items in
    let total = 32 + 2 * length cipher in
    let head : List ℕ = header_text total header 0 (codes "00") in
    let payload : List ℕ = payload_of key padding in
    let mac_bytes : All (λ byte. byte < 2 ^ 8) mac = All-from_get_or (λ byte. byte < 2 ^ 8) mac 0 (λ i below. omega (arith, c.fits-mac i)) in
    let cipher_bytes : All (λ byte. byte < 2 ^ 8) cipher = All-from_get_or (λ byte. byte < 2 ^ 8) cipher 0 (λ i below. omega (arith, c.type_inv.ciphertext i)) in
    let is_block : IsBlock mac = record { eight = c.told-mac; bytes_fit = mac_bytes } in
    let width : length cipher ≡ length payload =
    ap length are.enciphered
    ∙ c.cbc_inverse.ensures.cipher_length (derived_key encryption_usage protection_key) mac payload (c.derived_keys.ensures.encryption protection_key is_key) is_block are.payload_is in
    let sealed : IsSealed protection_key head payload text = record {
      mac = mac;
      ciphertext = cipher;
      laid_out = c.sealed_text.ensures ∙ ap (λ front. front ++ encode_upper cipher ++ encode_upper mac) c.text.ensures;
      mac_width = c.told-mac;
      mac_bytes = mac_bytes;
      ciphertext_width = width;
      ciphertext_bytes = cipher_bytes;
      payload_is = are.payload_is;
      authentic = are.authentic;
      enciphered = are.enciphered;
    } in
    let length_is : length text ≡ total = returns-clause-length c in
    let front_is : head ≡ header_text (length text) header 0 (codes "00") ++ [] = ap (λ n. header_text n header 0 (codes "00")) (sym length_is) ∙ sym (append-nil (header_text (length text) header 0 (codes "00"))) in
    written_alone text protection_key header key padding
    (written_sealed protection_key head text key padding header [] c.requires.header are.key_is (All-nil IsOptionalBlock) (lit< tt) (omega (arith, length_is, c.requires.most)) front_is sealed)

pub returns-clause-limits : goal.returns-clause-limits
returns-clause-limits c =
    let length_is = returns-clause-length c in
    record {
      least = omega (arith, length_is, c.requires.least);
      most = omega (arith, length_is, c.requires.most);
      whole = omega (arith, length_is, c.requires.whole);
    }
