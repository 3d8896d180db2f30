-- A sealed text whose front is a header and optional blocks is a key block that is written.
use Rattle.std.proofs.Common.{◌≡◌, ◌<◌, ◌^◌, ◌++◌, ℕ, List, refl, length, codes, sym, ap, ◌∙◌}
use Rattle.std.specs.List.{All, concat}
use Rattle.std.proofs.lemmas.List.{append_assoc}
use Rattle.std.proofs.lemmas.List.Elements.{All-append}
use Rattle.hex.specs.Hex.{encode_upper, upper_digits}
use Rattle.duk_tdes.specs.Tdes.{IsTdesKey}
use Rattle.duk_block.specs.declared.header.Header.{Header}
use Rattle.duk_block.specs.HeaderText.{IsHeader, header_text}
use Rattle.duk_block.specs.KeyBlock.{IsWrittenKeyBlockWith, payload_of}
use Rattle.duk_block.specs.Optional.{IsOptionalBlock}
use Rattle.duk_block.specs.inner.KeyBlock.{IsSealed}
use Rattle.duk_block.proofs.HexText.{encode_with-append}
use Rattle.duk_block.proofs.HexBytes.{IsHexadecimal-encode_upper}

pub written_sealed : (protection_key front text key padding : List ℕ) (header : Header) (blocks : List (List ℕ)) → IsHeader header → IsTdesKey key → All IsOptionalBlock blocks
    → length blocks < 100
    → length text < 10000
    → front ≡ header_text (length text) header (length blocks) (codes "00") ++ concat blocks
    → IsSealed protection_key front (payload_of key padding) text
    → IsWrittenKeyBlockWith text protection_key header (concat blocks) key padding
written_sealed protection_key front text key padding header blocks is_header is_key each few short front_is sealed = record {
  block = record {
    reserved = codes "00";
    optional_blocks = blocks;
    front = front;
    ciphertext = sealed.ciphertext;
    mac = sealed.mac;
    sealed_part = encode_upper (sealed.ciphertext ++ sealed.mac);
    padding = padding;
    laid_out =
        sealed.laid_out
        ∙ append_assoc front (encode_upper sealed.ciphertext) (encode_upper sealed.mac)
        ∙ ap (λ sealed_part. front ++ sealed_part) (sym (encode_with-append upper_digits sealed.ciphertext sealed.mac));
    front_is = front_is;
    length_has_four_digits = short;
    header_is = is_header;
    reserved_width = refl;
    count_has_two_digits = few;
    each_optional = each;
    sealed_part_is_read = IsHexadecimal-encode_upper (sealed.ciphertext ++ sealed.mac) (All-append (λ byte. byte < 2 ^ 8) sealed.ciphertext sealed.mac sealed.ciphertext_bytes sealed.mac_bytes);
    mac_width = sealed.mac_width;
    key_is = is_key;
    payload_is = sealed.payload_is;
    authentic = sealed.authentic;
    enciphered = sealed.enciphered;
  };
  optional_is = refl;
  reserved_zeros = refl;
  padding_is = refl;
  upper_case = refl;
}
