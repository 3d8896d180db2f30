use Rattle.std.proofs.Common.{◌++◌, ap, ◌∙◌}
use Rattle.hex.specs.Hex.{encode_upper}
use Rattle.duk_block.specs.KeyBlock.{mac_of}
use Rattle.duk_block.proofs.wrapping.seal.Goals as goal

pub returns : goal.returns
returns g c = record {
  mac = c.block_mac-mac.result;
  ciphertext = c.encipher-ciphertext.result.items;
  laid_out =
      c.sealed_text.ensures ∙ ap (λ bytes. c.args.front.items ++ encode_upper bytes ++ encode_upper c.block_mac-mac.result) c.as_slice-2.ensures.value;
  mac_width = c.block_mac-mac.ensures.block.eight;
  mac_bytes = c.block_mac-mac.ensures.block.bytes_fit;
  ciphertext_width = c.encipher-ciphertext.ensures.width;
  ciphertext_bytes = c.encipher-ciphertext.ensures.whole.bytes_fit;
  payload_is = c.encipher-ciphertext.ensures.plain;
  authentic = c.block_mac-mac.ensures.mac ∙ ap (λ front. mac_of c.args.kbpk.now front c.args.payload.now) c.as_slice.ensures.value;
  enciphered = c.encipher-ciphertext.ensures.ciphertext;
}
