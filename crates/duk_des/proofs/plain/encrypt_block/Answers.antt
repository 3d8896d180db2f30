use Rattle.std.proofs.Common.{ap, ◌∙◌}
use Rattle.duk_des.specs.Bits.{bits_of_bytes, bytes_of_bits}
use Rattle.duk_des.specs.Des.{des_computation, round_keys, encipher, des_encrypted}
use Rattle.duk_des.proofs.BitsOfNumbers.{bits_of_bytes-bytes_of_bits}
use Rattle.duk_des.proofs.SideBySide.{both}
use Rattle.duk_des.proofs.DecipheringUndoes.{length-des_computation}
use Rattle.duk_des.proofs.plain.encrypt_block.Goals as goal

pub returns : goal.returns
unfolding encipher des_encrypted
returns c =
    let bits = c.crypt_block.ensures ∙ both des_computation (c.round_keys-keys.ensures ∙ ap round_keys c.bits_of_bytes.ensures) c.bits_of_bytes-2.ensures in
    let bytes = c.bytes_of_bits.ensures ∙ ap (bytes_of_bits 8) bits in
    record { bytes = bytes; bits = ap bits_of_bytes bytes ∙ bits_of_bytes-bytes_of_bits 8 _ (length-des_computation _ _) }
