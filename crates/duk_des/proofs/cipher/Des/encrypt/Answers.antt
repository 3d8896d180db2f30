use Rattle.std.proofs.Common.{ap, ◌∙◌}
use Rattle.duk_des.specs.Bits.{bits_of_bytes, bytes_of_bits}
use Rattle.duk_des.specs.Des.{des_computation, encipher, des_encrypted}
use Rattle.duk_des.proofs.BitsOfNumbers.{bits_of_bytes-bytes_of_bits}
use Rattle.duk_des.proofs.DecipheringUndoes.{length-des_computation}
use Rattle.duk_des.proofs.cipher.Des.encrypt.Goals as goal

pub returns : goal.returns
unfolding encipher des_encrypted
returns c =
    rw (← c.self.view_is)
    (let bytes = c.crypt_block.ensures ∙ ap (λ keys. bytes_of_bits 8 (des_computation keys (bits_of_bytes c.args.block))) c.self.invariant in
    record { bytes = bytes; bits = ap bits_of_bytes bytes ∙ bits_of_bytes-bytes_of_bits 8 _ (length-des_computation _ _) })
