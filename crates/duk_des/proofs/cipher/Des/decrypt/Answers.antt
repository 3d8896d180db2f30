use Rattle.std.proofs.Common.{reverse, ap, ◌∙◌}
use Rattle.duk_des.specs.Bits.{bits_of_bytes, bytes_of_bits}
use Rattle.duk_des.specs.Des.{des_computation, decipher, des_decrypted}
use Rattle.duk_des.proofs.BitsOfNumbers.{bits_of_bytes-bytes_of_bits}
use Rattle.duk_des.proofs.DecipheringUndoes.{length-des_computation}
use Rattle.duk_des.proofs.cipher.Des.decrypt.Goals as goal

pub returns : goal.returns
unfolding decipher des_decrypted
returns c =
    rw (← c.self.view_is)
    (let keys = ap reverse c.self.invariant in
    let bytes = c.crypt_block_backwards.ensures ∙ ap (λ keys. bytes_of_bits 8 (des_computation keys (bits_of_bytes c.args.block))) keys in
    record { bytes = bytes; bits = ap bits_of_bytes bytes ∙ bits_of_bytes-bytes_of_bits 8 _ (length-des_computation _ _) })
