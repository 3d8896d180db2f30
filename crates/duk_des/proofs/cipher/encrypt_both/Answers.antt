use Rattle.std.proofs.Common.{ap, ◌∙◌}
use Rattle.duk_des.specs.Bits.{bits_of_bytes, bytes_of_bits}
use Rattle.duk_des.specs.Des.{des_computation, encipher, des_encrypted}
use Rattle.duk_des.proofs.cipher.encrypt_both.Goals as goal

pub returns-clause-first : goal.returns-clause-first
unfolding encipher des_encrypted
returns-clause-first c =
    rw (← c.first.view_is)
    (c.crypt_both.ensures.first ∙ ap (λ keys. bytes_of_bits 8 (des_computation keys (bits_of_bytes c.args.first_block))) c.first.invariant)

pub returns-clause-second : goal.returns-clause-second
unfolding encipher des_encrypted
returns-clause-second c =
    rw (← c.second.view_is)
    (c.crypt_both.ensures.second ∙ ap (λ keys. bytes_of_bits 8 (des_computation keys (bits_of_bytes c.args.second_block))) c.second.invariant)
