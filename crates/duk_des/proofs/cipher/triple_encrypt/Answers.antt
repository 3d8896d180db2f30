use Rattle.std.proofs.Common.{reverse, ap, ◌∙◌}
use Rattle.duk_des.specs.Bits.{bits_of_bytes}
use Rattle.duk_des.specs.Des.{decipher, des_decrypted, encipher, des_encrypted}
use Rattle.duk_des.proofs.ThreeCiphers.{three_ciphers}
use Rattle.duk_des.proofs.cipher.triple_encrypt.Goals as goal

pub returns : goal.returns
unfolding encipher decipher des_encrypted des_decrypted
returns c =
    rw (← c.first.view_is, ← c.second.view_is, ← c.third.view_is)
    (c.crypt_thrice.ensures ∙ three_ciphers (bits_of_bytes c.args.block) c.first.invariant (ap reverse c.second.invariant) c.third.invariant)
