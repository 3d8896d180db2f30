use Rattle.std.proofs.Common.{reverse, ap, ◌∙◌}
use Rattle.duk_des.specs.Bits.{bits_of_bytes}
use Rattle.duk_des.specs.Des.{decipher, des_decrypted, encipher, des_encrypted}
use Rattle.duk_des.proofs.ThreeCiphers.{three_ciphers}
use Rattle.duk_des.proofs.cipher.triple_encrypt_both.Goals as goal

pub returns-clause-first : goal.returns-clause-first
unfolding encipher decipher des_encrypted des_decrypted
returns-clause-first c =
    rw (← c.left.view_is, ← c.right.view_is)
    (c.crypt_thrice_both.ensures.first
    ∙ three_ciphers (bits_of_bytes c.args.block) c.left.invariant (ap reverse c.right.invariant) c.left.invariant)

pub returns-clause-second : goal.returns-clause-second
unfolding encipher decipher des_encrypted des_decrypted
returns-clause-second c =
    rw (← c.other_left.view_is, ← c.other_right.view_is)
    (c.crypt_thrice_both.ensures.second
    ∙ three_ciphers (bits_of_bytes c.args.block) c.other_left.invariant (ap reverse c.other_right.invariant) c.other_left.invariant)
