-- Each law is the law of single DES, once for each of the three keys.
use Rattle.std.proofs.Common.{ap, ◌∙◌}
use Rattle.duk_des.specs.Des.{des_encrypted, des_decrypted}
use Rattle.duk_tdes.specs.Tdes.{first_key, second_key, third_key, tdes_encrypted, tdes_decrypted}
use Rattle.duk_tdes.proofs.SingleKeys.{first_is_key, second_is_key, third_is_key}
use Rattle.duk_tdes.proofs.laws.inverse.Goals as goal

pub returns-clause-deciphered : goal.returns-clause-deciphered
unfolding tdes_encrypted tdes_decrypted
returns-clause-deciphered c key block is_key is_block =
    let des = c.inverse.ensures in
    let k1 = first_key key in
    let k2 = second_key key in
    let k3 = third_key key in
    let first = first_is_key key is_key in
    let second = second_is_key key is_key in
    let third = third_is_key key is_key in
    let once = des.cipher_block k1 block first is_block in
    let twice = des.plain_block k2 (des_encrypted k1 block) second once in
    ap (λ x. des_decrypted k1 (des_encrypted k2 x)) (des.deciphered k3 (des_decrypted k2 (des_encrypted k1 block)) third twice)
    ∙ ap (des_decrypted k1) (des.enciphered k2 (des_encrypted k1 block) second once)
    ∙ des.deciphered k1 block first is_block

pub returns-clause-enciphered : goal.returns-clause-enciphered
unfolding tdes_encrypted tdes_decrypted
returns-clause-enciphered c key block is_key is_block =
    let des = c.inverse.ensures in
    let k1 = first_key key in
    let k2 = second_key key in
    let k3 = third_key key in
    let first = first_is_key key is_key in
    let second = second_is_key key is_key in
    let third = third_is_key key is_key in
    let once = des.plain_block k3 block third is_block in
    let twice = des.cipher_block k2 (des_decrypted k3 block) second once in
    ap (λ x. des_encrypted k3 (des_decrypted k2 x)) (des.enciphered k1 (des_encrypted k2 (des_decrypted k3 block)) first twice)
    ∙ ap (des_encrypted k3) (des.deciphered k2 (des_decrypted k3 block) second once)
    ∙ des.enciphered k3 block third is_block

pub returns-clause-cipher_block : goal.returns-clause-cipher_block
unfolding tdes_encrypted
returns-clause-cipher_block c key block is_key is_block =
    let des = c.inverse.ensures in
    let once = des.cipher_block (first_key key) block (first_is_key key is_key) is_block in
    let twice = des.plain_block (second_key key) _ (second_is_key key is_key) once in
    des.cipher_block (third_key key) _ (third_is_key key is_key) twice

pub returns-clause-plain_block : goal.returns-clause-plain_block
unfolding tdes_decrypted
returns-clause-plain_block c key block is_key is_block =
    let des = c.inverse.ensures in
    let once = des.plain_block (third_key key) block (third_is_key key is_key) is_block in
    let twice = des.cipher_block (second_key key) _ (second_is_key key is_key) once in
    des.plain_block (first_key key) _ (first_is_key key is_key) twice
