use Rattle.std.proofs.Common.{ap}
use Rattle.duk_des.specs.Des.{des_decrypted, des_encrypted}
use Rattle.duk_tdes.specs.Tdes.{first_key, second_key, tdes_encrypted}
use Rattle.duk_tdes.proofs.SingleKeys.{third_is_first}
use Rattle.duk_tdes.proofs.laws.double_length.Goals as goal

pub returns : goal.returns
unfolding tdes_encrypted
returns c = λ key block short.
    ap (λ third. des_encrypted third (des_decrypted (second_key key) (des_encrypted (first_key key) block))) (third_is_first key short)
