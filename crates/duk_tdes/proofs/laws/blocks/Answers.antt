use Rattle.duk_tdes.specs.Tdes.{tdes_encrypted, tdes_decrypted}
use Rattle.duk_tdes.proofs.laws.blocks.Goals as goal

pub returns-clause-encrypted : goal.returns-clause-encrypted
unfolding tdes_encrypted
returns-clause-encrypted c = λ key block. c.blocks-2.ensures.encrypted _ _

pub returns-clause-decrypted : goal.returns-clause-decrypted
unfolding tdes_decrypted
returns-clause-decrypted c = λ key block. c.blocks-2.ensures.decrypted _ _
