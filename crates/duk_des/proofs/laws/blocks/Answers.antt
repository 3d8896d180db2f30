use Rattle.duk_des.proofs.DecipheringUndoes.{IsBlock-encrypted, IsBlock-decrypted}
use Rattle.duk_des.proofs.laws.blocks.Goals as goal

pub returns-clause-encrypted : goal.returns-clause-encrypted
returns-clause-encrypted c = λ key block. IsBlock-encrypted key block

pub returns-clause-decrypted : goal.returns-clause-decrypted
returns-clause-decrypted c = λ key block. IsBlock-decrypted key block
