use Rattle.duk_des.proofs.DecipheringUndoes.{decrypted-encrypted, encrypted-decrypted, IsBlock-encrypted, IsBlock-decrypted}
use Rattle.duk_des.proofs.laws.inverse.Goals as goal

pub returns-clause-deciphered : goal.returns-clause-deciphered
returns-clause-deciphered c = λ key block of_key of_block. decrypted-encrypted key block of_block

pub returns-clause-enciphered : goal.returns-clause-enciphered
returns-clause-enciphered c = λ key block of_key of_block. encrypted-decrypted key block of_block

pub returns-clause-cipher_block : goal.returns-clause-cipher_block
returns-clause-cipher_block c = λ key block of_key of_block. IsBlock-encrypted key block

pub returns-clause-plain_block : goal.returns-clause-plain_block
returns-clause-plain_block c = λ key block of_key of_block. IsBlock-decrypted key block
