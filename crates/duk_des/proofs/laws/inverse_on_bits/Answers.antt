use Rattle.duk_des.proofs.DecipheringUndoes.{decipher-encipher, encipher-decipher}
use Rattle.duk_des.proofs.laws.inverse_on_bits.Goals as goal

pub returns-clause-deciphered : goal.returns-clause-deciphered
returns-clause-deciphered c = decipher-encipher

pub returns-clause-enciphered : goal.returns-clause-enciphered
returns-clause-enciphered c = encipher-decipher
