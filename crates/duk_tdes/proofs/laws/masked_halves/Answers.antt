use Rattle.duk_tdes.proofs.MaskedHalves.{masked_first, masked_second}
use Rattle.duk_tdes.proofs.SingleKeys.{length-xor_bytes}
use Rattle.duk_tdes.proofs.laws.masked_halves.Goals as goal

pub returns-clause-length : goal.returns-clause-length
returns-clause-length c = length-xor_bytes

pub returns-clause-first : goal.returns-clause-first
returns-clause-first c = masked_first

pub returns-clause-second : goal.returns-clause-second
returns-clause-second c = masked_second
