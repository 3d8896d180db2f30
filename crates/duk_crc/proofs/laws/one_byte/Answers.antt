use Rattle.duk_crc.proofs.OneByte.{one_byte}
use Rattle.duk_crc.proofs.laws.one_byte.Goals as goal

pub returns : goal.returns
returns c = one_byte
