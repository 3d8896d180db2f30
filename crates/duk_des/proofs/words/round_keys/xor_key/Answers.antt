use Rattle.duk_des.proofs.LinearSchedule.{key_bits-xor}
use Rattle.duk_des.proofs.words.round_keys.xor_key.Goals as goal

pub returns : goal.returns
returns c = key_bits-xor c.args.key.now c.args.mask.now
