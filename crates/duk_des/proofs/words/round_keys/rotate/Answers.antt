use Rattle.duk_des.proofs.KeyHalves.{rotated}
use Rattle.duk_des.proofs.words.round_keys.rotate.Goals as goal

pub returns-clause-bits : goal.returns-clause-bits
returns-clause-bits c = rotated c.args.half c.args.count c.requires.fits c.requires.short
