use Rattle.std.proofs.Common.{arith}
use Rattle.duk_tree.proofs.LeastUsable.{shifted_one}
use Rattle.duk_tree.proofs.next.shift_bit.Goals as goal

pub returns-clause-value : goal.returns-clause-value
returns-clause-value c = (shifted_one c.args.counter c.requires.some c.requires.fits).0

pub returns-clause-fits : goal.returns-clause-fits
returns-clause-fits c = let shifted = shifted_one c.args.counter c.requires.some c.requires.fits in omega (arith, shifted.0, shifted.1)
