use Rattle.std.proofs.Common.{refl}
use Rattle.duk_des.proofs.BitExchanges.{first_by_difference, second_by_difference}
use Rattle.duk_des.proofs.words.permutations.exchange_bits.Goals as goal

pub returns-clause-first : goal.returns-clause-first
returns-clause-first c = first_by_difference c.args.first c.args.second c.args.count c.args.mask _ c.requires c.ranges.first.fits refl

pub returns-clause-second : goal.returns-clause-second
returns-clause-second c = second_by_difference c.args.first c.args.second c.args.count c.args.mask c.requires c.ranges.first.fits
