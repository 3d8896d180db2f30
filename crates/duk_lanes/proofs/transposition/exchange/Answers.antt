use Rattle.duk_lanes.proofs.ExchangesByDifference.{exchanged_by_difference}
use Rattle.duk_lanes.proofs.transposition.exchange.Goals as goal

pub returns : goal.returns
returns c = exchanged_by_difference c.args.first c.args.second c.args.distance c.args.mask c.requires
