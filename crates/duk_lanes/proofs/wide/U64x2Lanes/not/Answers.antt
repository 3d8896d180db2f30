use Rattle.duk_lanes.proofs.LanesOfPairs.{not_of_pairs}
use Rattle.duk_lanes.proofs.wide.U64x2Lanes.not.Goals as goal

pub returns : goal.returns
returns c i within = not_of_pairs c.args.self i c.fits-self.0 c.fits-self.1 within
