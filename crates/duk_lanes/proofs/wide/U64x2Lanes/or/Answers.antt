use Rattle.std.proofs.Common.{◌||◌, bit_or}
use Rattle.duk_lanes.proofs.LanesOfWords.{lane-or}
use Rattle.duk_lanes.proofs.LanesOfPairs.{gate_of_pairs}
use Rattle.duk_lanes.proofs.wide.U64x2Lanes.or.Goals as goal

pub returns : goal.returns
returns c i within = gate_of_pairs bit_or (λ a b. a || b) lane-or c.args.self c.args.other i c.fits-self.0 c.fits-other.0
