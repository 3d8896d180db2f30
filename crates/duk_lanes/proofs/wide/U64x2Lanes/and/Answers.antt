use Rattle.std.proofs.Common.{◌&&◌, bit_and}
use Rattle.duk_lanes.proofs.LanesOfWords.{lane-and}
use Rattle.duk_lanes.proofs.LanesOfPairs.{gate_of_pairs}
use Rattle.duk_lanes.proofs.wide.U64x2Lanes.and.Goals as goal

pub returns : goal.returns
returns c i within = gate_of_pairs bit_and (λ a b. a && b) lane-and c.args.self c.args.other i c.fits-self.0 c.fits-other.0
