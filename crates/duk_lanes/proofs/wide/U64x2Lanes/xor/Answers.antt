use Rattle.std.proofs.Common.{bit_xor}
use Rattle.std.specs.Bool.{xor}
use Rattle.duk_lanes.proofs.LanesOfWords.{lane-xor}
use Rattle.duk_lanes.proofs.LanesOfPairs.{gate_of_pairs}
use Rattle.duk_lanes.proofs.wide.U64x2Lanes.xor.Goals as goal

pub returns : goal.returns
returns c i within = gate_of_pairs bit_xor xor lane-xor c.args.self c.args.other i c.fits-self.0 c.fits-other.0
