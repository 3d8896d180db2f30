use Rattle.duk_lanes.proofs.LanesOfWords.{lane-not}
use Rattle.duk_lanes.proofs.words.U64Lanes.not.Goals as goal

pub returns : goal.returns
returns c i within = lane-not c.args.self i c.ranges.self.fits within
