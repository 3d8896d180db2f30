use Rattle.duk_lanes.proofs.LanesOfWords.{lane-and_not}
use Rattle.duk_lanes.proofs.words.U64Lanes.and_not.Goals as goal

pub returns : goal.returns
returns c i within = lane-and_not c.args.self c.args.other i c.ranges.other.fits within
