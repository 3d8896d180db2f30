use Rattle.duk_lanes.proofs.LanesOfWords.{lane-or}
use Rattle.duk_lanes.proofs.words.U64Lanes.or.Goals as goal

pub returns : goal.returns
returns c i within = lane-or c.args.self c.args.other i
