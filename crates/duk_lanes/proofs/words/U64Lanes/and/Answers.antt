use Rattle.duk_lanes.proofs.LanesOfWords.{lane-and}
use Rattle.duk_lanes.proofs.words.U64Lanes.and.Goals as goal

pub returns : goal.returns
returns c i within = lane-and c.args.self c.args.other i
