use Rattle.duk_lanes.proofs.LanesOfWords.{lane-xor}
use Rattle.duk_lanes.proofs.words.U64Lanes.xor.Goals as goal

pub returns : goal.returns
returns c i within = lane-xor c.args.self c.args.other i
