use Rattle.std.proofs.Common.{◌∙◌}
use Rattle.duk_lanes.proofs.BlocksOfWords.{block_of_word}
use Rattle.duk_lanes.proofs.transposition.block_of.Goals as goal

pub returns : goal.returns
returns c = c.to_be_bytes.ensures ∙ block_of_word c.args.word
