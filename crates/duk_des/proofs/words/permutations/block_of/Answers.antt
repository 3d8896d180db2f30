use Rattle.std.proofs.Common.{◌∙◌}
use Rattle.duk_des.proofs.BlocksOfWords.{block_of_words}
use Rattle.duk_des.proofs.words.permutations.block_of.Goals as goal

pub returns : goal.returns
returns c = c.to_be_bytes.ensures ∙ block_of_words c.args.first c.args.second c.ranges.first.fits c.ranges.second.fits
