use Rattle.std.proofs.Common.{ap, ◌∙◌}
use Rattle.duk_lanes.specs.inner.Words.{word_bits}
use Rattle.duk_lanes.proofs.BlocksOfWords.{word_of_block}
use Rattle.duk_lanes.proofs.transposition.word_of.Goals as goal

pub returns : goal.returns
returns c = ap word_bits c.from_be_bytes.ensures ∙ word_of_block c.args.block.now c.told-block c.fits-block
