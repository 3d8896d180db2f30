use Rattle.duk_block.proofs.WholeBlocks.{blocks_same}
use Rattle.duk_block.proofs.laws.one_division.Goals as goal

pub returns : goal.returns
returns c = blocks_same
