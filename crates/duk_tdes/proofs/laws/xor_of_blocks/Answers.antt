use Rattle.duk_tdes.proofs.XorOfBlocks.{IsBlock-xor_bytes}
use Rattle.duk_tdes.proofs.laws.xor_of_blocks.Goals as goal

pub returns : goal.returns
returns c = IsBlock-xor_bytes
