use Rattle.duk_mac.specs.Retail.{retail_of}
use Rattle.duk_mac.proofs.laws.retail_is_a_block.Goals as goal

pub returns : goal.returns
unfolding retail_of
returns c = λ key message. c.blocks-2.ensures.encrypted _ _
