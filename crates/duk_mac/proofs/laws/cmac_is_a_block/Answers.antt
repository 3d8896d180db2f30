use Rattle.duk_mac.proofs.CmacIsBlock.{IsBlock-cmac_of}
use Rattle.duk_mac.proofs.laws.cmac_is_a_block.Goals as goal

pub returns : goal.returns
returns c = λ key message is_key fit.
    IsBlock-cmac_of key
    (record {
      cipher = λ block is. c.inverse.ensures.cipher_block key block is_key is;
      sum = c.xor_of_blocks.ensures;
    })
    message fit
