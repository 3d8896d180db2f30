use Rattle.std.proofs.Common.{ap, ◌∙◌}
use Rattle.duk_des.specs.Bits.{bits_of}
use Rattle.duk_des.proofs.BlocksOfWords.{bits_of-from_be_bytes, two_words}
use Rattle.duk_des.proofs.words.permutations.halves_of.Goals as goal

pub returns : goal.returns
returns c =
    two_words c.from_be_bytes-word.result
    ∙ ap (bits_of 64) c.from_be_bytes-word.ensures
    ∙ bits_of-from_be_bytes c.args.block.now c.told-block c.fits-block
