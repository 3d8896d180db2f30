use Rattle.std.proofs.Common.{map, reverse, ap, ◌∙◌}
use Rattle.duk_des.specs.Bits.{bits_of_bytes, bytes_of_bits}
use Rattle.duk_des.specs.inner.Words.{key_bits}
use Rattle.duk_des.proofs.ThreePasses.{three_passes}
use Rattle.duk_des.proofs.words.crypt_thrice_backwards.Goals as goal

pub returns : goal.returns
returns c =
    c.final_permutation.ensures
    ∙ ap (bytes_of_bits 8)
    (three_passes (reverse (map key_bits c.args.first.now)) (map key_bits c.args.second.now) (reverse (map key_bits c.args.third.now))
    (bits_of_bytes c.args.block.now) _ _ _ _ _ _ _ _
    c.initial_permutation-left.ensures.left c.initial_permutation-left.ensures.right
    c.rounds_backwards-left.ensures.left c.rounds_backwards-left.ensures.right
    c.rounds-left.ensures.left c.rounds-left.ensures.right
    c.rounds_backwards-left-2.ensures.left c.rounds_backwards-left-2.ensures.right)
