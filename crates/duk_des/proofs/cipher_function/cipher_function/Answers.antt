use Rattle.std.proofs.Common.{ap, ◌∙◌}
use Rattle.duk_des.specs.Bits.{xor_bits, permute}
use Rattle.duk_des.specs.Des.{substitute_all, cipher_function}
use Rattle.duk_des.specs.Tables.{boxes, output_places}
use Rattle.duk_des.proofs.cipher_function.cipher_function.Goals as goal

pub returns : goal.returns
unfolding cipher_function
returns c =
    c.permute.ensures
    ∙ ap (permute output_places)
    (c.substitute_all-chosen.ensures ∙ ap (substitute_all boxes) (c.xor.ensures ∙ ap (λ bits. xor_bits bits c.args.key.now) c.permute-expanded.ensures))
