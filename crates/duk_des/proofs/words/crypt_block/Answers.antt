use Rattle.std.proofs.Common.{Bool, List, ◌++◌, map, ap, ◌∙◌}
use Rattle.duk_des.specs.Bits.{permute, bytes_of_bits}
use Rattle.duk_des.specs.Des.{Halves, rounds, des_computation}
use Rattle.duk_des.specs.Tables.{final_places}
use Rattle.duk_des.specs.inner.Words.{key_bits}
use Rattle.duk_des.proofs.SideBySide.{both}
use Rattle.duk_des.proofs.words.crypt_block.Goals as goal

pub returns : goal.returns
unfolding des_computation
returns c =
    let finished : Halves → List Bool = λ halves. permute final_places (halves.right ++ halves.left) in
    let halves : List Bool → List Bool → Halves = λ left right. record { left = left; right = right } in
    c.final_permutation.ensures
    ∙ ap (bytes_of_bits 8)
    (both (λ right left. permute final_places (right ++ left)) c.rounds-left.ensures.right c.rounds-left.ensures.left
    ∙ ap (λ start. finished (rounds (map key_bits c.args.keys.now) start)) (both halves c.initial_permutation-left.ensures.left c.initial_permutation-left.ensures.right))
