use Rattle.std.proofs.Common.{Bool, List, ◌++◌, ap, ◌∙◌}
use Rattle.duk_des.specs.Bits.{permute}
use Rattle.duk_des.specs.Des.{Halves, rounds, des_computation}
use Rattle.duk_des.specs.Tables.{final_places}
use Rattle.duk_des.proofs.SideBySide.{both}
use Rattle.duk_des.proofs.plain.crypt_block.Goals as goal

pub returns : goal.returns
unfolding des_computation
returns c =
    let finished : Halves → List Bool = λ halves. permute final_places (halves.right ++ halves.left) in
    let halves : List Bool → List Bool → Halves = λ left right. record { left = left; right = right } in
    c.final_permutation.ensures
    ∙ both (λ right left. permute final_places (right ++ left)) c.rounds.ensures.right c.rounds.ensures.left
    ∙ ap (λ start. finished (rounds c.args.keys.now start)) (both halves c.permute-left.ensures c.permute-right.ensures)
