use Rattle.std.proofs.Common.{Bool, List, ◌++◌, map, ap, ◌∙◌}
use Rattle.duk_des.specs.Bits.{permute, bytes_of_bits}
use Rattle.duk_des.specs.Des.{Halves, rounds, des_computation}
use Rattle.duk_des.specs.Tables.{final_places}
use Rattle.duk_des.specs.inner.Words.{key_bits}
use Rattle.duk_des.proofs.SideBySide.{both}
use Rattle.duk_des.proofs.words.crypt_both.Goals as goal

pub returns-clause-first : goal.returns-clause-first
unfolding des_computation
returns-clause-first c =
    let finished : Halves → List Bool = λ halves. permute final_places (halves.right ++ halves.left) in
    let halves : List Bool → List Bool → Halves = λ left right. record { left = left; right = right } in
    c.final_permutation.ensures
    ∙ ap (bytes_of_bits 8)
    (ap finished c.rounds_of_both.ensures.first
    ∙ ap (λ start. finished (rounds (map key_bits c.args.keys.now) start)) (both halves c.initial_permutation-halves.ensures.left c.initial_permutation-halves.ensures.right))

pub returns-clause-second : goal.returns-clause-second
unfolding des_computation
returns-clause-second c =
    let finished : Halves → List Bool = λ halves. permute final_places (halves.right ++ halves.left) in
    let halves : List Bool → List Bool → Halves = λ left right. record { left = left; right = right } in
    c.final_permutation-2.ensures
    ∙ ap (bytes_of_bits 8)
    (ap finished c.rounds_of_both.ensures.second
    ∙ ap (λ start. finished (rounds (map key_bits c.args.other_keys.now) start)) (both halves c.initial_permutation-other_halves.ensures.left c.initial_permutation-other_halves.ensures.right))
