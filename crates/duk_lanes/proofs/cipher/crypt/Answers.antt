use Rattle.std.proofs.Common.{Bool, List, ◌++◌, map, ap, ◌∙◌}
use Rattle.duk_des.specs.Bits.{permute}
use Rattle.duk_des.specs.Des.{Halves, rounds, des_computation}
use Rattle.duk_des.specs.Tables.{final_places}
use Rattle.duk_lanes.specs.inner.Schedule.{round_key_at, round_keys_at}
use Rattle.duk_lanes.proofs.BitsOfWords.{both}
use Rattle.duk_lanes.proofs.cipher.crypt.Goals as goal

pub returns : goal.returns
unfolding des_computation round_keys_at
returns g c =
    λ i h.
    let finished : Halves → List Bool = λ halves. permute final_places (halves.right ++ halves.left) in
    let halves : List Bool → List Bool → Halves = λ left right. record { left = left; right = right } in
    let twice : List Bool → List Bool = λ half. half ++ half in
    let keys =
    both (λ left right. map (round_key_at left right) c.args.totals.now)
    (c.joined.ensures i ∙ ap twice (c.wired-c.ensures i)) (c.joined-2.ensures i ∙ ap twice (c.wired-d.ensures i)) in
    c.wired.ensures i
    ∙ ap (permute final_places) (c.joined-halves.ensures i)
    ∙ ap finished (c.rounds.ensures i h ∙ both rounds keys (both halves (c.wired-left.ensures i) (c.wired-right.ensures i)))
