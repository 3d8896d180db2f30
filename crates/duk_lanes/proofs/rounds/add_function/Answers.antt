use Rattle.std.proofs.Common.{◌+◌, ◌-◌, ℕ, Bool, List, refl, ap, ◌∙◌, arith}
use Rattle.std.proofs.lemmas.List.{length-map}
use Rattle.duk_des.specs.Des.{substitute}
use Rattle.duk_des.specs.Tables.{box1, box2, box3, box4, box5, box6, box7, box8}
use Rattle.duk_lanes.specs.Lanes.{lane_of}
use Rattle.duk_lanes.specs.inner.Schedule.{window, round_key_at}
use Rattle.duk_lanes.specs.inner.Wiring.{xored_at}
use Rattle.duk_lanes.proofs.BitsOfWords.{both}
use Rattle.duk_lanes.proofs.RoundByBoxes.{six_of_c, six_of_d, out1, out2, out3, out4, out5, out6, out7, out8, by_boxes, bits_of_window, length-window, six_bits}
use Rattle.duk_lanes.proofs.rounds.add_function.Goals as goal

pub returns : goal.returns
unfolding round_key_at
returns g c =
    λ i h.
    let lane = λ (word : g.row.L.Denot). g.L.Lanes.lane word i in
    let total : ℕ = c.args.total in
    let left : List Bool = lane_of g.L.Lanes.lane i c.args.left.now in
    let right : List Bool = lane_of g.L.Lanes.lane i c.args.right.now in
    let of_c : List Bool = window total (lane_of g.L.Lanes.lane i c.args.c.now) in
    let of_d : List Bool = window total (lane_of g.L.Lanes.lane i c.args.d.now) in
    let by_c = bits_of_window lane total (total + 28 - total) c.args.c.now (omega arith) in
    let by_d = bits_of_window lane total (total + 28 - total) c.args.d.now (omega arith) in
    let six1 = c.keyed-six.ensures i h ∙ ap (six_of_c 0 right) by_c in
    let four1 =
    c.select1-four.ensures i h
    ∙ ap (substitute box1) (six_bits lane c.keyed-six.result c.index-six-0.result c.index-six-1.result c.index-six-2.result c.index-six-3.result c.index-six-4.result c.index-six-5.result {bits = six_of_c 0 right of_c} refl six1) in
    let left1 = c.xor_at.ensures i h ∙ ap (λ four. xored_at out1 four left) four1 in
    let six2 = c.keyed-six-2.ensures i h ∙ ap (six_of_c 6 right) by_c in
    let four2 =
    c.select2-four.ensures i h
    ∙ ap (substitute box2) (six_bits lane c.keyed-six-2.result c.index-six-0-2.result c.index-six-1-2.result c.index-six-2-2.result c.index-six-3-2.result c.index-six-4-2.result c.index-six-5-2.result {bits = six_of_c 6 right of_c} refl six2) in
    let left2 = c.xor_at-2.ensures i h ∙ both (xored_at out2) four2 left1 in
    let six3 = c.keyed-six-3.ensures i h ∙ ap (six_of_c 12 right) by_c in
    let four3 =
    c.select3-four.ensures i h
    ∙ ap (substitute box3) (six_bits lane c.keyed-six-3.result c.index-six-0-3.result c.index-six-1-3.result c.index-six-2-3.result c.index-six-3-3.result c.index-six-4-3.result c.index-six-5-3.result {bits = six_of_c 12 right of_c} refl six3) in
    let left3 = c.xor_at-3.ensures i h ∙ both (xored_at out3) four3 left2 in
    let six4 = c.keyed-six-4.ensures i h ∙ ap (six_of_c 18 right) by_c in
    let four4 =
    c.select4-four.ensures i h
    ∙ ap (substitute box4) (six_bits lane c.keyed-six-4.result c.index-six-0-4.result c.index-six-1-4.result c.index-six-2-4.result c.index-six-3-4.result c.index-six-4-4.result c.index-six-5-4.result {bits = six_of_c 18 right of_c} refl six4) in
    let left4 = c.xor_at-4.ensures i h ∙ both (xored_at out4) four4 left3 in
    let six5 = c.keyed-six-5.ensures i h ∙ ap (six_of_d 24 right) by_d in
    let four5 =
    c.select5-four.ensures i h
    ∙ ap (substitute box5) (six_bits lane c.keyed-six-5.result c.index-six-0-5.result c.index-six-1-5.result c.index-six-2-5.result c.index-six-3-5.result c.index-six-4-5.result c.index-six-5-5.result {bits = six_of_d 24 right of_d} refl six5) in
    let left5 = c.xor_at-5.ensures i h ∙ both (xored_at out5) four5 left4 in
    let six6 = c.keyed-six-6.ensures i h ∙ ap (six_of_d 30 right) by_d in
    let four6 =
    c.select6-four.ensures i h
    ∙ ap (substitute box6) (six_bits lane c.keyed-six-6.result c.index-six-0-6.result c.index-six-1-6.result c.index-six-2-6.result c.index-six-3-6.result c.index-six-4-6.result c.index-six-5-6.result {bits = six_of_d 30 right of_d} refl six6) in
    let left6 = c.xor_at-6.ensures i h ∙ both (xored_at out6) four6 left5 in
    let six7 = c.keyed-six-7.ensures i h ∙ ap (six_of_d 36 right) by_d in
    let four7 =
    c.select7-four.ensures i h
    ∙ ap (substitute box7) (six_bits lane c.keyed-six-7.result c.index-six-0-7.result c.index-six-1-7.result c.index-six-2-7.result c.index-six-3-7.result c.index-six-4-7.result c.index-six-5-7.result {bits = six_of_d 36 right of_d} refl six7) in
    let left7 = c.xor_at-7.ensures i h ∙ both (xored_at out7) four7 left6 in
    let six8 = c.keyed-six-8.ensures i h ∙ ap (six_of_d 42 right) by_d in
    let four8 =
    c.select8-four.ensures i h
    ∙ ap (substitute box8) (six_bits lane c.keyed-six-8.result c.index-six-0-8.result c.index-six-1-8.result c.index-six-2-8.result c.index-six-3-8.result c.index-six-4-8.result c.index-six-5-8.result {bits = six_of_d 42 right of_d} refl six8) in
    let left8 = c.xor_at-8.ensures i h ∙ both (xored_at out8) four8 left7 in
    left8
    ∙ by_boxes left right of_c of_d (length-map c.args.left.now lane ∙ c.told-left) (length-window lane total c.args.c.now c.told-c c.requires)
    (length-window lane total c.args.d.now c.told-d c.requires)
