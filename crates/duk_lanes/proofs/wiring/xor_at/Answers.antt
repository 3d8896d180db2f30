use Rattle.std.proofs.Common.{ℕ, ◌+◌, ◌-◌, ◌<◌, false, drop, get_or, sym, ap, ◌∙◌, length-set, arith, rules}
use Rattle.std.specs.Bool.{xor}
use Rattle.std.proofs.lemmas.List.{get_or-map, length-map, map-set}
use Rattle.duk_lanes.specs.Lanes.{lane_of}
use Rattle.duk_lanes.specs.inner.Wiring.{xored_at}
use Rattle.duk_lanes.proofs.Places.{place_at}
use Rattle.duk_lanes.proofs.BitsOfWords.{both}
use Rattle.duk_lanes.proofs.XoredAt.{one_bit_more, no_bit_more}
use Rattle.duk_lanes.proofs.wiring.xor_at.Goals as goal

pub overflow_sub-place : goal.overflow_sub-place
overflow_sub-place g c = (place_at g.row.N c.args.places.now c.loop-k.k c.requires (omega arith)).0

pub offset_bounds-sum-place : goal.offset_bounds-sum-place
offset_bounds-sum-place g c =
    let place = place_at g.row.N c.args.places.now c.loop-k.k c.requires (omega arith) in
    let within : get_or c.args.places.now c.loop-k.k 0 - 1 < g.row.N = omega (arith, place.0, place.1) in search rules

pub listed : goal.listed
listed g c =
    let place = place_at g.row.N c.args.places.now c.loop-k.k c.requires (omega arith) in
    omega (arith, place.0, place.1, c.loop-k.invariant.length_is)

pub bounds-sum-place : goal.bounds-sum-place
bounds-sum-place g c =
    let place = place_at g.row.N c.args.places.now c.loop-k.k c.requires (omega arith) in
    omega (arith, place.0, place.1)

pub offset_bounds-sum-place-in-loop-k : goal.offset_bounds-sum-place-in-loop-k
offset_bounds-sum-place-in-loop-k g c =
    let place = place_at g.row.N c.args.places.now c.loop-k.k c.requires (omega arith) in
    let within : get_or c.args.places.now c.loop-k.k 0 - 1 < g.row.N = omega (arith, place.0, place.1) in search rules

pub listed-in-loop-k-2 : goal.listed-in-loop-k-2
listed-in-loop-k-2 g c =
    let place = place_at g.row.N c.args.places.now c.loop-k.k c.requires (omega arith) in
    omega (arith, place.0, place.1, c.loop-k.invariant.length_is)

pub bounds-sum-place-in-loop-k : goal.bounds-sum-place-in-loop-k
bounds-sum-place-in-loop-k g c =
    let place = place_at g.row.N c.args.places.now c.loop-k.k c.requires (omega arith) in
    omega (arith, place.0, place.1)

pub loop-k-preserved : goal.loop-k-preserved
loop-k-preserved g c =
    let lane = λ (i : ℕ) (word : g.row.L.Denot). g.L.Lanes.lane word i in
    let k : ℕ = c.loop-k.k in
    let at : ℕ = get_or c.args.places.now k 0 - 1 in
    let place = place_at g.row.N c.args.places.now k c.requires (omega arith) in
    record {
      length_is = rw length-set c.loop-k.invariant.length_is;
      added = λ i h.
          let bits = lane_of g.L.Lanes.lane i c.args.words.now in
          let sums = lane_of g.L.Lanes.lane i c.loop-k.sum in
          ap (xored_at (drop (k + 1) c.args.places.now) (drop (k + 1) bits)) (map-set (lane i) c.loop-k.sum at c.xor.result)
          ∙ one_bit_more c.args.places.now bits sums k (omega arith) (omega (arith, length-map c.args.words.now (lane i)))
          (c.xor.ensures i h
          ∙ both xor (sym (get_or-map (lane i) c.loop-k.sum at c.index-sum-place.result false (omega (arith, place.0, place.1, c.loop-k.invariant.length_is))))
          (sym (get_or-map (lane i) c.args.words.now k c.index-words-k.result false (omega arith))))
          ∙ c.loop-k.invariant.added i h;
    }

pub returns : goal.returns
returns g c =
    λ i h.
    sym (no_bit_more c.args.places.now (lane_of g.L.Lanes.lane i c.args.words.now) (lane_of g.L.Lanes.lane i c.loop-k.sum) c.loop-k.k (omega arith))
    ∙ c.loop-k.invariant.added i h
