use Rattle.std.proofs.Common.{ℕ, ◌-◌, false, length, get_or, sym, ap, ◌∙◌, length-set, below_more, arith}
use Rattle.std.proofs.lemmas.List.{ext_get_or, get_or-map, length-map}
use Rattle.duk_des.specs.Bits.{bit}
use Rattle.duk_lanes.specs.Lanes.{lane_of}
use Rattle.duk_lanes.proofs.Places.{place_at}
use Rattle.duk_lanes.proofs.BitsOfWords.{bit_elsewhere, bit_there}
use Rattle.duk_lanes.proofs.wiring.wired.Goals as goal

pub overflow_sub-chosen : goal.overflow_sub-chosen
overflow_sub-chosen g c = (place_at (length c.args.words.now) c.args.places.now c.loop-k.k c.requires.places (omega arith)).0

pub offset_bounds-words-places : goal.offset_bounds-words-places
offset_bounds-words-places g c =
    let place = place_at (length c.args.words.now) c.args.places.now c.loop-k.k c.requires.places (omega arith) in
    omega (arith, place.0, place.1)

pub bounds-words-places : goal.bounds-words-places
bounds-words-places g c =
    let place = place_at (length c.args.words.now) c.args.places.now c.loop-k.k c.requires.places (omega arith) in
    omega (arith, place.0, place.1)

pub loop-k-preserved : goal.loop-k-preserved
loop-k-preserved g c =
    let lane = λ (i : ℕ) (word : g.row.L.Denot). g.L.Lanes.lane word i in
    let place = place_at (length c.args.words.now) c.args.places.now c.loop-k.k c.requires.places (omega arith) in
    record {
      length_is = rw length-set c.loop-k.invariant.length_is;
      taken = λ i.
          below_more _ _
          (λ k below. bit_elsewhere (lane i) c.loop-k.chosen c.loop-k.k k c.index-words-places.result (omega arith) ∙ c.loop-k.invariant.taken i k below)
          (bit_there (lane i) c.loop-k.chosen c.loop-k.k c.index-words-places.result (omega (arith, c.loop-k.invariant.length_is))
          ∙ ap (lane i) c.index-words-places.is
          ∙ sym (get_or-map (lane i) c.args.words.now (get_or c.args.places.now c.loop-k.k 0 - 1) c.index-words-places.result false (omega (arith, place.0, place.1))));
    }

pub returns : goal.returns
returns g c =
    λ i.
    let lane = λ (word : g.row.L.Denot). g.L.Lanes.lane word i in
    let bits = lane_of g.L.Lanes.lane i c.args.words.now in
    let long = length-map c.loop-k.chosen lane in
    let as_long = length-map c.args.places.now (bit bits) in
    ext_get_or false _ _ (omega (arith, long, as_long, c.loop-k.invariant.length_is))
    (λ k below. c.loop-k.invariant.taken i k (omega (arith, long, c.loop-k.invariant.length_is))
    ∙ sym (get_or-map (bit bits) c.args.places.now k 0 false (omega (arith, long, c.loop-k.invariant.length_is))))
