use Rattle.std.proofs.Common.{false, sym, ◌∙◌, arith}
use Rattle.std.proofs.lemmas.List.{ext_get_or, get_or-map, length-map}
use Rattle.duk_des.specs.Bits.{bit}
use Rattle.duk_des.proofs.PlaceTables.{place_at}
use Rattle.duk_des.proofs.bits.permute.Goals as goal

pub overflow_sub-chosen : goal.overflow_sub-chosen
overflow_sub-chosen g c = (place_at g.row.N c.args.places.now c.loop-i.i c.requires (omega arith)).0

pub bounds-bits-places : goal.bounds-bits-places
bounds-bits-places g c =
    let place = place_at g.row.N c.args.places.now c.loop-i.i c.requires (omega arith) in
    omega (arith, place.0, place.1)

pub returns : goal.returns
returns g c =
    ext_get_or false _ _ (c.loop-i.invariant.length_is ∙ sym (length-map c.args.places.now (bit c.args.bits.now) ∙ omega arith))
    (λ k h. c.loop-i.invariant.taken k (omega arith) ∙ sym (get_or-map (bit c.args.bits.now) c.args.places.now k 0 false (omega arith)))
