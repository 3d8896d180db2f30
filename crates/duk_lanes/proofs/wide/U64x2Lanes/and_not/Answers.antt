use Rattle.std.proofs.Common.{ℕ, ◌-◌, ◌^◌, ◌&&◌, List, map, bit_and, ap, ◌∙◌}
use Rattle.std.proofs.lemmas.List.{length-map}
use Rattle.duk_lanes.specs.Words.{wide_lane}
use Rattle.duk_lanes.proofs.LanesOfWords.{lane-and}
use Rattle.duk_lanes.proofs.LanesOfPairs.{gate_of_pairs, not_of_pairs}
use Rattle.duk_lanes.proofs.wide.U64x2Lanes.and_not.Goals as goal

pub returns : goal.returns
returns c i within =
    let self = c.args.self in
    let complement : List ℕ = map (λ n. 2 ^ 64 - 1 - n) c.args.other in
    gate_of_pairs bit_and (λ a b. a && b) lane-and self complement i c.fits-self.0 (length-map c.args.other (λ n. 2 ^ 64 - 1 - n) ∙ c.fits-other.0)
    ∙ ap (λ bit. wide_lane self i && bit) (not_of_pairs c.args.other i c.fits-other.0 c.fits-other.1 within)
