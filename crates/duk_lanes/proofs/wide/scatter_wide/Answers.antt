use Rattle.std.proofs.Common.{◌≡◌, ◌+◌, ◌-◌, ℕ, [], get_or, inl, inr, ap, ◌∙◌, arith}
use Rattle.std.proofs.lemmas.Bool.{cases_lt}
use Rattle.std.proofs.lemmas.List.{get_or_append_left, get_or-append_right}
use Rattle.duk_des.specs.Bits.{bytes_of_bits}
use Rattle.duk_lanes.specs.Lanes.{lane_of}
use Rattle.duk_lanes.specs.Words.{wide_lane}
use Rattle.duk_lanes.proofs.wide.scatter_wide.Goals as goal

pub returns : goal.returns
returns c i within =
    let first = c.scatter.result in
    let second = c.scatter-2.result in
    elim (cases_lt i 64) [
      | inl below ↦
          ap (λ blocks. get_or blocks i []) c.joined.ensures
          ∙ get_or_append_left first second [] i (omega arith)
          ∙ c.scatter.ensures i below
          ∙ ap (bytes_of_bits 8) (c.parted.ensures.low i below)
      | inr above ↦
          let place : 64 + (i - 64) ≡ i = omega arith in
          ap (λ blocks. get_or blocks i []) c.joined.ensures
          ∙ get_or-append_right first second 64 i [] (omega arith) above
          ∙ c.scatter-2.ensures (i - 64) (omega arith)
          ∙ ap (bytes_of_bits 8) (c.parted.ensures.high (i - 64) (omega arith))
          ∙ ap (λ (k : ℕ). bytes_of_bits 8 (lane_of wide_lane k c.args.words.now)) place
    ]
