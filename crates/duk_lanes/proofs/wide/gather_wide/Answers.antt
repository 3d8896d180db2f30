use Rattle.std.proofs.Common.{◌≡◌, ◌+◌, ◌-◌, ℕ, [], drop, get_or, inl, inr, sym, ap, ◌∙◌, arith}
use Rattle.std.proofs.lemmas.Bool.{cases_lt}
use Rattle.std.proofs.lemmas.List.{get_or-take, get_or-drop}
use Rattle.duk_des.specs.Bits.{bits_of_bytes}
use Rattle.duk_lanes.specs.Lanes.{lane_of}
use Rattle.duk_lanes.specs.Words.{wide_lane}
use Rattle.duk_lanes.proofs.wide.gather_wide.Goals as goal

pub returns : goal.returns
returns c i within =
    let blocks = c.args.blocks.now in
    elim (cases_lt i 64) [
      | inl below ↦
          c.paired.ensures.low i below
          ∙ c.gather-low.ensures i below
          ∙ ap (λ half. bits_of_bytes (get_or half i [])) c.half_of.ensures
          ∙ ap bits_of_bytes (get_or-take 64 blocks i [] below)
      | inr above ↦
          let place : i ≡ 64 + (i - 64) = omega arith in
          ap (λ (k : ℕ). lane_of wide_lane k c.paired.result) place
          ∙ c.paired.ensures.high (i - 64) (omega arith)
          ∙ c.gather-high.ensures (i - 64) (omega arith)
          ∙ ap (λ half. bits_of_bytes (get_or half (i - 64) [])) c.half_of-2.ensures
          ∙ ap bits_of_bytes (get_or-take 64 (drop 64 blocks) (i - 64) [] (omega arith) ∙ get_or-drop 64 blocks (i - 64) [])
          ∙ ap (λ k. bits_of_bytes (get_or blocks k [])) (sym place)
    ]
