use Rattle.std.proofs.Common.{◌≡◌, ℕ, ◌+◌, ◌-◌, inl, inr, ap, ◌∙◌, arith}
use Rattle.std.proofs.lemmas.Bool.{cases_lt}
use Rattle.duk_lanes.specs.Lanes.{lane_of}
use Rattle.duk_lanes.specs.Words.{wide_lane}
use Rattle.duk_lanes.proofs.wide.spread_wide.Goals as goal

pub returns : goal.returns
returns c i within =
    elim (cases_lt i 64) [
      | inl below ↦ c.paired.ensures.low i below ∙ c.spread-words.ensures i below
      | inr above ↦
          let place : i ≡ 64 + (i - 64) = omega arith in
          ap (λ (k : ℕ). lane_of wide_lane k c.paired.result) place
          ∙ c.paired.ensures.high (i - 64) (omega arith)
          ∙ c.spread-words.ensures (i - 64) (omega arith)
    ]
